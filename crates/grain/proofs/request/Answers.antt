use mathlib.Core.Bool.{false}
use mathlib.Core.List.{List}
use mathlib.Core.Path.{◌≡◌, sym, ap, ◌∙◌}
use Prim.Native.Nat.{ℕ, ◌-◌, ◌≤◌}
use native.Mathlib.Omega.{arith}
use borrow.Author.Tests.{leb-true}
use lib.Dec.{leb}
use lib.ListN.{get_or, length, take, drop, length-drop}
use lib.Seq.{take_all}
use Rattle.answers.specs.declared.Answer.TheVariants.{WrongArguments}
use Rattle.getbits.specs.Bits.{place_at}
use Rattle.getbits.proofs.Chain.{both, taken, left}
use Rattle.seq_fields.specs.Fields.{layout_of}
use Rattle.film_grain.specs.Grain.{parse_film_grain_data}
use Rattle.film_grain.specs.declared.FilmGrainData.{FilmGrainData}
use Rattle.grain.specs.Request.{grain_request}
use Rattle.grain.proofs.request.Goals as goal

pub bounds_s_0 : goal.bounds_s_0
bounds_s_0 c =
    let long : 1 ≤ length c.args.s.now = let s = c.args.s.now in
    let h = (both _ (leb (get_or s 0 0) 3) (sym c.is_request.ensures ∙ c.if-is_request.true)).0 in
    leb-true 1 (length s) (both _ (leb (length s) 65536) h).0 in
    omega (arith, long)

pub slice_bounds_parse_film_grain_data_count : goal.slice_bounds_parse_film_grain_data_count
slice_bounds_parse_film_grain_data_count c =
    let long : 1 ≤ length c.args.s.now = let s = c.args.s.now in
    let h = (both _ (leb (get_or s 0 0) 3) (sym c.is_request.ensures ∙ c.if-is_request.true)).0 in
    leb-true 1 (length s) (both _ (leb (length s) 65536) h).0 in
    long

pub slice_bounds_parse_film_grain_data_start : goal.slice_bounds_parse_film_grain_data_start
slice_bounds_parse_film_grain_data_start c =
    let long : 1 ≤ length c.args.s.now = let s = c.args.s.now in
    let h = (both _ (leb (get_or s 0 0) 3) (sym c.is_request.ensures ∙ c.if-is_request.true)).0 in
    leb-true 1 (length s) (both _ (leb (length s) 65536) h).0 in
    long

pub returns-then-is_request : goal.returns-then-is_request
unfolding grain_request
returns-then-is_request c =
    let s = c.args.s.now in
    let rest : take (length s - 1) (drop 1 s) ≡ drop 1 s = take_all (length s - 1) (drop 1 s) (simp length-drop (omega arith)) in
    rw c.layout_of-layout.ensures at c.parse_film_grain_data.ensures.value
    ∙ ap (λ (x : List ℕ). parse_film_grain_data x (place_at 0 false) (layout_of (get_or s 0 0))) rest
    ∙ sym (taken _ _ _ (sym c.is_request.ensures ∙ c.if-is_request.true))

pub returns : goal.returns
unfolding grain_request
returns c =
    ap (λ (x : FilmGrainData). record { answer = WrongArguments; fgd = x; next = place_at 0 false }) c.no_film_grain-none.ensures
    ∙ sym (left _ _ _ (sym c.is_request.ensures ∙ c.if-is_request.false))
