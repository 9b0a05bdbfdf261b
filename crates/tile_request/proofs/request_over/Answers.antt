use mathlib.Core.Bool.{false}
use mathlib.Core.List.{List}
use mathlib.Core.Path.{◌≡◌, sym, ap, ◌∙◌}
use Prim.Native.Nat.{ℕ, ◌-◌, ◌≤◌}
use native.Mathlib.Omega.{arith}
use borrow.Author.Tests.{leb-true}
use lib.ListN.{get_or, length, take, drop, length-drop}
use lib.Seq.{take_all}
use lib.IntN.{ℤ, pos}
use lib.Dec.{leb}
use mir.Syntax.{w32}
use mir.Val.{to_z, of_z}
use Rattle.tile_layout.specs.Layout.{parse_tile_info}
use Rattle.tile_layout.specs.Limits.{args_of}
use Rattle.tile_layout.specs.declared.TileRead.{TileRead}
use Rattle.tile_layout.specs.declared.TileInfo.{TileInfo}
use Rattle.getbits.specs.Bits.{place_at}
use Rattle.getbits.proofs.Widths.{back}
use Rattle.superblocks.specs.Counts.{multiplier_of}
use Rattle.tile_request.specs.Request.{samples_at, request_over}
use Rattle.getbits.proofs.Chain.{both, taken, left}
use Rattle.tile_request.proofs.request_over.Goals as goal

-- the layout read for a request s
abbrev read : List ℕ → List ℕ → TileInfo → ℤ → ℤ → ℤ → TileRead
read s bits old m w h = parse_tile_info bits (place_at 0 false) old (args_of m (get_or s 4 0) (get_or s 5 0) w h (get_or s 6 0) (get_or s 7 0))

pub bounds_s_4 : goal.bounds_s_4
bounds_s_4 c =
    let long : 8 ≤ length c.args.s.now = let s = c.args.s.now in
    leb-true 8 (length s) (both (leb 8 (length s)) (leb (length s) 65536) (sym c.is_request.ensures ∙ c.if-is_request.true)).0 in
    omega (arith, long)

pub bounds_s_5 : goal.bounds_s_5
bounds_s_5 c =
    let long : 8 ≤ length c.args.s.now = let s = c.args.s.now in
    leb-true 8 (length s) (both (leb 8 (length s)) (leb (length s) 65536) (sym c.is_request.ensures ∙ c.if-is_request.true)).0 in
    omega (arith, long)

pub slice_bounds_parse_tile_info_count : goal.slice_bounds_parse_tile_info_count
slice_bounds_parse_tile_info_count c =
    let long : 8 ≤ length c.args.s.now = let s = c.args.s.now in
    leb-true 8 (length s) (both (leb 8 (length s)) (leb (length s) 65536) (sym c.is_request.ensures ∙ c.if-is_request.true)).0 in
    long

pub slice_bounds_parse_tile_info_start : goal.slice_bounds_parse_tile_info_start
slice_bounds_parse_tile_info_start c =
    let long : 8 ≤ length c.args.s.now = let s = c.args.s.now in
    leb-true 8 (length s) (both (leb 8 (length s)) (leb (length s) 65536) (sym c.is_request.ensures ∙ c.if-is_request.true)).0 in
    long

pub bounds_s_6 : goal.bounds_s_6
bounds_s_6 c =
    let long : 8 ≤ length c.args.s.now = let s = c.args.s.now in
    leb-true 8 (length s) (both (leb 8 (length s)) (leb (length s) 65536) (sym c.is_request.ensures ∙ c.if-is_request.true)).0 in
    omega (arith, long)

pub bounds_s_7 : goal.bounds_s_7
bounds_s_7 c =
    let long : 8 ≤ length c.args.s.now = let s = c.args.s.now in
    leb-true 8 (length s) (both (leb 8 (length s)) (leb (length s) 65536) (sym c.is_request.ensures ∙ c.if-is_request.true)).0 in
    omega (arith, long)

pub returns-then-is_request : goal.returns-then-is_request
unfolding request_over
returns-then-is_request c =
    let a = c.args in
    let s = a.s.now in
    let m = c.multiplier-sbmul in
    let w = c.samples-w in
    let h = c.samples-h in
    let rest : take (length s - 8) (drop 8 s) ≡ drop 8 s = take_all (length s - 8) (drop 8 s) (simp length-drop (omega arith)) in
    c.parse_tile_info.ensures.value
    ∙ ap (λ (x : List ℕ). read s x a.old (to_z w32 (of_z w32 m.result)) (to_z w32 (of_z w32 w.result)) (to_z w32 (of_z w32 h.result))) rest
    ∙ ap (λ (x : ℤ). read s (drop 8 s) a.old x (to_z w32 (of_z w32 w.result)) (to_z w32 (of_z w32 h.result))) (back m.result m.type_inv ∙ m.ensures)
    ∙ ap (λ (x : ℤ). read s (drop 8 s) a.old (pos (multiplier_of (get_or s 4 0) (get_or s 5 0))) x (to_z w32 (of_z w32 h.result))) (back w.result w.type_inv ∙ w.ensures)
    ∙ ap (λ (x : ℤ). read s (drop 8 s) a.old (pos (multiplier_of (get_or s 4 0) (get_or s 5 0))) (pos (samples_at s 0)) x) (back h.result h.type_inv ∙ h.ensures)
    ∙ sym (taken _ _ _ (sym c.is_request.ensures ∙ c.if-is_request.true))

pub returns : goal.returns
unfolding request_over
returns c = sym (left _ _ _ (sym c.is_request.ensures ∙ c.if-is_request.false))
