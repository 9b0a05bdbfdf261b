use mathlib.Core.Bool.{false}
use mathlib.Core.List.{List}
use mathlib.Core.Path.{◌≡◌, sym, ap, ◌∙◌}
use Prim.Native.Nat.{ℕ, ◌-◌, ◌≤◌}
use native.Mathlib.Omega.{arith}
use borrow.Author.Tests.{leb-true}
use lib.Dec.{leb, eqb}
use lib.ListN.{get_or, length, take, drop, length-drop}
use lib.Seq.{take_all}
use Rattle.answers.specs.declared.Answer.TheVariants.{WrongArguments}
use Rattle.getbits.specs.Bits.{place_at}
use Rattle.getbits.proofs.Chain.{both, taken, left}
use Rattle.seq_record.specs.declared.SequenceHeader.{SequenceHeader}
use Rattle.seq_hdr.specs.Header.{parse_seq_hdr}
use Rattle.seqhdr.specs.Request.{seq_request}
use Rattle.seqhdr.proofs.request.Goals as goal

pub bounds_s_0 : goal.bounds_s_0
bounds_s_0 c =
    let long : 1 ≤ length c.args.s.now = let s = c.args.s.now in
    let h = (both _ (leb (get_or s 0 0) 1) (sym c.is_request.ensures ∙ c.if-is_request.true)).0 in
    leb-true 1 (length s) (both _ (leb (length s) 65536) h).0 in
    omega (arith, long)

pub slice_bounds_parse_seq_hdr_count : goal.slice_bounds_parse_seq_hdr_count
slice_bounds_parse_seq_hdr_count c =
    let long : 1 ≤ length c.args.s.now = let s = c.args.s.now in
    let h = (both _ (leb (get_or s 0 0) 1) (sym c.is_request.ensures ∙ c.if-is_request.true)).0 in
    leb-true 1 (length s) (both _ (leb (length s) 65536) h).0 in
    long

pub slice_bounds_parse_seq_hdr_start : goal.slice_bounds_parse_seq_hdr_start
slice_bounds_parse_seq_hdr_start c =
    let long : 1 ≤ length c.args.s.now = let s = c.args.s.now in
    let h = (both _ (leb (get_or s 0 0) 1) (sym c.is_request.ensures ∙ c.if-is_request.true)).0 in
    leb-true 1 (length s) (both _ (leb (length s) 65536) h).0 in
    long

pub returns-then-is_request : goal.returns-then-is_request
unfolding seq_request
returns-then-is_request c =
    let s = c.args.s.now in
    let rest : take (length s - 1) (drop 1 s) ≡ drop 1 s = take_all (length s - 1) (drop 1 s) (simp length-drop (omega arith)) in
    c.parse_seq_hdr.ensures.value
    ∙ ap (λ (x : List ℕ). parse_seq_hdr x (place_at 0 false) (eqb (get_or s 0 0) 1)) rest
    ∙ sym (taken _ _ _ (sym c.is_request.ensures ∙ c.if-is_request.true))

pub returns : goal.returns
unfolding seq_request
returns c =
    ap (λ (x : SequenceHeader). record { answer = WrongArguments; hdr = x; next = place_at 0 false }) c.no_seq_hdr-none.ensures
    ∙ sym (left _ _ _ (sym c.is_request.ensures ∙ c.if-is_request.false))
