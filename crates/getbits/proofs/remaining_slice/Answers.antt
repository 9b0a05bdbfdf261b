use mathlib.Core.Path.{◌∙◌, ap}
use Prim.Native.Nat.{ℕ, ◌-◌}
use native.Mathlib.Omega.{arith}
use lib.Seq.{take_all}
use lib.ListN.{drop, length, length-drop}
use Rattle.getbits.proofs.Callers.{byte_pos_le}
use Rattle.getbits.proofs.remaining_slice.Goals as goal

pub slice_bounds_result_count : goal.slice_bounds_result_count
slice_bounds_result_count c =
    let a = c.args in
    omega (arith, c.byte_pos-at.ensures, byte_pos_le a.s.now a.p)

pub slice_bounds_result_start : goal.slice_bounds_result_start
slice_bounds_result_start c =
    let a = c.args in
    omega (arith, c.byte_pos-at.ensures, byte_pos_le a.s.now a.p)

pub returns : goal.returns
returns c =
    let a = c.args in
    let at = c.byte_pos-at in
    take_all (length a.s.now - at.result) (drop at.result a.s.now) (simp length-drop (omega arith)) ∙ ap (λ (k : ℕ). drop k a.s.now) at.ensures
