use mathlib.Core.Path.{◌≡◌}
use Prim.Native.Nat.{◌-◌}
use native.Mathlib.Omega.{arith}
use lib.ListN.{length, take, drop, length-drop}
use lib.Seq.{take_all}
use Rattle.getbits.proofs.Widths.{back}
use Rattle.write.proofs.write_request.Goals as goal

pub returns : goal.returns
returns c =
    let t = c.given_layout-t in
    let m = c.multiplier-sbmul in
    let w = c.samples-w in
    let h = c.samples-h in
    let s = c.args.s.now in
    let rest : take (length s - 8) (drop 8 s) ≡ drop 8 s = take_all (length s - 8) (drop 8 s) (simp length-drop (omega arith)) in
    rw (back m.result m.type_inv, back w.result w.type_inv, back h.result h.type_inv, m.ensures, w.ensures, h.ensures, t.ensures, rest) at c.write_tile_info.ensures.out_after
