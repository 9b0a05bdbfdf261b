use mathlib.Core.Bool.{false}
use mathlib.Core.Path.{◌≡◌, ap, ◌∙◌}
use Prim.Native.Nat.{ℕ, ◌+◌, ◌-◌}
use native.Mathlib.Omega.{arith}
use lib.ListN.{take, drop}
use Rattle.getbits.specs.Bits.{place_at}
use Rattle.program.specs.Input.{two_at}
use Rattle.seq_hdr.specs.Header.{parse_seq_hdr}
use Rattle.frame_request.proofs.Long.{long}
use Rattle.frame_request.proofs.request_header.Goals as goal

pub slice_bounds_parse_seq_hdr_end : goal.slice_bounds_parse_seq_hdr_end
slice_bounds_parse_seq_hdr_end c =
    omega (arith, long c.args.s.now c.requires, c.two_at-at_frame.ensures.0)

pub returns : goal.returns
returns c =
    let n = c.two_at-at_frame in
    let s = c.args.s.now in
    let e : n.result + 2 - 2 ≡ two_at s 0 = omega (arith, n.ensures.0) in
    c.parse_seq_hdr.ensures.value ∙ ap (λ (x : ℕ). parse_seq_hdr (take x (drop 2 s)) (place_at 0 false) false) e
