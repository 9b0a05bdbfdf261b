use mathlib.Core.Path.{◌≡◌, ap, ◌∙◌}
use Prim.Native.Nat.{ℕ, ◌+◌}
use native.Mathlib.Omega.{arith}
use lib.ListN.{get_or}
use Rattle.frame_layout.specs.declared.FrameType.{FrameType}
use Rattle.program.specs.Input.{two_at}
use Rattle.frame_layout.specs.Frame.{frame_type_of}
use Rattle.frame_request.specs.Request.{frame_of, frame_at}
use Rattle.frame_request.proofs.given_frame.Goals as goal

pub returns : goal.returns
returns c =
    let s = c.args.s.now in
    let k : c.two_at-at_frame.result + 2 ≡ frame_at s = omega (arith, c.two_at-at_frame.ensures.0) in
    let t = c.frame_type_of-frame_type in
    let w = c.two_at in
    let h = c.two_at-2 in
    c.frame_of.ensures
    ∙ ap (λ (x : FrameType). frame_of x (w.result + 1) (h.result + 1)) (t.ensures ∙ ap frame_type_of (c.byte_at.ensures ∙ ap (λ (x : ℕ). get_or s x 0) k))
    ∙ ap (λ (x : ℕ). frame_of (frame_type_of (get_or s (frame_at s) 0)) (x + 1) (h.result + 1)) (w.ensures.0 ∙ ap (λ (x : ℕ). two_at s (x + 1)) k)
    ∙ ap (λ (x : ℕ). frame_of (frame_type_of (get_or s (frame_at s) 0)) (two_at s (frame_at s + 1) + 1) (x + 1)) (h.ensures.0 ∙ ap (λ (x : ℕ). two_at s (x + 3)) k)
