use mathlib.Core.Bool.{Bool, ◌&&◌}
use mathlib.Core.Path.{ap, ◌∙◌}
use Prim.Native.Nat.{ℕ, ◌+◌}
use lib.ListN.{length}
use lib.Dec.{leb}
use Rattle.program.specs.Input.{byte_at, is_input}
use Rattle.frame_request.proofs.is_request.Goals as goal

pub returns : goal.returns
returns c =
    let s = c.args.s.now in
    let n = c.two_at-at_frame.result in
    ap (λ (b : Bool). (b && leb (n + 2 + 5) (length s)) && leb c.byte_at-kind.result 3) c.is_input.ensures
    ∙ ap (λ (k : ℕ). (is_input s && leb (n + 2 + 5) (length s)) && leb k 3) c.byte_at-kind.ensures
    ∙ ap (λ (x : ℕ). (is_input s && leb (x + 2 + 5) (length s)) && leb (byte_at s (x + 2)) 3) c.two_at-at_frame.ensures.0
