use mathlib.Core.Path.{sym}
use native.Mathlib.Omega.{arith}
use borrow.Author.Rules.{rules}
use lib.Seq.{length-take-le}
use Rattle.write.specs.Print.{request_text}
use Rattle.write.proofs.Buffers.{front}
use Rattle.write.proofs.put_request.Goals as goal

pub slice_bounds-put_written-end : goal.slice_bounds-put_written-end
slice_bounds-put_written-end g c = sym (length-take-le _ _ (search rules))

pub returns : goal.returns
unfolding request_text
returns g c =
    let n = c.two_at-size in
    rw (← n.ensures.0, ← front 0 n.result 65535 (omega (arith, n.ensures.1))) c.put_written.ensures
