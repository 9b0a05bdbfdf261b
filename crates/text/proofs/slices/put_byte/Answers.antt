use mathlib.Core.Path.{sym}
use native.Mathlib.Omega.{arith}
use borrow.Author.Rules.{rules}
use lib.Seq.{set_out}
use Rattle.text.specs.Put.{behind}
use Rattle.text.proofs.slices.put_byte.Goals as goal

pub returns-then-at-out : goal.returns-then-at-out
unfolding behind
returns-then-at-out c = search rules

pub returns : goal.returns
unfolding behind
returns c = record { text = sym (set_out _ _ _ c.if-at-out.false); place = omega arith; size = omega arith }
