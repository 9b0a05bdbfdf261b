use mathlib.Core.Path.{sym}
use borrow.Author.Tests.{lt-ltb, le-ltb}
use Rattle.getbits.proofs.Chain.{taken, left}
use Rattle.seq_picture.proofs.hbd_of.Goals as goal

pub returns-then-index-lt2 : goal.returns-then-index-lt2
returns-then-index-lt2 c = sym (taken _ _ _ (lt-ltb _ _ c.if-index-lt2.true))

pub returns-else-index-lt2 : goal.returns-else-index-lt2
returns-else-index-lt2 c = sym (left _ _ _ (le-ltb _ _ c.if-index-lt2.false))
