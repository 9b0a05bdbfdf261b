use mathlib.Core.Path.{◌≡◌}
use borrow.Author.Rules.{rules}
use mir.Syntax.{w16}
use mir.Val.{to_z, of_z}
use Rattle.seg_info.proofs.put.Goals as goal

-- the delta, read back from its bits
back : (s : goal.Then-f) → to_z w16 (of_z w16 s.args.f.delta) ≡ s.args.f.delta
back s = search rules

pub returns-then-f : goal.returns-then-f
returns-then-f c =
    simp (c.if-f.true, back c, c.mark.ensures, c.mark-2.ensures, c.mark-3.ensures)

pub returns : goal.returns
returns c =
    simp (c.if-f.false, c.mark.ensures, c.mark-2.ensures, c.mark-3.ensures)
