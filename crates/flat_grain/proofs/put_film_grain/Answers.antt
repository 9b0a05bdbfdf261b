use mathlib.Core.Path.{◌∙◌}
use native.Mathlib.Omega.{arith}
use borrow.Author.Tests.{le-leb}
use lib.ListN.{length, drop}
use Rattle.getbits.proofs.Chain.{taken}
use Rattle.flat_grain.specs.Grain.{flat_film_grain}
use Rattle.flat.proofs.Rows.{fronted, kept}
use Rattle.flat_grain.proofs.Parts.{has_lists}
use Rattle.flat_grain.proofs.put_film_grain.Goals as goal

pub returns-then-out-lt186 : goal.returns-then-out-lt186
returns-then-out-lt186 c =
    record { out_after = kept 186 (flat_film_grain c.args.fgd) c.args.out.now c.if-out-lt186.true; has_lists = λ h. absurd (omega (arith, c.if-out-lt186.true)) }

pub returns : goal.returns
returns c =
    let room = c.if-out-lt186.false in
    let a = c.args in
    let over = fronted c.put_fields.ensures.put_at room in
    record { out_after = over; has_lists = λ h. rw (over ∙ taken _ _ _ (le-leb 186 (length a.out.now) room)) (has_lists a.fgd (drop 186 a.out.now) c.put_fields.ensures.by_index) }
