use Rattle.text.specs.Text.{word}
use Rattle.text.proofs.Chains.{also}
use Rattle.text.proofs.Rows.{flag}
use Rattle.seqhdr.specs.Fields.{columns_text}
use Rattle.seqhdr.proofs.put_columns.Goals as goal

pub returns-clause-text : goal.returns-clause-text
unfolding columns_text word
returns-clause-text g c =
    rw (flag c.args.t.now.uniform, ← c.from.ensures, ← c.from-2.ensures, ← c.from-3.ensures, ← c.from-4.ensures, ← c.from-5.ensures)
    (also _ _ _ _ c.put_field.ensures.text (also _ _ _ _ c.put_field-2.ensures.text (also _ _ _ _ c.put_field-3.ensures.text (also _ _ _ _ c.put_field-4.ensures.text c.put_field-5.ensures.text))))
