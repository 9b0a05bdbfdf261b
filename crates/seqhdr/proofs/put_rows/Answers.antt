use Rattle.text.specs.Text.{word}
use Rattle.text.proofs.Chains.{also}
use Rattle.seqhdr.specs.Fields.{rows_text}
use Rattle.seqhdr.proofs.put_rows.Goals as goal

pub returns-clause-text : goal.returns-clause-text
unfolding rows_text word
returns-clause-text g c =
    rw (← c.from.ensures, ← c.from-2.ensures, ← c.from-3.ensures, ← c.from-4.ensures)
    (also _ _ _ _ c.put_field.ensures.text (also _ _ _ _ c.put_field-2.ensures.text (also _ _ _ _ c.put_field-3.ensures.text c.put_field-4.ensures.text)))
