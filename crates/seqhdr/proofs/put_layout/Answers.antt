use Rattle.text.specs.Text.{word}
use Rattle.text.proofs.Chains.{also}
use Rattle.seqhdr.specs.Fields.{seq_layout_text}
use Rattle.seqhdr.proofs.put_layout.Goals as goal

pub returns-clause-text : goal.returns-clause-text
unfolding seq_layout_text word
returns-clause-text g c =
    also _ _ _ _ c.put_columns.ensures.text (also _ _ _ _ c.put_rows.ensures.text (also _ _ _ _ c.put_starts.ensures.text c.put_starts-2.ensures.text))
