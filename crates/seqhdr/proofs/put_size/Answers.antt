use Rattle.text.specs.Text.{word, lines}
use Rattle.text.proofs.Chains.{also, sizes}
use Rattle.seqhdr.specs.Fields.{size_text}
use Rattle.seqhdr.proofs.put_size.Goals as goal

pub returns : goal.returns
unfolding size_text lines word
returns g c =
    let p = c.push_filled.ensures in
    let q = c.push_filled-2.ensures in
    let r = c.push_filled-3.ensures in
    record { text = also _ _ _ _ p.text (also _ _ _ _ q.text r.text); size = sizes _ _ p.size (sizes _ _ q.size r.size) }
