use mathlib.Core.List.{append-nil}
use mathlib.Core.Path.{◌≡◌, ◌∙◌}
use Rattle.flat_hdr.specs.Header.{flat_seq_hdr}
use Rattle.text.specs.Text.{word, lines}
use Rattle.text.proofs.Chains.{also, sizes}
use Rattle.seqhdr.specs.Fields.{header_text, grain_text}
use Rattle.seqhdr.proofs.put_header.Goals as goal

pub returns : goal.returns
unfolding header_text grain_text lines word
returns g c =
    let hdr = c.args.hdr in
    let numbers : c.put_seq_hdr.new.out ≡ flat_seq_hdr hdr = c.put_seq_hdr.ensures ∙ append-nil (flat_seq_hdr hdr) in
    let p = c.put_fields.ensures in
    let q = c.put_layout.ensures in
    let r = c.push_filled.ensures in
    rw (← numbers) (record { text = also _ _ _ _ p.text (also _ _ _ _ q.text r.text); size = sizes _ _ p.size (sizes _ _ q.size r.size) })
