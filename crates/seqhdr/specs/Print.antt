-- What the program seqhdr prints (docs/PROGRAMS.md).
use Rattle.std.specs.Prelude.{List, ◌++◌, ℕ}
use Rattle.answers.specs.Numbers.{number_of, is_refusal}
use Rattle.getbits.specs.Chain.{pick}
use Rattle.getbits.specs.declared.Place.{Place}
use Rattle.program.specs.Output.{ok_text, refusal_text}
use Rattle.seq_hdr.specs.declared.SeqRead.{SeqRead}
use Rattle.seq_record.specs.declared.SequenceHeader.{SequenceHeader}
use Rattle.seqhdr.specs.Fields.{header_text}
use Rattle.seqhdr.specs.Request.{seq_request}

-- accepted: ok, bits used, reader error; then the fields
unfoldable pub seq_accepted_text : SequenceHeader → Place → List ℕ
seq_accepted_text hdr next = ok_text next ++ header_text hdr

-- what is printed of a reading
unfoldable pub seq_read_text : SeqRead → List ℕ
seq_read_text r =
    pick (is_refusal r.answer) (refusal_text (number_of r.answer) r.next) (seq_accepted_text r.hdr r.next)

-- what is printed of an input
unfoldable pub seqhdr_text : List ℕ → List ℕ
seqhdr_text s = seq_read_text (seq_request s)
