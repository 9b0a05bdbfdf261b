-- What the program seqhdr reads from its input: a byte, 0 not strict or 1 strict, then the header's bytes.
use Rattle.std.specs.Prelude.{Bool, ◌&&◌, false, List, ℕ, leb, eqb, length, drop}
use Rattle.answers.specs.declared.Answer.TheVariants.{WrongArguments}
use Rattle.getbits.specs.Bits.{place_at}
use Rattle.getbits.specs.Chain.{pick}
use Rattle.program.specs.Input.{byte_at, is_input}
use Rattle.seq_record.specs.Zero.{no_seq_hdr}
use Rattle.seq_hdr.specs.declared.SeqRead.{SeqRead}
use Rattle.seq_hdr.specs.Header.{parse_seq_hdr}

-- a first byte of 0 or 1, and 65,536 bytes at most
abbrev pub is_seq_request : List ℕ → Bool
is_seq_request s = (leb 1 (length s) && is_input s) && leb (byte_at s 0) 1

-- another input is 4
unfoldable pub seq_request : List ℕ → SeqRead
seq_request s =
    pick (is_seq_request s)
    (parse_seq_hdr (drop 1 s) (place_at 0 false) (eqb (byte_at s 0) 1))
    (record { answer = WrongArguments; hdr = no_seq_hdr; next = place_at 0 false })
