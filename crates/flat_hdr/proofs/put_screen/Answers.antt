use Rattle.flat_hdr.proofs.put_screen.Goals as goal

pub returns : goal.returns
returns c = rw (c.adaptive_number.ensures, c.adaptive_number-2.ensures) at c.put_bytes.ensures
