use Rattle.flat_hdr.proofs.put_entropy.Goals as goal

pub returns : goal.returns
returns c = rw c.adaptive_number.ensures at c.put_bytes.ensures
