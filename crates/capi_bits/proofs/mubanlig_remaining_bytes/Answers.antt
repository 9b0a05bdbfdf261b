use Rattle.capi_bits.proofs.mubanlig_remaining_bytes.Goals as goal

pub returns : goal.returns
returns c = rw c.place_at.ensures at c.remaining_bytes.ensures
