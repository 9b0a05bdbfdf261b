use Rattle.capi_bits.proofs.mubanlig_byte_pos.Goals as goal

pub returns : goal.returns
returns c = rw c.place_at.ensures at c.byte_pos.ensures
