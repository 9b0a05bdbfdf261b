use Rattle.std.proofs.Common.{ℕ, ap, ◌∙◌, to_z-of_z}
use Rattle.getbits.specs.declared.Read.{Read}
use Rattle.capi_bits.specs.Numbers.{lent_number}
use Rattle.capi_bits.proofs.mubanlig_get_bits_subexp_u.Goals as goal

pub returns : goal.returns
returns c =
    c.hand_back.ensures ∙ ap (λ (x : Read ℕ). lent_number x c.args.error.now) (rw (to_z-of_z c.ranges.k, c.place_of.ensures) at c.get_bits_subexp_u-r.ensures)
