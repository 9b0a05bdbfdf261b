use Rattle.std.proofs.Common.{ℤ, ap, ◌∙◌, to_z-of_z}
use Rattle.getbits.proofs.Widths.{back}
use Rattle.getbits.specs.declared.Read.{Read}
use Rattle.capi_bits.specs.Numbers.{lent_signed}
use Rattle.capi_bits.proofs.mubanlig_get_sbits.Goals as goal

pub returns : goal.returns
returns c =
    rw (back c.hand_back_signed.result c.hand_back_signed.type_inv) (c.hand_back_signed.ensures ∙ ap (λ (x : Read ℤ). lent_signed x c.args.error.now) (rw (to_z-of_z c.ranges.n, c.place_of.ensures) at c.get_sbits-r.ensures))
