use Rattle.std.proofs.Common.{ℕ, ap, ◌∙◌}
use Rattle.getbits.specs.declared.Read.{Read}
use Rattle.capi_bits.specs.Numbers.{lent_number}
use Rattle.capi_bits.proofs.mubanlig_get_vlc.Goals as goal

pub returns : goal.returns
returns c =
    c.hand_back.ensures ∙ ap (λ (x : Read ℕ). lent_number x c.args.error.now) (rw c.place_of.ensures at c.get_vlc-r.ensures)
