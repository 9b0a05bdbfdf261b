use Rattle.std.proofs.Common.{ℤ, ◌≡◌, ℕ, [], ◌∷◌, pos}
use Rattle.getbits.proofs.Widths.{back}
use Rattle.getbits.specs.declared.Read.{Read}
use Rattle.lent.specs.Lent.{lent_place}
use Rattle.capi_bits.specs.Numbers.{lent_signed}
use Rattle.capi_bits.proofs.hand_back_signed.Goals as goal

-- a signed number, and the place that was put behind it
signed : (r : Read ℤ) (error : ℕ) {n e : ℕ} → (n ∷ e ∷ []) ≡ lent_place r.next error → (r.value ∷ pos n ∷ pos e ∷ []) ≡ lent_signed r error
signed r error place = cc

pub returns : goal.returns
returns c =
    let a = c.args in
    rw (back a.r.value c.struct_told-1.given.0.1) (signed a.r a.error.now c.put_place.ensures)
