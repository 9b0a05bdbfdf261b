use Rattle.std.proofs.Common.{◌≡◌, ℕ, zero, suc, Bool, true, false, [], ◌∷◌, refl, arith, ne_eqb}
use Rattle.getbits.specs.declared.Place.{Place}
use Rattle.lent.specs.Lent.{position_of, error_after, lent_place}
use Rattle.lent.proofs.put_place.Goals as goal

-- an error that was set stays as it was
set_stays : (e : Bool) (error : ℕ) → (error ≡ 0 → ⊥) → error ≡ error_after e error
set_stays e error h = rw (ne_eqb error 0 h) refl

-- without an error the byte stays as it was
none_stays : (error : ℕ) → error ≡ error_after false error
none_stays zero = refl
none_stays (suc n) = set_stays false (suc n) (λ e. omega arith)

-- an error that is new is stored as 1
newly : (e : Bool) (error : ℕ) → e ≡ true → error ≡ 0 → 1 ≡ error_after e error
newly e error h k = rw (h, k)

-- position and error beside each other
pair : (p : Place) (e : ℕ) {n x : ℕ} → n ≡ position_of p → x ≡ error_after p.error e → (n ∷ x ∷ []) ≡ lent_place p e
pair p e h k = cc

pub returns-then-error-eq0 : goal.returns-then-error-eq0
returns-then-error-eq0 c =
    let a = c.args in
    pair a.p a.error.now c.position_of.ensures (newly a.p.error a.error.now c.if-p.true c.if-error-eq0.true)

pub returns-else-error-eq0 : goal.returns-else-error-eq0
returns-else-error-eq0 c =
    let a = c.args in
    pair a.p a.error.now c.position_of.ensures (set_stays a.p.error a.error.now c.if-error-eq0.false)

pub returns-else-p : goal.returns-else-p
returns-else-p c =
    let a = c.args in
    pair a.p a.error.now c.position_of.ensures (rw c.if-p.false (none_stays a.error.now))
