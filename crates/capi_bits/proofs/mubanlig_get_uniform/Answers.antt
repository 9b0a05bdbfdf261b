use Rattle.std.proofs.Common.{◌≡◌, ℕ, ◌^◌, ◌<◌, ◌≤◌, ltb, leb, ap, ◌∙◌, arith, ltb-true, leb-true}
use Rattle.codes.proofs.Callers.{length_is}
use Rattle.codes.specs.Codes.{bit_length}
use Rattle.getbits.proofs.Chain.{both}
use Rattle.getbits.specs.Bits.{look_at}
use Rattle.getbits.specs.declared.Read.{Read}
use Rattle.getbits.specs.declared.Place.{Place}
use Rattle.lent.specs.Lent.{place_of}
use Rattle.capi_bits.specs.Numbers.{lent_number}
use Rattle.capi_bits.proofs.Ahead.{uniform_short, uniform_long}
use Rattle.capi_bits.proofs.mubanlig_get_uniform.Goals as goal
use Rattle.capi_bits.proofs.mubanlig_get_uniform.Goals.{After-look_ahead-w}

-- the bits are there and have been looked at
module _ (c : After-look_ahead-w) where
  abbrev max : ℕ
  max = c.args.max

  bounds : (2 ≤ max) × (max < 2 ^ 31)
  bounds =
      let t = both (leb 2 max) (ltb max (2 ^ 31)) c.if-max.true in
      (leb-true 2 max t.0, ltb-true max (2 ^ 31) t.1)

  bits : c.uniform_forms-f.result.bits ≡ bit_length max
  bits = c.uniform_forms-f.ensures.0

  looked : c.look_ahead-w.result ≡ look_at c.args.s.now (place_of c.args.position.now 0) (bit_length max)
  looked =
      c.look_ahead-w.ensures
      ∙ ap (λ (x : Place). look_at c.args.s.now x c.uniform_forms-f.result.bits) c.place_of.ensures
      ∙ ap (look_at c.args.s.now (place_of c.args.position.now 0)) bits

pub overflow_sub-l : goal.overflow_sub-l
overflow_sub-l c = omega (arith, bits (goal.at.overflow_sub-l c).After-look_ahead-w, (length_is (max (goal.at.overflow_sub-l c).After-look_ahead-w) (omega (arith, (bounds (goal.at.overflow_sub-l c).After-look_ahead-w).0)) (bounds (goal.at.overflow_sub-l c).After-look_ahead-w).1).0)

pub returns-then-w-m : goal.returns-then-w-m
returns-then-w-m c =
    let a = c.args in
    uniform_short a.s.now a.position.now a.error.now a.max (bounds (goal.at.returns-then-w-m c).After-look_ahead-w).0 (bounds (goal.at.returns-then-w-m c).After-look_ahead-w).1 (omega arith)
    c.look_ahead-w.result (looked (goal.at.returns-then-w-m c).After-look_ahead-w) (rw c.uniform_forms-f.ensures.1 at c.if-w-m.true) (rw (bits (goal.at.returns-then-w-m c).After-look_ahead-w) at c.wrapping_add_usize.ensures.value)

pub returns-then-at-s : goal.returns-then-at-s
returns-then-at-s c =
    let a = c.args in
    rw c.uniform_forms-f.ensures.1 (uniform_long a.s.now a.position.now a.error.now a.max (bounds (goal.at.returns-then-at-s c).After-look_ahead-w).0 (bounds (goal.at.returns-then-at-s c).After-look_ahead-w).1 (omega arith)
    c.look_ahead-w.result (looked (goal.at.returns-then-at-s c).After-look_ahead-w) (omega (arith, c.uniform_forms-f.ensures.1)) (rw (bits (goal.at.returns-then-at-s c).After-look_ahead-w) at c.wrapping_add_usize-then-at-s.ensures.value))

pub returns : goal.returns
returns c =
    c.hand_back.ensures ∙ ap (λ (x : Read ℕ). lent_number x c.args.error.now) (rw c.place_of-2.ensures at c.get_uniform-r.ensures)
