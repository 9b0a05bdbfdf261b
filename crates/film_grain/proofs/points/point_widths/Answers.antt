use mathlib.Core.Bool.{Bool, true, false, ◌||◌}
use mathlib.Core.List.{List}
use mathlib.Core.Path.{◌≡◌, refl, sym, ◌∙◌}
use Prim.Native.Nat.{ℕ, ◌+◌, ◌/◌, ◌%◌, ◌≤◌}
use native.Mathlib.Omega.{arith}
use borrow.Author.Rules.{rules}
use borrow.Author.Tests.{eqb-true}
use lib.Dec.{ltb, eqb}
use Rattle.getbits.specs.Bits.{bits_at, bit_count, position, place_at}
use Rattle.getbits.specs.Chain.{pick, turns}
use Rattle.getbits.specs.declared.Place.{Place}
use Rattle.getbits.proofs.Chain.{contrary, through}
use Rattle.getbits.proofs.Fields.{bits_lt}
use Rattle.getbits.proofs.Parts.{more_there, look_bits, skip_there, first_bits, first_read, last_read}
use Rattle.seq_fields.specs.Fields.{get_small}
use Rattle.getbits.specs.declared.Read.{Read}
use Rattle.film_grain.specs.Points.{no_points, points_from, plane_points}
use Rattle.film_grain.proofs.Answers.{neither}
use Rattle.film_grain.proofs.Numbers.{uncut}
use Rattle.film_grain.proofs.points.point_widths.Goals as goal

-- two questions
one_holds : {A : Type 0} (over none : Bool) (a b c d : A) → none || over ≡ true → (none ≡ true → b ≡ d) → pick over a (pick none b c) ≡ pick over a d
one_holds true none a b c d e h = refl
one_holds false true a b c d e h = h refl
one_holds false false a b c d e h = contrary e refl

-- no widths: no points, or too many
without : (s : List ℕ) (p : Place) (n : Read ℕ) (index-bits scaling-bits : ℕ) → n ≡ get_small s p 4 → eqb n.value 0 || ltb 14 n.value ≡ true
    → plane_points s p ≡ pick (ltb 14 n.value) (no_points 0 true n.next) (points_from s n.next n.value index-bits scaling-bits)
unfolding plane_points points_from turns
without s p n index-bits scaling-bits e h =
    through _ _ e ∙ one_holds (ltb 14 n.value) (eqb n.value 0) _ _ _ _ h (λ z. rw (eqb-true n.value 0 z))

-- the widths
with_widths : (s : List ℕ) (p : Place) (n index scaling : Read ℕ) → n ≡ get_small s p 4 → index ≡ get_small s n.next 3 → scaling ≡ get_small s index.next 2
    → eqb n.value 0 || ltb 14 n.value ≡ false
    → plane_points s p ≡ pick (ltb 14 n.value) (no_points 0 true scaling.next) (points_from s scaling.next n.value (1 + index.value) (5 + scaling.value))
unfolding plane_points
with_widths s p n index scaling e f g h =
    let k = neither (eqb n.value 0) (ltb 14 n.value) h in
    through _ _ e ∙ rw (k.0, k.1) (through _ _ f ∙ through _ _ g)

-- the three numbers, out of their nine bits
module _ (s : List ℕ) (p : Place) (w : ℕ) (room : position s p + 9 ≤ bit_count s) (e : w ≡ bits_at s (position s p) 9) where
  count : record { value = w / 32; next = place_at (position s p + 4) p.error } ≡ get_small s p 4
  count = sym (uncut s p 4 (omega arith) (first_read s p 4 5 w room e (omega arith)))

  index : record { value = w / 4 % 8; next = place_at (position s p + 7) p.error } ≡ get_small s (place_at (position s p + 4) p.error) 3
  index = sym (uncut _ _ 3 (omega arith) (last_read s p 4 3 (w / 4) (omega arith) (first_bits s p 7 2 w room e) (omega arith)))

  scaling : record { value = w % 4; next = place_at (position s p + 9) p.error } ≡ get_small s (place_at (position s p + 7) p.error) 2
  scaling = sym (uncut _ _ 2 (omega arith) (last_read s p 7 2 w room e (omega arith)))

pub overflow_cast-n : goal.overflow_cast-n
overflow_cast-n c =
    let nine : let a = c.args in c.look_ahead-w.result ≡ bits_at a.s.now (position a.s.now a.p) 9 = let a = c.args in look_bits a.s.now a.p 9 (omega arith) c.look_ahead-w.ensures in
    omega (arith, nine, bits_lt c.args.s.now (position c.args.s.now c.args.p) 9)

pub returns-then-n : goal.returns-then-n
returns-then-n c =
    let room : let a = c.args in position a.s.now a.p + 9 ≤ bit_count a.s.now = let a = c.args in more_there a.s.now a.p 9 c.more_than.ensures c.if-more_than.true in
    let nine : let a = c.args in c.look_ahead-w.result ≡ bits_at a.s.now (position a.s.now a.p) 9 = let a = c.args in look_bits a.s.now a.p 9 (omega arith) c.look_ahead-w.ensures in
    let a = c.args in
    rw (skip_there a.s.now a.p 4 (omega (arith, room)) c.skip.ensures) (record { p_value = without a.s.now a.p _ 1 5 (count a.s.now a.p c.look_ahead-w.result (room) (nine)) c.if-n.true; bound = search rules })

pub returns-then-more_than : goal.returns-then-more_than
returns-then-more_than c =
    let room : let a = c.args in position a.s.now a.p + 9 ≤ bit_count a.s.now = let a = c.args in more_there a.s.now a.p 9 c.more_than.ensures c.if-more_than.true in
    let nine : let a = c.args in c.look_ahead-w.result ≡ bits_at a.s.now (position a.s.now a.p) 9 = let a = c.args in look_bits a.s.now a.p 9 (omega arith) c.look_ahead-w.ensures in
    let a = c.args in
    let w = c.look_ahead-w.result in
    rw (skip_there a.s.now a.p 9 (room) c.skip-then-more_than.ensures) (record {
      p_value = with_widths a.s.now a.p _ _ _ (count a.s.now a.p w (room) (nine)) (index a.s.now a.p w (room) (nine)) (scaling a.s.now a.p w (room) (nine)) c.if-n.false;
      bound = (omega arith, omega arith, omega arith, omega arith);
    })

pub returns-then-n-2 : goal.returns-then-n-2
returns-then-n-2 c =
    record { p_value = without _ _ _ 1 5 c.get_small-n.ensures.is c.if-n-2.true; bound = search rules }

pub returns : goal.returns
returns c =
    record { p_value = with_widths _ _ _ _ _ c.get_small-n.ensures.is c.get_small-index.ensures.is c.get_small-scaling.ensures.is c.if-n-2.false; bound = (omega arith, omega (arith, c.get_small-index.ensures.below), omega arith, omega (arith, c.get_small-scaling.ensures.below)) }
