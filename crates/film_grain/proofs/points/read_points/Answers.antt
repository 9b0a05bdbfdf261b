use mathlib.Core.Bool.{true, false}
use mathlib.Core.List.{List}
use mathlib.Core.Path.{◌≡◌, refl, sym, ap, ◌∙◌}
use Prim.Native.Nat.{ℕ, ◌+◌, ◌-◌, ◌*◌, ◌<◌, ◌≤◌}
use native.Mathlib.Omega.{arith}
use borrow.Author.Tests.{lt-ltb, le-ltb}
use lib.Dec.{ltb}
use lib.IntN.{pos}
use lib.ListN.{set, length-set}
use Rattle.getbits.specs.Bits.{get_bits}
use Rattle.getbits.specs.Chain.{turns}
use Rattle.getbits.proofs.Chain.{through, taken, left, turns_more}
use Rattle.getbits.specs.declared.Place.{Place}
use Rattle.seq_fields.specs.Fields.{get_small}
use Rattle.film_grain.specs.Points.{PointsRead, no_points, point, points_from}
use Rattle.film_grain.proofs.Numbers.{at_most}
use Rattle.film_grain.proofs.Stops.{refused_stays}
use Rattle.film_grain.proofs.points.read_points.Invariants.{seen}
use Rattle.film_grain.proofs.points.read_points.Goals as goal

-- one more point, from what is read of it
module _ (s : List ℕ) (index-bits scaling-bits i n base : ℕ) (points : List ℕ) (next : Place) {step : ℕ} (e : step ≡ (get_bits s next (pos index-bits)).value) where
  over : 255 < base + step → point s index-bits scaling-bits i (seen n base points next) ≡ no_points 0 true (get_bits s next (pos index-bits)).next
  unfolding point
  over h = through _ _ refl ∙ taken (ltb 255 (base + (get_bits s next (pos index-bits)).value)) _ _ (ap (λ (x : ℕ). ltb 255 (base + x)) (sym e) ∙ lt-ltb 255 (base + step) h)

  under : {value : ℕ} {q : Place} → record { value = value; next = q } ≡ get_small s (get_bits s next (pos index-bits)).next scaling-bits → base + step ≤ 255
      → point s index-bits scaling-bits i (seen n base points next) ≡ seen n (base + step) (set (set points (2 * i) (base + step)) (2 * i + 1) value) q
  unfolding point
  under f h =
      through _ _ refl
      ∙ left (ltb 255 (base + (get_bits s next (pos index-bits)).value)) _ _ (ap (λ (x : ℕ). ltb 255 (base + x)) (sym e) ∙ le-ltb 255 (base + step) h)
      ∙ through _ _ f
      ∙ rw e

pub loop_i_init : goal.loop_i_init
unfolding turns
loop_i_init c = let z = c.requires.5 in (omega arith, omega arith, rw z refl, rw z refl)

pub read_point_r_requires : goal.read_point_r_requires
read_point_r_requires c =
    let p = c.requires in
    (p.1, p.2, p.3, p.4)

pub overflow_add_base : goal.overflow_add_base
overflow_add_base c =
    omega (arith, c.read_point-r.ensures.step_value, at_most c.args.s.now c.loop-i.next c.args.index_bits 8 c.requires.2 refl, c.loop-i.invariant.1)

pub shape_of_points_then_base_gt255 : goal.shape_of_points_then_base_gt255
shape_of_points_then_base_gt255 c = c.loop-i.invariant.2 ∙ sym (rw c.requires.5 refl)

pub returns-then-base-gt255 : goal.returns-then-base-gt255
unfolding points_from
returns-then-base-gt255 c =
    let a = c.args in
    let f = point a.s.now a.index_bits a.scaling_bits in
    let start = no_points a.n false a.p in
    let i = c.loop-i.i in
    let k = a.n - (i + 1) in
    let last : turns (i + 1) f start ≡ no_points 0 true (get_bits a.s.now c.loop-i.next (pos a.index_bits)).next =
    turns_more i f start
    ∙ ap (f i) (sym c.loop-i.invariant.3)
    ∙ over a.s.now a.index_bits a.scaling_bits i a.n c.loop-i.base c.loop-i.points c.loop-i.next c.read_point-r.ensures.step_value c.if-base-gt255.true in
    let e : a.n ≡ i + 1 + k = omega arith in
    rw (c.no_points.ensures, c.read_bits-step.ensures)
    (sym (ap (λ (m : ℕ). turns m f start) e ∙ refused_stays a.s.now a.index_bits a.scaling_bits (i + 1) k start (ap (λ (x : PointsRead). x.refused) last) ∙ last))

pub overflow_cast_points : goal.overflow_cast_points
overflow_cast_points c = omega (arith, c.if-base-gt255.false)

pub bounds_points_i : goal.bounds_points_i
bounds_points_i c = omega (arith, c.loop-i.invariant.2, c.requires.0)

pub bounds_points_i_in_loop_i : goal.bounds_points_i_in_loop_i
bounds_points_i_in_loop_i c = simp length-set (omega (arith, c.loop-i.invariant.2, c.requires.0))

pub loop_i_preserved : goal.loop_i_preserved
loop_i_preserved c =
    let a = c.args in (
      omega arith,
      c.if-base-gt255.false,
      simp length-set c.loop-i.invariant.2,
      sym (turns_more _ _ _
          ∙ ap (point _ _ _ _) (sym c.loop-i.invariant.3)
          ∙ under a.s.now a.index_bits a.scaling_bits c.loop-i.i a.n c.loop-i.base c.loop-i.points c.loop-i.next c.read_point-r.ensures.step_value c.read_point-r.ensures.next_value c.if-base-gt255.false),
    )

pub shape_of_points : goal.shape_of_points
shape_of_points c = c.loop-i.invariant.2 ∙ sym (rw c.requires.5 refl)

pub returns : goal.returns
unfolding points_from
returns c =
    let a = c.args in
    let e : c.loop-i.i ≡ a.n = omega arith in
    c.loop-i.invariant.3 ∙ ap (λ (m : ℕ). turns m (point a.s.now a.index_bits a.scaling_bits) (no_points a.n false a.p)) e
