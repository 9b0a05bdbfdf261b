use mathlib.Core.Bool.{Bool}
use mathlib.Core.Path.{◌≡◌, refl, sym, ◌∙◌, ap}
use Prim.Native.Nat.{ℕ, ◌^◌, ◌<◌}
use native.Mathlib.Nat.{lt_of_le_of_lt}
use lib.Dec.{lit<}
use mir.Facts.{to_z-of_z}
use mir.ValLaws.{to_z_pos}
use mir.Syntax.{w32}
use mir.Val.{to_z}
use Rattle.answers.specs.Numbers.{is_refusal}
use Rattle.getbits.specs.Chain.{pick}
use Rattle.getbits.proofs.Chain.{taken}
use Rattle.flat.specs.Layout.{Buffers, buffers, put_layout, layout_in}
use Rattle.tile_layout.specs.Layout.{parse_tile_info}
use Rattle.tile_layout.specs.Limits.{args_of}
use Rattle.tile_layout.specs.declared.TileRead.{TileRead}
use Rattle.tile_layout.proofs.Domain.{domain, low_multiplier}
use Rattle.tile_info.specs.Into.{read_into, parse_tile_info_into}
use Rattle.tile_info.specs.declared.TileOutcome.{TileOutcome}
use Rattle.frame_hdr.specs.declared.FrameOutcome.{FrameOutcome}
use Rattle.frame_hdr.proofs.fresh_layout.Goals as goal

-- the outcome of a reading, with the code n
module _ (z : TileRead) (b : Buffers) (old code : ℕ) {o : TileOutcome} {after : Buffers} (put : (o, after) ≡ read_into z b) where
  outcome : o ≡ record { answer = z.answer; next = z.next }
  outcome = ap (λ (x : TileOutcome × Buffers). x.0) put

  coded : (n : ℕ) {t r : Bool} → r ≡ is_refusal o.answer → r ≡ t → n ≡ pick t old code
      → (◌≡◌ {A = FrameOutcome} (record { answer = o.answer; sb128 = n; next = o.next }) (record { answer = z.answer; sb128 = pick (is_refusal z.answer) old code; next = z.next }))
      × (after ≡ pick (is_refusal z.answer) b (put_layout z.info b))
  coded n e f g =
      let refusal = sym (ap (λ (x : TileOutcome). is_refusal x.answer) outcome) ∙ sym e ∙ f in
      (rw (outcome, g, refusal) refl, ap (λ (x : TileOutcome × Buffers). x.1) put)

pub overflow_cast-a : goal.overflow_cast-a
overflow_cast-a c =
    let small : c.args.a.multiplier < 2 ^ 31 = lt_of_le_of_lt (low_multiplier c.args.a (domain c.args.a c.requires.in_the_domain)) (lit< tt) in
    record { sfits = small }

pub returns-then-is_refusal : goal.returns-then-is_refusal
unfolding parse_tile_info_into
returns-then-is_refusal c =
    let a = c.args in
    let small : a.a.multiplier < 2 ^ 31 = lt_of_le_of_lt (low_multiplier a.a (domain a.a c.requires.in_the_domain)) (lit< tt) in
    let args : args_of (to_z w32 a.a.multiplier) a.a.frame_code a.a.seq_code a.width a.height a.a.level a.a.tier ≡ a.a =
    rw (to_z_pos w32 a.a.multiplier small, ← c.requires.width_value.0, ← c.requires.width_value.1) refl in
    -- the buffers lent
    let given = buffers a.info.now a.cols.now a.rows.now in
    let fresh = parse_tile_info a.s.now a.p (layout_in given) a.a in
    let into = simp (to_z-of_z c.ranges.width, to_z-of_z c.ranges.height, args) at c.parse_tile_info_into-r.ensures.outcome in
    coded fresh given a.sb128 a.a.frame_code (into ∙ taken _ _ _ c.requires.room) a.sb128 c.is_refusal.ensures c.if-is_refusal.true refl

pub returns : goal.returns
unfolding parse_tile_info_into
returns c =
    let a = c.args in
    let small : a.a.multiplier < 2 ^ 31 = lt_of_le_of_lt (low_multiplier a.a (domain a.a c.requires.in_the_domain)) (lit< tt) in
    let args : args_of (to_z w32 a.a.multiplier) a.a.frame_code a.a.seq_code a.width a.height a.a.level a.a.tier ≡ a.a =
    rw (to_z_pos w32 a.a.multiplier small, ← c.requires.width_value.0, ← c.requires.width_value.1) refl in
    -- the buffers lent
    let given = buffers a.info.now a.cols.now a.rows.now in
    let fresh = parse_tile_info a.s.now a.p (layout_in given) a.a in
    let into = simp (to_z-of_z c.ranges.width, to_z-of_z c.ranges.height, args) at c.parse_tile_info_into-r.ensures.outcome in
    coded fresh given a.sb128 a.a.frame_code (into ∙ taken _ _ _ c.requires.room) a.a.frame_code c.is_refusal.ensures c.if-is_refusal.false refl
