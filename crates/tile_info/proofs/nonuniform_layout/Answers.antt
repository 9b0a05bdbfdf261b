use borrow.Author.Rules.{rules}
use mathlib.Core.Bool.{Bool, true, false, not, ◌&&◌}
use mathlib.Core.List.{List}
use mathlib.Core.Path.{◌≡◌, refl, sym, ◌∙◌, ap}
use Prim.Native.Nat.{ℕ}
use native.Mathlib.Omega.{arith}
use borrow.Author.Tests.{leb-true}
use lib.Dec.{leb}
use Rattle.getbits.specs.declared.Place.{Place}
use Rattle.tile_layout.specs.declared.TileArgs.{TileArgs}
use Rattle.tile_layout.specs.declared.TileInfo.{TileInfo}
use Rattle.tile_info.specs.declared.limits.FrameLimits.{FrameLimits}
use Rattle.tile_info.specs.Inner.{Known, SizedInto}
use Rattle.answers.specs.Numbers.{is_refusal}
use Rattle.getbits.proofs.Chain.{both, contrary, taken}
use Rattle.flat.specs.Layout.{Buffers, buffers, layout_in}
use Rattle.tile_layout.specs.Layout.{non_uniform_layout}
use Rattle.tile_layout.specs.declared.TileRead.{TileRead}
use Rattle.tile_info.specs.declared.TileOutcome.{TileOutcome}
use Rattle.tile_info.proofs.Into.{all_kept, restored}
use Rattle.tile_info.proofs.Rules.{never_refused}
use Rattle.tile_info.proofs.nonuniform_layout.Goals as goal

unless : (b : Bool) → (b ≡ true → ⊥) → not b ≡ true
unless true h = absurd (h refl)
unless false h = refl

-- a layout that is refused has more than 64 superblocks across or down
needed : (s : List ℕ) (p : Place) (old : TileInfo) (a : TileArgs) (k : FrameLimits) → Known a k → (x y : Bool) → x ≡ leb k.sbw.0 64 → y ≡ leb k.sbh.0 64
    → is_refusal (non_uniform_layout s p old a).answer ≡ true → not (x && y) ≡ true
needed s p old a k n x y ex ey refused =
    unless (x && y)
    (λ e.
    let fit = both x y e in
    let wide = leb-true k.sbw.0 64 (sym ex ∙ fit.0) in
    let high = leb-true k.sbh.0 64 (sym ey ∙ fit.1) in
    contrary refused (never_refused s p old a (omega (arith, wide, n.across)) (omega (arith, high, n.down))))

-- the answer is the layout's
answered : {z : TileRead} {b after : Buffers} {r : TileOutcome} → SizedInto z b r after → {t : Bool} → is_refusal r.answer ≡ t → is_refusal z.answer ≡ t
answered w e = sym (ap (λ (z : TileOutcome). is_refusal z.answer) w.answers) ∙ e

pub returns-then-is_refusal : goal.returns-then-is_refusal
returns-then-is_refusal c =
    let a = c.args in
    let b = buffers a.info.now a.cols.now a.rows.now in
    let z = non_uniform_layout a.s.now a.p (layout_in b) a.a in
    let w = c.read_nonuniform-r.ensures in
    let refused = answered w (sym c.is_refusal.ensures ∙ c.if-is_refusal.true) in
    let may = needed a.s.now a.p (layout_in b) a.a a.k c.requires.known _ _ c.at_most_64.ensures c.at_most_64-2.ensures refused in
    restored z b w refused c.requires.room (search rules) (search rules)
    (c.put_starts.ensures ∙ rw (c.old_starts-old_cols.ensures ∙ taken _ _ _ may) refl) (c.put_starts-then-is_refusal.ensures ∙ rw (c.old_starts-old_rows.ensures ∙ taken _ _ _ may) refl)

pub returns-else-is_refusal : goal.returns-else-is_refusal
returns-else-is_refusal c =
    let a = c.args in
    let b = buffers a.info.now a.cols.now a.rows.now in
    let w = c.read_nonuniform-r.ensures in
    all_kept (non_uniform_layout a.s.now a.p (layout_in b) a.a) b w (answered w (sym c.is_refusal.ensures ∙ c.if-is_refusal.false))
