use mathlib.Core.Path.{◌≡◌, sym, ◌∙◌}
use borrow.Author.Rules.{rules}
use mir.Syntax.{w16}
use mir.Val.{to_z, of_z}
use Rattle.getbits.proofs.Chain.{through}
use Rattle.film_grain.specs.Coeffs.{chroma_offsets}
use Rattle.film_grain.proofs.coeffs.chroma_offsets.Goals as goal

-- the numbers, read back from their bits
back : (c : goal.After-result-1) → let r = c.offsets_if-u.result in
    (to_z w16 (of_z w16 r.mult) ≡ r.mult) × (to_z w16 (of_z w16 r.luma_mult) ≡ r.luma_mult) × (to_z w16 (of_z w16 r.offset) ≡ r.offset)
back c = search rules

back_2 : (c : goal.After-result-1) → let r = c.offsets_if-v.result in
    (to_z w16 (of_z w16 r.mult) ≡ r.mult) × (to_z w16 (of_z w16 r.luma_mult) ≡ r.luma_mult) × (to_z w16 (of_z w16 r.offset) ≡ r.offset)
back_2 c = search rules

pub returns : goal.returns
unfolding chroma_offsets
returns c =
    let bu = back c in
    let bv = back_2 c in
    rw (← c.has_points.ensures, ← c.has_points-2.ensures)
    (sym (through _ _ c.offsets_if-u.ensures
    ∙ through _ _ c.offsets_if-v.ensures
    ∙ sym (simp (bu.0, bu.1, bu.2, bv.0, bv.1, bv.2))))
