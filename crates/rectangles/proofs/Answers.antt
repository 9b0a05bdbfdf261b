-- What tile_rectangles answers, for its callers. Assumes nothing.
use mathlib.Core.Bool.{Bool, true, false, not}
use mathlib.Core.List.{List, ◌++◌}
use mathlib.Core.Path.{◌≡◌, refl, sym, subst, ◌∙◌}
use Prim.Native.Nat.{ℕ, ◌≤◌}
use native.Mathlib.Omega.{arith}
use borrow.Author.Tests.{le-leb}
use lib.Dec.{T, leb}
use lib.ListN.{length, drop}
use Rattle.answers.specs.Numbers.{is_refusal}
use Rattle.answers.specs.declared.Answer.{Answer}
use Rattle.answers.specs.declared.Answer.TheVariants.{Accepted, WrongArguments, ShortBuffer}
use Rattle.getbits.specs.Chain.{pick}
use Rattle.getbits.proofs.Chain.{taken, left}
use Rattle.tile_layout.specs.declared.TileInfo.{TileInfo}
use Rattle.rectangles.specs.Rectangles.{has_rectangles, rectangle_numbers, rectangles, tile_rectangles}
use Rattle.rectangles.proofs.Rising.{tiles_le}

-- refused, the buffer is as it was
kept_by : (has room : Bool) (xs out : List ℕ) → let z : Answer × List ℕ = pick has (pick room (Accepted, xs) (ShortBuffer, out)) (WrongArguments, out) in is_refusal z.0 ≡ true → z.1 ≡ out
kept_by true true xs out h = absurd (subst T (sym h) tt)
kept_by true false xs out h = refl
kept_by false room xs out h = refl

module _ (t : TileInfo) (code w h : ℕ) (out : List ℕ) where
  pub kept : is_refusal (tile_rectangles t code w h out).0 ≡ true → (tile_rectangles t code w h out).1 ≡ out
  unfolding tile_rectangles
  kept = kept_by (has_rectangles t code w h) (leb (rectangle_numbers t) (length out)) (rectangles t code w h ++ drop (rectangle_numbers t) out) out

  -- a layout with rectangles, and a buffer with room for those of every layout
  pub accepted : 16384 ≤ length out → has_rectangles t code w h ≡ true → tile_rectangles t code w h out ≡ (Accepted, rectangles t code w h ++ drop (rectangle_numbers t) out)
  unfolding tile_rectangles
  accepted l e = taken _ _ _ e ∙ taken _ _ _ (le-leb (rectangle_numbers t) (length out) (omega (arith, l, tiles_le t code w h e)))

  -- a layout without
  pub refused : has_rectangles t code w h ≡ false → tile_rectangles t code w h out ≡ (WrongArguments, out)
  unfolding tile_rectangles
  refused e = left _ _ _ e

  decided : 16384 ≤ length out → (has : Bool) → has_rectangles t code w h ≡ has → is_refusal (tile_rectangles t code w h out).0 ≡ not has
  decided l true e = rw (accepted l e) refl
  decided l false e = rw (refused e) refl

  -- with such room it is refused exactly where the layout has no rectangles
  pub refuses : 16384 ≤ length out → is_refusal (tile_rectangles t code w h out).0 ≡ not (has_rectangles t code w h)
  refuses l = decided l (has_rectangles t code w h) refl
