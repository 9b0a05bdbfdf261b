-- What tile_rectangles promises holds. Assumes nothing.
use mathlib.Core.Bool.{Bool, true, false}
use mathlib.Core.List.{List, ◌++◌}
use mathlib.Core.Path.{◌≡◌, refl, sym, subst, ap, ◌∙◌}
use Prim.Native.Nat.{ℕ, ◌*◌}
use native.Mathlib.Omega.{arith}
use lib.Dec.{T, leb}
use lib.ListN.{length, take, drop}
use Rattle.answers.specs.Numbers.{number_of, is_refusal}
use Rattle.answers.specs.declared.Answer.{Answer}
use Rattle.answers.specs.declared.Answer.TheVariants.{Accepted, WrongArguments, ShortBuffer}
use Rattle.getbits.specs.Chain.{pick}
use Rattle.getbits.specs.declared.Place.{Place}
use Rattle.getbits.proofs.Chain.{contrary}
use Rattle.tile_layout.specs.Layout.{parse_tile_info}
use Rattle.tile_layout.specs.declared.TileArgs.{TileArgs}
use Rattle.tile_layout.specs.declared.TileInfo.{TileInfo}
use Rattle.tile_layout.proofs.Demand3.{accepted_in, all_accepted, from_zero}
use Rattle.rectangles.specs.Rectangles.{has_rectangles, rectangle_numbers, rectangles, tile_rectangles}
use Rattle.rectangles.specs.Places.{place}
use Rattle.rectangles.specs.Covering.{Covering}
use Rattle.rectangles.specs.Promises.{ReadFresh, TilesWritten}
use Rattle.rectangles.proofs.Covering.{covering}
use Rattle.rectangles.proofs.Places.{stands_in}

-- the tiles of every layout that parse_tile_info accepts cover its picture
pub layout_covers : (s : List ℕ) (p : Place) (old : TileInfo) (a : TileArgs) → is_refusal (parse_tile_info s p old a).answer ≡ false
    → Covering (parse_tile_info s p old a).info a.frame_code a.width a.height
layout_covers s p old a e = covering s p a _ (accepted_in s p old a e) (all_accepted s p old a e) (from_zero s p old a e)

fresh_covers : (t : TileInfo) (code w h : ℕ) → ReadFresh t code w h → Covering t code w h
fresh_covers t code w h f = rw (f.gives, f.coded, f.wide, f.high) at (layout_covers f.bytes f.start f.old f.args f.accepted)

-- the two questions, and the answer to them
abbrev answered : Bool → Bool → List ℕ → List ℕ → Answer × List ℕ
answered has room xs out = pick has (pick room (Accepted, xs) (ShortBuffer, out)) (WrongArguments, out)

written : (has room : Bool) (xs out : List ℕ) → is_refusal (answered has room xs out).0 ≡ false → (answered has room xs out).1 ≡ xs
written true true xs out h = refl
written true false xs out h = absurd (subst T h tt)
written false room xs out h = absurd (subst T h tt)

not_4 : (has room : Bool) (xs out : List ℕ) → has ≡ true → number_of (answered has room xs out).0 ≡ 4 → ⊥
not_4 true true xs out h e = omega (arith, e)
not_4 true false xs out h e = omega (arith, e)
not_4 false room xs out h e = contrary h refl

pub promised : (t : TileInfo) (code w h : ℕ) (out : List ℕ) {r : Answer} {after : List ℕ} → (r, after) ≡ tile_rectangles t code w h out
    → ((r, after) ≡ tile_rectangles t code w h out) × TilesWritten t code w h r after
unfolding tile_rectangles
promised t code w h out e =
    let all = rectangles t code w h ++ drop (rectangle_numbers t) out in
    let room = leb (rectangle_numbers t) (length out) in
    let has = has_rectangles t code w h in (
      e,
      record {
        stands = λ ok col row l k.
            ap (λ (x : Answer × List ℕ). take 4 (drop (4 * place t col row) x.1)) e
            ∙ ap (λ (x : List ℕ). take 4 (drop (4 * place t col row) x)) (written has room all out (sym (ap (λ (x : Answer × List ℕ). is_refusal x.0) e) ∙ ok))
            ∙ stands_in t code w h col row l k (drop (rectangle_numbers t) out);
        covering = fresh_covers t code w h;
        never_4 = λ f n. not_4 has room all out (fresh_covers t code w h f).described (sym (ap (λ (x : Answer × List ℕ). number_of x.0) e) ∙ n);
      },
    )
