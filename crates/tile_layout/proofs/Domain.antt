-- What follows from the domain: the facts it states, the counts along n samples and the level's limits. Assumes nothing.
use mathlib.Core.Path.{◌≡◌, refl}
use mathlib.Core.Logic.{◌⊎◌, inl, inr, ⊎_elim}
use mathlib.Core.Bool.{Bool, true, false, ◌&&◌, ◌||◌}
use Prim.Native.Nat.{ℕ, zero, suc, ◌+◌, ◌-◌, ◌*◌, ◌/◌, ◌^◌, max, ◌≤◌, ◌<◌}
use native.Mathlib.Omega.{arith}
use borrow.Author.Tests.{leb-true, eqb-true, le-leb}
use lib.Dec.{leb, eqb}
use Rattle.getbits.specs.Chain.{pick}
use Rattle.getbits.proofs.Chain.{both}
use Rattle.tile_layout.specs.declared.TileArgs.{TileArgs}
use Rattle.tile_layout.specs.Limits.{is_size, is_pair, in_domain, size, superblocks, sbw, sbh, width_limit, area_limit}
use Rattle.tile_layout.specs.Layout.{full_count, total_count}

either : (x y : Bool) → (x || y) ≡ true → (x ≡ true) ⊎ (y ≡ true)
either true y e = inl refl
either false y e = inr e

-- the codes of the frame and of the sequence, and the multiplier
abbrev pub Pair : ℕ → ℕ → ℕ → Type 0
Pair f q m = ((f ≤ 2) × (f ≡ q) × (m ≡ 1)) ⊎ ((f ≡ 1) × (q ≡ 2) × (m ≡ 2))

pub record InDomain (a : TileArgs) : Type 0 where
  pub some_width : 1 ≤ a.width
  pub most_width : a.width ≤ 65536
  pub some_height : 1 ≤ a.height
  pub most_height : a.height ≤ 65536
  pub most_level : a.level ≤ 31
  pub most_tier : a.tier ≤ 1
  pub pair : Pair a.frame_code a.seq_code a.multiplier

pub sized : (n : ℕ) → is_size n ≡ true → (1 ≤ n) × (n ≤ 65536)
sized n e =
    let b = both (leb 1 n) (leb n 65536) e in
    (leb-true 1 n b.0, leb-true n 65536 b.1)

paired : (f q m : ℕ) → is_pair f q m ≡ true → Pair f q m
paired f q m e =
    ⊎_elim
    (λ g.
    let x = both (leb f 2 && eqb f q) (eqb m 1) g in
    let y = both (leb f 2) (eqb f q) x.0 in
    inl (leb-true f 2 y.0, eqb-true f q y.1, eqb-true m 1 x.1))
    (λ g.
    let x = both (eqb f 1 && eqb q 2) (eqb m 2) g in
    let y = both (eqb f 1) (eqb q 2) x.0 in
    inr (eqb-true f 1 y.0, eqb-true q 2 y.1, eqb-true m 2 x.1))
    (either (leb f 2 && eqb f q && eqb m 1) (eqb f 1 && eqb q 2 && eqb m 2) e)

pub domain : (a : TileArgs) → in_domain a ≡ true → InDomain a
unfolding in_domain
domain a e =
    let x = both _ (is_pair a.frame_code a.seq_code a.multiplier) e in
    let y = both _ (leb a.tier 1) x.0 in
    let z = both _ (leb a.level 31) y.0 in
    let v = both (is_size a.width) (is_size a.height) z.0 in
    record {
      some_width = (sized a.width v.0).0;
      most_width = (sized a.width v.0).1;
      some_height = (sized a.height v.1).0;
      most_height = (sized a.height v.1).1;
      most_level = leb-true _ _ z.1;
      most_tier = leb-true _ _ y.1;
      pair = paired _ _ _ x.1;
    }

-- what holds of the four pairs
pub pairs : (P : ℕ → ℕ → ℕ → Type 0) → P 0 0 1 → P 1 1 1 → P 2 2 1 → P 1 2 2 → (f q m : ℕ) → Pair f q m → P f q m
pairs P p00 p11 p22 p12 f q m = ⊎_elim (λ h. same f q m h.0 h.1 h.2) (λ h. rw (h.0, h.1, h.2) p12)
  where
    same : (f q m : ℕ) → f ≤ 2 → f ≡ q → m ≡ 1 → P f q m
    same zero q m le e g = rw (← e, g) p00
    same (suc zero) q m le e g = rw (← e, g) p11
    same (suc (suc zero)) q m le e g = rw (← e, g) p22
    same (suc (suc (suc f))) q m le e g = absurd (omega arith)

-- and the other way, for callers
pub in_domain_lem : (a : TileArgs) → InDomain a → in_domain a ≡ true
unfolding in_domain
in_domain_lem a d =
    rw (le-leb 1 _ d.some_width, le-leb _ 65536 d.most_width, le-leb 1 _ d.some_height, le-leb _ 65536 d.most_height, le-leb _ 31 d.most_level, le-leb _ 1 d.most_tier)
    (pairs (λ f q m. is_pair f q m ≡ true) refl refl refl refl _ _ _ d.pair)

-- the codes and the multiplier are small
lows : (f q m : ℕ) → Pair f q m → (f ≤ 2) × (q ≤ 2) × (m ≤ 2)
lows = pairs (λ f q m. (f ≤ 2) × (q ≤ 2) × (m ≤ 2)) (omega arith) (omega arith) (omega arith) (omega arith)

pub low_code : (a : TileArgs) → InDomain a → a.frame_code ≤ 2
low_code a d = (lows _ _ _ d.pair).0

pub low_seq_code : (a : TileArgs) → InDomain a → a.seq_code ≤ 2
low_seq_code a d = (lows _ _ _ d.pair).1

pub low_multiplier : (a : TileArgs) → InDomain a → a.multiplier ≤ 2
low_multiplier a d = (lows _ _ _ d.pair).2

-- along n samples: `here` frame superblocks, `full` and `all` sequence superblocks
pub record Along (f m here full all : ℕ) : Type 0 where
  pub some : 1 ≤ here
  pub most : here * 2 ^ f ≤ 1024
  pub most_all : here ≤ 1024
  pub some_full : 1 ≤ full
  pub full_le : full ≤ all
  pub le_full : all ≤ full + 1
  pub most_seq : all ≤ 1024
  pub inside : here ≤ m * all
  pub reaches : m * all < here + m

pub along : (a : TileArgs) → InDomain a → (n : ℕ) → 1 ≤ n → n ≤ 65536
    → Along a.frame_code a.multiplier (superblocks n a.frame_code) (full_count a n) (total_count a n)
unfolding full_count superblocks
along a d n lo hi =
    pairs (λ f q m. Along f m ((n + (size f - 1)) / size f) (max 1 ((n + 7) / size q)) ((n + (size q - 1)) / size q))
    (omega arith) (omega arith) (omega arith) (omega arith)
    a.frame_code a.seq_code a.multiplier d.pair

module _ (a : TileArgs) (d : InDomain a) where
  pub across : Along a.frame_code a.multiplier (sbw a) (full_count a a.width) (total_count a a.width)
  across = along a d a.width d.some_width d.most_width

  pub down : Along a.frame_code a.multiplier (sbh a) (full_count a a.height) (total_count a a.height)
  down = along a d a.height d.some_height d.most_height

-- the limits of width and area
abbrev width_of : ℕ → Bool → Bool → Bool → ℕ
width_of f x y t = 4096 * 2 ^ (pick y 1 0 + pick (x && t) 1 0) / size f

abbrev area_of : ℕ → Bool → Bool → Bool → ℕ
area_of f x y t = 9437184 * 2 ^ (pick x 1 0 + pick y 1 0 + pick (x && t) 1 0) / (size f * size f)

pub record Limited (f width area : ℕ) : Type 0 where
  pub some : 16 ≤ width
  pub under : width ≤ area
  pub wide : 36 * width ≤ area * 2 ^ f
  pub half : width ≡ 2 * (width / 2)
  pub low : width ≤ 256
  pub flat : area ≤ 18432

limited : (x y t : Bool) → Limited 0 (width_of 0 x y t) (area_of 0 x y t) × Limited 1 (width_of 1 x y t) (area_of 1 x y t) × Limited 2 (width_of 2 x y t) (area_of 2 x y t)
limited true true true = omega arith
limited true true false = omega arith
limited true false true = omega arith
limited true false false = omega arith
limited false true true = omega arith
limited false true false = omega arith
limited false false true = omega arith
limited false false false = omega arith

pub limits : (a : TileArgs) → InDomain a → Limited a.frame_code (width_limit a) (area_limit a)
unfolding width_limit area_limit
limits a d =
    let x = leb 14 a.level in
    let y = leb 18 a.level in
    let t = eqb a.tier 1 in
    let all = limited x y t in
    pairs (λ f q m. Limited f (width_of f x y t) (area_of f x y t)) all.0 all.1 all.2 all.1 a.frame_code a.seq_code a.multiplier d.pair
