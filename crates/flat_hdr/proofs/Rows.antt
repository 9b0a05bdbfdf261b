-- Laws of the parts of a header's numbers in a buffer. Assumes nothing.
use mathlib.Core.Path.{◌≡◌, refl, ap, sym, ◌∙◌}
use mathlib.Core.List.{List, ◌++◌}
use mathlib.Core.Logic.{⊎_elim}
use Prim.Native.Nat.{ℕ, ◌+◌, ◌-◌, ◌<◌, ◌≤◌}
use native.Mathlib.Omega.{arith}
use lib.IntN.{ℤ}
use lib.Dec.{leb}
use lib.ListN.{length, take, drop, length-append}
use lib.Seq.{length-take-le, drop-drop, drop-append-add}
use borrow.Author.Tests.{le-leb}
use Rattle.getbits.proofs.Chain.{taken}
use Rattle.getbits.proofs.Places.{lt_or_le}
use Rattle.flat.specs.Layout.{over_front}
use Rattle.flat.specs.Rows.{put, PutAt}
use Rattle.flat.proofs.Rows as rows
use Rattle.flat_hdr.specs.Rows.{PutIn}

-- a row in a buffer that has room
pub put_in : {o o' : List ℤ} {at n r : ℕ} {xs : List ℤ} → 146 ≤ length o → PutAt o at xs n o' r → PutIn o at xs n o'
put_in room w = record { stands = λ _. record { stands = w.stands; count = w.count; next = refl; long = w.long }; kept = λ h. absurd (omega arith) }

-- a buffer that has no room
pub too_short_lem : {o : List ℤ} {at n : ℕ} {xs : List ℤ} → length o < 146 → PutIn o at xs n o
too_short_lem h = record { stands = λ room. absurd (omega arith); kept = λ _. refl }

-- two parts, one behind the other
pub and_then : {o o' o'' : List ℤ} {at n m : ℕ} {xs ys : List ℤ} → PutIn o at xs n o' → PutIn o' (at + n) ys m o'' → at + n ≤ 146 → PutIn o at (xs ++ ys) (n + m) o''
and_then {o} {o'} {o''} {at} {n} {m} v w h =
    record {
      stands = λ room.
          let a = v.stands room in
          let b = rows.both a (w.stands (omega (arith, a.long))) (omega arith) in
          record { stands = b.stands; count = b.count; next = refl; long = b.long };
      kept = λ short. w.kept (omega (arith, ap length (v.kept short))) ∙ v.kept short;
    }

-- all of them
pub all_put : {o o' : List ℤ} {xs : List ℤ} → PutIn o 0 xs 146 o' → o' ≡ over_front 146 xs o
all_put {o} {o'} {xs} w = ⊎_elim (λ short. w.kept short ∙ rows.kept 146 xs o short) (λ room. rows.fronted (w.stands room) room) (lt_or_le (length o) 146)

-- what stands behind all of them stays as it was
behind : (o : List ℤ) {o' : List ℤ} {at n r : ℕ} {xs : List ℤ} → PutAt o at xs n o' r → at + n ≤ 146 → 146 ≤ length o → drop 146 o' ≡ drop 146 o
unfolding put
behind o {o'} {at} {n} {r} {xs} w h room =
    let p = take at o ++ xs in
    let long : length p ≡ at + n = length-append (take at o) xs ∙ omega (arith, length-take-le at o (omega arith), w.count) in
    let more : length p + (146 - (at + n)) ≡ 146 = omega (arith, long) in
    let along : at + length xs + (146 - (at + n)) ≡ 146 = omega (arith, w.count) in
    ap (drop 146) w.stands
    ∙ ap (λ (k : ℕ). drop k (p ++ drop (at + length xs) o)) (sym more)
    ∙ drop-append-add p (drop (at + length xs) o) (146 - (at + n))
    ∙ drop-drop (146 - (at + n)) (at + length xs) o
    ∙ ap (λ (k : ℕ). drop k o) along

-- so all of them may be put over a part
pub put_under : {o o' : List ℤ} {at n : ℕ} {xs : List ℤ} → PutIn o at xs n o' → at + n ≤ 146 → (ys : List ℤ) → over_front 146 ys o' ≡ over_front 146 ys o
put_under {o} {o'} {at} {n} {xs} w h ys =
    ⊎_elim (λ short. ap (over_front 146 ys) (w.kept short))
    (λ room. let a = w.stands room in
    let long = le-leb 146 (length o) room in
    taken _ _ _ (ap (leb 146) a.long ∙ long) ∙ ap (λ (l : List ℤ). ys ++ l) (behind o a h room) ∙ sym (taken _ _ _ long))
    (lt_or_le (length o) 146)
