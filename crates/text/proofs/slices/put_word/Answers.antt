use mathlib.Core.List.{List, ◌++◌, append_assoc}
use mathlib.Core.Logic.{⊎_elim}
use mathlib.Core.Path.{◌≡◌, sym, ap, ◌∙◌}
use Prim.Native.Nat.{ℕ, ◌+◌, ◌-◌, ◌<◌, ◌≤◌, min}
use native.Mathlib.Omega.{arith}
use lib.ListN.{length, take, drop}
use lib.Seq.{sets, sets-eq, length-sets}
use Rattle.getbits.proofs.Places.{lt_or_le}
use Rattle.getbits.proofs.Stores.{sets_append}
use Rattle.std.proofs.lemmas.List.{take-append-drop, length-take-le, drop-drop, drop_all}
use Rattle.text.proofs.Placed.{sets_out}
use Rattle.text.specs.Put.{behind}
use Rattle.text.proofs.slices.put_word.Goals as goal

-- the bytes behind those that fit
dropped : (l w : List ℕ) (i n : ℕ) → n ≡ min (length w) (length l - i) → i < length l → sets l (i + n) (drop n w) ≡ l
dropped l w i n e h =
    ⊎_elim (λ k. sets_out l (i + n) (drop n w) (omega arith))
    (λ k. ap (λ (z : List ℕ). sets l (i + n) z) (drop_all n w k))
    (lt_or_le n (length w))

fits : (l w : List ℕ) (i n : ℕ) → n ≡ min (length w) (length l - i) → i < length l → take i l ++ (take n w ++ drop (i + n) l) ≡ sets l i w
fits l w i n e h =
    let k : length (take n w) ≡ n = length-take-le n w (omega arith) in
    let room : i + length (take n w) ≤ length l = omega arith in
    let some = sets l i (take n w) in
    let m : n ≡ min (length w) (length some - i) = omega (arith, length-sets l i (take n w)) in
    let first : some ≡ take i l ++ (take n w ++ drop (i + n) l) = (rw k at (sets-eq (take n w) l i room)) ∙ append_assoc (take i l) (take n w) (drop (i + n) l) in
    let none : sets some (i + length (take n w)) (drop n w) ≡ some = rw k (dropped some w i n m (omega (arith, length-sets l i (take n w)))) in
    sym first ∙ sym none ∙ sym (sets_append l i (take n w) (drop n w)) ∙ ap (sets l i) (take-append-drop n w)

pub returns-then-at-out : goal.returns-then-at-out
unfolding behind
returns-then-at-out c = record { text = sym (sets_out c.args.out.now c.args.at c.args.word.now c.if-at-out.true); place = omega arith; size = omega arith }

pub returns : goal.returns
unfolding behind
returns c =
    let a = c.args in
    let n = c.min-n.result in
    let k : a.at + n - a.at ≡ n = omega arith in
    let all = fits a.out.now a.word.now a.at n c.min-n.ensures (omega arith) in
    record { text = rw (c.copy_from_slice.ensures.after, k, drop-drop) all; place = omega (arith, c.min-n.ensures); size = omega arith }
