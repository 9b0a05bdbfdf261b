-- Laws of numbers and lists: what stands where in the array after, and sums. Assumes nothing.
use mathlib.Core.Path.{◌≡◌, refl, sym, ◌∙◌, ap}
use mathlib.Core.List.{List, [], ◌∷◌, ◌++◌, append_assoc}
use Prim.Native.Nat.{ℕ, zero, suc, ◌+◌, ◌-◌, ◌*◌, ◌≤◌, ◌<◌}
use native.Mathlib.Nat.{add-zero, zero-add, mul-suc}
use native.Mathlib.Numerals.{add-one}
use native.Mathlib.Omega.{arith}
use lib.ListN.{length, get_or, set, replicate, length-append, length-replicate, get_or-append}
use lib.Seq.{get_or_at, set_at}
use Rattle.getbits.proofs.Stores.{zeros_at}
use Rattle.tile_layout.specs.Layout.{tabulate, padded, sum}

-- one factor more
pub times_next : (m i : ℕ) → m * (i + 1) ≡ m * i + m
times_next m i = ap (◌*◌ m) (add-one i) ∙ mul-suc m i

pub length_tabulate : (f : ℕ → ℕ) (i n : ℕ) → length (tabulate f i n) ≡ n
unfolding tabulate
length_tabulate f i zero = refl
length_tabulate f i (suc n) = ap suc (length_tabulate f (suc i) n)

pub get_d_tabulate : (f : ℕ → ℕ) (i n k : ℕ) → k < n → get_or (tabulate f i n) k 0 ≡ f (i + k)
unfolding tabulate
get_d_tabulate f i zero k h = absurd (omega arith)
get_d_tabulate f i (suc n) zero h = ap f (sym (add-zero i))
get_d_tabulate f i (suc n) (suc k) h = get_d_tabulate f (suc i) n k (omega arith) ∙ ap f (omega arith)

-- one more at the end
pub tabulate_more : (f : ℕ → ℕ) (i n : ℕ) → tabulate f i (suc n) ≡ tabulate f i n ++ (f (i + n) ∷ [])
unfolding tabulate
tabulate_more f i zero = ap (λ (k : ℕ). f k ∷ []) (sym (add-zero i))
tabulate_more f i (suc n) =
    let q : suc i + n ≡ i + suc n = omega arith in
    ap (λ (t : List ℕ). f i ∷ t) (tabulate_more f (suc i) n ∙ ap (λ (k : ℕ). tabulate f (suc i) n ++ (f k ∷ [])) q)

-- an entry of edges that end in a closing one, in the array after
pub padded_at : (xs : List ℕ) (closing k : ℕ) → k ≤ length xs → get_or (padded (xs ++ (closing ∷ []))) k 0 ≡ get_or (xs ++ (closing ∷ [])) k 0
padded_at xs closing k h = get_or-append (xs ++ (closing ∷ [])) _ 0 k (omega (arith, length-append xs (closing ∷ [])))

-- zeros behind a list
zeros_behind : (n : ℕ) (xs : List ℕ) (k : ℕ) → length xs ≤ k → get_or (xs ++ replicate n 0) k 0 ≡ 0
zeros_behind n [] k h = zeros_at n k
zeros_behind n (x ∷ xs) zero h = absurd (omega arith)
zeros_behind n (x ∷ xs) (suc k) h = zeros_behind n xs k (omega arith)

-- behind the closing entry, the n-th, stands 0
pub behind_closing : (xs : List ℕ) (closing n : ℕ) → length xs ≡ n → (k : ℕ) → n < k → get_or (padded (xs ++ (closing ∷ []))) k 0 ≡ 0
behind_closing xs closing n e k h =
    let edges = xs ++ (closing ∷ []) in
    zeros_behind (65 - length edges) edges k (omega (arith, length-append xs (closing ∷ [])))

module _ (f : ℕ → ℕ) (n closing : ℕ) where
  pub start_at_lem : (k : ℕ) → k < n → get_or (padded (tabulate f 0 n ++ (closing ∷ []))) k 0 ≡ f k
  start_at_lem k h =
      let l = length_tabulate f 0 n in
      padded_at (tabulate f 0 n) closing k (omega arith)
      ∙ get_or-append (tabulate f 0 n) (closing ∷ []) 0 k (omega arith)
      ∙ get_d_tabulate f 0 n k h
      ∙ ap f (zero-add k)

  pub closing_at : get_or (padded (tabulate f 0 n ++ (closing ∷ []))) n 0 ≡ closing
  closing_at =
      let l = length_tabulate f 0 n in
      padded_at (tabulate f 0 n) closing n (omega arith) ∙ get_or_at (tabulate f 0 n) closing [] 0 n l

-- at most 65 entries, with zeros behind them, are 65
pub padded_length : (xs : List ℕ) → length xs ≤ 65 → length (padded xs) ≡ 65
padded_length xs h = length-append xs (replicate (65 - length xs) 0) ∙ omega (arith, length-replicate {A = ℕ} (65 - length xs) 0)

-- a list with zeros behind it, before other numbers, grows by one at its end
pub grow : (xs rest : List ℕ) (n v : ℕ) → length xs ≡ n → n < 65 → set (padded xs ++ rest) n v ≡ padded (xs ++ (v ∷ [])) ++ rest
grow xs rest n v e h =
    let q : 65 - length xs ≡ suc (65 - length (xs ++ (v ∷ []))) = omega (arith, length-append xs (v ∷ [])) in
    let zeros : List ℕ = replicate (65 - length (xs ++ (v ∷ []))) 0 in
    ap (λ (k : ℕ). set ((xs ++ replicate k 0) ++ rest) n v) q
    ∙ ap (λ (l : List ℕ). set l n v) (append_assoc xs (0 ∷ zeros) rest)
    ∙ set_at xs 0 (zeros ++ rest) v n e
    ∙ sym (ap (λ (l : List ℕ). l ++ rest) (append_assoc xs (v ∷ []) zeros) ∙ append_assoc xs (v ∷ zeros) rest)

-- a start is stored
pub stored : (f : ℕ → ℕ) (rest : List ℕ) (n v : ℕ) → v ≡ f n → n < 65 → set (padded (tabulate f 0 n) ++ rest) n v ≡ padded (tabulate f 0 (n + 1)) ++ rest
stored f rest n v e h =
    grow (tabulate f 0 n) rest n v (length_tabulate f 0 n) h
    ∙ ap (λ (w : ℕ). padded (tabulate f 0 n ++ (w ∷ [])) ++ rest) (e ∙ ap f (sym (zero-add n)))
    ∙ ap (λ (l : List ℕ). padded l ++ rest) (sym (tabulate_more f 0 n) ∙ ap (tabulate f 0) (sym (add-one n)))

-- and the closing one
pub closed : (f : ℕ → ℕ) (rest : List ℕ) (n v : ℕ) → n < 65 → set (padded (tabulate f 0 n) ++ rest) n v ≡ padded (tabulate f 0 n ++ (v ∷ [])) ++ rest
closed f rest n v h = grow (tabulate f 0 n) rest n v (length_tabulate f 0 n) h

-- what two lists add up to
pub sum_append : (xs ys : List ℕ) → sum (xs ++ ys) ≡ sum xs + sum ys
unfolding sum
sum_append [] ys = sym (zero-add (sum ys))
sum_append (x ∷ xs) ys = omega (arith, sum_append xs ys)

-- sizes between edges that do not fall add up to the last edge less the first
pub telescope : (e : ℕ → ℕ) (i n : ℕ) → ((k : ℕ) → i ≤ k → k < i + n → e k ≤ e (k + 1)) → sum (tabulate (λ k. e (k + 1) - e k) i n) + e i ≡ e (i + n)
unfolding tabulate sum
telescope e i zero up = omega (arith, ap e (add-zero i))
telescope e i (suc n) up =
    let r : suc i + n ≡ i + suc n = omega arith in
    omega (arith, telescope e (suc i) n (λ k h l. up k (omega arith) (omega arith)), up i (omega arith) (omega arith), ap e (add-one i), ap e r)
