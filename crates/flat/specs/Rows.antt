-- Rows of numbers in a buffer.
use Rattle.std.specs.Prelude.{◌≡◌, List, ◌++◌, ℕ, ◌+◌, length, take, drop}

-- the buffer with xs from `at` on
unfoldable pub put : {A : Type 0} → List A → ℕ → List A → List A
put out at xs = take at out ++ xs ++ drop (at + length xs) out

-- xs, n numbers, was put, and r is the place behind it
pub record PutAt {A : Type 0} (before : List A) (at : ℕ) (xs : List A) (n : ℕ) (after : List A) (r : ℕ) : Type 0 where
  pub stands : after ≡ put before at xs
  pub count : length xs ≡ n
  pub next : r ≡ at + n
  pub long : length after ≡ length before
