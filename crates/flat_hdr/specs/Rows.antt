-- A part of a header's numbers in a buffer for all of them.
use Rattle.std.specs.Prelude.{◌≡◌, List, ℕ, ◌+◌, ◌<◌, ◌≤◌, ℤ, length}
use Rattle.flat.specs.Rows.{PutAt}

-- xs, n numbers, was put from number `at` on; a buffer that has fewer than 146 stays as it was
pub record PutIn (before : List ℤ) (at : ℕ) (xs : List ℤ) (n : ℕ) (after : List ℤ) : Type 0 where
  pub stands : 146 ≤ length before → PutAt before at xs n after (at + n)
  pub kept : length before < 146 → after ≡ before
