-- What appending to a lent buffer means.
use Rattle.std.specs.Prelude.{ℕ, ◌+◌, ◌-◌, ◌≤◌, min, List, ◌≡◌, length}
use Rattle.std.proofs.lemmas.List.Edits.{sets}

-- the place behind those of n bytes that fit from a place of a buffer of some length on
unfoldable pub behind : ℕ → ℕ → ℕ → ℕ
behind at n room = at + min n (room - at)

-- bytes, at most `most` of them, are put at a place of a buffer, one after the other; those past its end are dropped, and the next place is
-- behind those that fit
pub record Put (most : ℕ) (before : List ℕ) (at : ℕ) (bytes after : List ℕ) (next : ℕ) : Type 0 where
  pub text : after ≡ sets before at bytes
  pub place : next ≡ behind at (length bytes) (length before)
  pub size : length bytes ≤ most
