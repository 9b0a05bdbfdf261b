-- A clamped number fits 16 bits. Assumes nothing.
use mathlib.Core.Path.{◌≡◌}
use mathlib.Core.Bool.{false}
use native.Mathlib.Omega.{arith}
use borrow.Author.Tests.{ltb-false}
use lib.IntN.{ℤ, pos, negsuc}
use lib.Signed.{lt_z}
use mir.Syntax.{w16}
use mir.Val.{SFits}

pub within : (v : ℤ) → lt_z v (negsuc 350) ≡ false → lt_z (pos 351) v ≡ false → SFits w16 v
within (pos n) _ h = record { sfits = omega (arith, ltb-false 351 n h) }
within (negsuc n) h _ = record { sfits = omega (arith, ltb-false 350 n h) }
