use Rattle.std.proofs.Common.{◌≡◌, ℕ, zero, suc, ◌+◌, ◌-◌, ◌*◌, ◌%◌, ◌^◌, ◌<◌, ◌≤◌, ap, ◌∙◌, lt_of_lt_of_le, mod-eq_of_lt, mul-lt-mul_of_pos_right, arith, pow_pos, pow_mono, pow-add}
use lib.Count.{count_leading_zeros, leading_length}
use Rattle.tile_layout.proofs.Logs.{log_more, log_is}
use Rattle.tile_layout.specs.Limits.{tile_log2}
use Rattle.superblocks.proofs.tile_log2.Goals as goal

-- how many bits a number has
abbrev Bits : ℕ → Type 0
Bits n = (m : ℕ) × (count_leading_zeros 32 n + m ≡ 32) × (n < 2 ^ m) × (2 ^ m ≤ 2 * n + 1)

some_bits : (sz m : ℕ) → 1 ≤ sz → sz < 2 ^ m → 1 ≤ m
some_bits sz zero s h = absurd (omega arith)
some_bits sz (suc m) s h = omega arith

-- k, the difference of the leading zeros
module _ (sz tgt k : ℕ) (sz< : sz < 2 ^ 32) (tgt< : tgt < 2 ^ 32) (some : 1 ≤ sz) (most : tgt ≤ 1048576) (is : k ≡ count_leading_zeros 32 sz - count_leading_zeros 32 tgt) where
  a : Bits sz
  a = leading_length 32 sz sz<

  b : Bits tgt
  b = leading_length 32 tgt tgt<

  by : k ≡ b.0 - a.0
  by = omega (arith, a.1, b.1)

  below : k < 32
  below = omega (arith, by, some_bits sz a.0 some a.2, b.1)

  -- sz as it is shifted
  shifted : sz * 2 ^ k % 4294967296 ≡ sz * 2 ^ (b.0 - a.0)
  shifted =
      let all : a.0 + (b.0 - a.0) ≤ 32 = omega (arith, a.1, b.1) in
      let fits : 2 ^ (a.0 + (b.0 - a.0)) ≤ 2 ^ 32 = pow_mono all in
      ap (λ (k : ℕ). sz * 2 ^ k % 4294967296) by
      ∙ mod-eq_of_lt (lt_of_lt_of_le (mul-lt-mul_of_pos_right a.2 (pow_pos (b.0 - a.0))) (rw (pow-add 2 a.0 (b.0 - a.0)) at fits))

  more : sz * 2 ^ k % 4294967296 < tgt → k + 1 ≡ tile_log2 sz tgt
  more h = omega (arith, by, log_more a.0 b.0 sz tgt a.2 a.3 b.2 b.3 some most (rw shifted at h))

  no_more : tgt ≤ sz * 2 ^ k % 4294967296 → k ≡ tile_log2 sz tgt
  no_more h = omega (arith, by, log_is a.0 b.0 sz tgt a.2 a.3 b.2 b.3 some most (rw shifted at h))

pub overflow_shl-sz : goal.overflow_shl-sz
overflow_shl-sz c = below c.args.sz c.args.tgt c.saturating_sub-k.result c.ranges.sz.fits c.ranges.tgt.fits c.requires.0 c.requires.1 c.saturating_sub-k.ensures

pub overflow_add-result : goal.overflow_add-result
overflow_add-result c = omega (arith, below c.args.sz c.args.tgt c.saturating_sub-k.result c.ranges.sz.fits c.ranges.tgt.fits c.requires.0 c.requires.1 c.saturating_sub-k.ensures)

pub overflow_cast-result : goal.overflow_cast-result
overflow_cast-result c = omega (arith, below c.args.sz c.args.tgt c.saturating_sub-k.result c.ranges.sz.fits c.ranges.tgt.fits c.requires.0 c.requires.1 c.saturating_sub-k.ensures)

pub returns-then-sz-k : goal.returns-then-sz-k
returns-then-sz-k c = more c.args.sz c.args.tgt c.saturating_sub-k.result c.ranges.sz.fits c.ranges.tgt.fits c.requires.0 c.requires.1 c.saturating_sub-k.ensures c.if-sz-k.true

pub overflow_cast-result-2 : goal.overflow_cast-result-2
overflow_cast-result-2 c = omega (arith, below c.args.sz c.args.tgt c.saturating_sub-k.result c.ranges.sz.fits c.ranges.tgt.fits c.requires.0 c.requires.1 c.saturating_sub-k.ensures)

pub returns : goal.returns
returns c = no_more c.args.sz c.args.tgt c.saturating_sub-k.result c.ranges.sz.fits c.ranges.tgt.fits c.requires.0 c.requires.1 c.saturating_sub-k.ensures c.if-sz-k.false
