use Rattle.std.proofs.Common.{◌≡◌, ℕ, ◌-◌, ◌*◌, ◌/◌, ◌%◌, ◌^◌, ◌<◌, ◌≤◌, max, mod-eq_of_lt, arith}
use Rattle.getbits.proofs.Fields.{shl_one}
use Rattle.superblocks.proofs.Division.{Settled, ones, part_fits, start, keep, clear, settled}
use Rattle.superblocks.proofs.quotient.quotient.Goals as goal

-- a turn, where `bits` bits hold n / d: k is the place above it
module _ (n d bits k q left : ℕ) (n< : n < 2 ^ 32) (d< : d < 2 ^ 32) (held : 2 ^ (bits - 1) ≤ max 1 (n / d)) (more : 0 < k) (inside : k ≤ bits) (s : Settled n d k q left) where
  -- its part of the divisor as it stands
  part : d * 2 ^ (k - 1) % 4294967296 ≡ d * 2 ^ (k - 1)
  part = mod-eq_of_lt (part_fits n d (k - 1) (bits - 1) n< d< (omega arith) held)

  -- a bit that stays
  on : d * 2 ^ (k - 1) % 4294967296 ≤ left → Settled n d (k - 1) q (left - d * 2 ^ (k - 1) % 4294967296)
  on h = rw part (keep _ _ k q left more s (rw part at h))

  -- a bit that is taken off
  off : left < d * 2 ^ (k - 1) % 4294967296 → (2 ^ (k - 1) ≤ q) × Settled n d (k - 1) (q - 2 ^ (k - 1)) left
  off h = clear _ _ k q left more s (rw part at h)

pub loop-k-init : goal.loop-k-init
loop-k-init c =
    let a = c.args in
    let e = c.quotient_bits-bits.ensures in
    (omega arith, rw (ones c.quotient_bits-bits.result e.1) (start a.n a.d c.quotient_bits-bits.result c.requires e.2))

pub overflow_shl-part : goal.overflow_shl-part
overflow_shl-part c = omega (arith, c.loop-k.invariant.0, c.quotient_bits-bits.ensures.1)

pub loop-k-preserved-then-part-left : goal.loop-k-preserved-then-part-left
loop-k-preserved-then-part-left c =
    let l = c.loop-k in
    let e = c.quotient_bits-bits.ensures in
    (omega (arith, l.invariant.0), on c.args.n c.args.d c.quotient_bits-bits.result l.k l.q l.left c.ranges.n.fits c.ranges.d.fits e.3 c.loop-k-test.true l.invariant.0 l.invariant.1 c.if-part-left.true)

pub overflow_shl-q : goal.overflow_shl-q
overflow_shl-q c = omega (arith, c.loop-k.invariant.0, c.quotient_bits-bits.ensures.1)

pub overflow_sub-q-else-part-left : goal.overflow_sub-q-else-part-left
overflow_sub-q-else-part-left c =
    let l = c.loop-k in
    let e = c.quotient_bits-bits.ensures in
    rw (shl_one (l.k - 1) 32 (omega (arith, l.invariant.0, e.1))) (off c.args.n c.args.d c.quotient_bits-bits.result l.k l.q l.left c.ranges.n.fits c.ranges.d.fits e.3 c.loop-k-test.true l.invariant.0 l.invariant.1 c.if-part-left.false).0

pub loop-k-preserved : goal.loop-k-preserved
loop-k-preserved c =
    let l = c.loop-k in
    let e = c.quotient_bits-bits.ensures in (
      omega (arith, l.invariant.0),
      rw (shl_one (l.k - 1) 32 (omega (arith, l.invariant.0, e.1))) (off c.args.n c.args.d c.quotient_bits-bits.result l.k l.q l.left c.ranges.n.fits c.ranges.d.fits e.3 c.loop-k-test.true l.invariant.0 l.invariant.1 c.if-part-left.false).1,
    )

pub returns : goal.returns
returns c =
    let l = c.loop-k in
    let e : l.k ≡ 0 = omega (arith, c.loop-k-test.false) in
    settled _ _ l.q l.left (rw e at l.invariant.1)
