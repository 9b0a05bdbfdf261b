use Rattle.std.proofs.Common.{◌≡◌, ◌+◌, ◌-◌, ◌%◌, ◌^◌, ◌∙◌, lt_of_le_of_lt, rules}
use Rattle.superblocks.specs.Counts.{fits_uniform}
use Rattle.superblocks.proofs.Counts.{part_le}
use Rattle.superblocks.proofs.FrameSb.fits_uniform.Goals as goal

count : (c : goal.After-from-n) → c.from-tiles.result ≡ 2 ^ (c.args.log2 % 32)
count c = c.from-tiles.ensures ∙ c.power.ensures.0

pub overflow_mul-result : goal.overflow_mul-result
overflow_mul-result c =
    let t = c.from-tiles.result in
    let x = c.from-n.result + (t - 1) in
    record { fits = lt_of_le_of_lt {m = x} (rw (← count c) (part_le x t)) (search rules) }

pub returns : goal.returns
unfolding fits_uniform
returns c = rw (c.from-n.ensures, count c)
