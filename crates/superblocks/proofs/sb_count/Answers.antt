use Rattle.std.proofs.Common.{◌≡◌, ◌%◌, ◌^◌, ap, ◌∙◌, arith}
use Rattle.tile_layout.specs.Limits.{superblocks}
use Rattle.superblocks.specs.Counts.{size_of}
use Rattle.superblocks.proofs.sb_count.Goals as goal

size : (c : goal.After-whole_sbs) → c.power-sbsz_min1.result ≡ size_of c.args.code
size c =
    let e : c.sbsz_log2.result % 32 ≡ c.sbsz_log2.result = omega (arith, c.sbsz_log2.ensures.2) in
    c.power-sbsz_min1.ensures.0 ∙ ap (◌^◌ 2) e ∙ c.sbsz_log2.ensures.0

pub returns : goal.returns
unfolding superblocks
returns c =
    c.whole_sbs.ensures ∙ rw (c.from-2.ensures, c.from.ensures, size c)
