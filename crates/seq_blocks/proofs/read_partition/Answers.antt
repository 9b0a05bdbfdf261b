use mathlib.Core.Path.{sym, ◌∙◌}
use Rattle.getbits.proofs.Chain.{through}
use Rattle.seq_blocks.specs.Blocks.{read_partition}
use Rattle.seq_blocks.proofs.read_partition.Goals as goal

pub returns : goal.returns
unfolding read_partition
returns c =
    sym (through _ _ c.get_flag-sb256.ensures
    ∙ through _ _ c.flag_if-sb128.ensures
    ∙ through _ _ c.flag_if-sdp.ensures
    ∙ through _ _ c.flag_if-ext_sdp.ensures
    ∙ through _ _ c.get_flag-ext_partitions.ensures
    ∙ through _ _ c.flag_if-uneven.ensures
    ∙ through _ _ c.get_flag-limited.ensures
    ∙ through _ _ c.flag_if-two.ensures
    ∙ sym (simp (c.sb_code-sb_code.ensures, c.aspect_ratio_log2-aspect_ratio_log2.ensures)))
