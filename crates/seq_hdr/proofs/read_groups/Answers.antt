use mathlib.Core.Path.{refl, sym, ◌∙◌}
use native.Mathlib.Omega.{arith}
use Rattle.answers.specs.declared.Answer.TheVariants.{InvalidSequenceHeader}
use Rattle.getbits.proofs.Chain.{through, taken, left}
use Rattle.flat_hdr.proofs.Rows.{and_then, put_under}
use Rattle.seq_hdr.specs.Header.{read_groups}
use Rattle.seq_hdr.proofs.Into.{head_not_put}
use Rattle.seq_hdr.proofs.read_groups.Goals as goal

pub returns-then-above : goal.returns-then-above
unfolding read_groups
returns-then-above c =
    let blocks_put = and_then (and_then c.put_head.ensures c.put_picture.ensures (omega arith)) c.put_blocks.ensures (omega arith) in
    record {
      is = sym (through _ _ c.is_mono-mono.ensures
          ∙ through _ _ refl
          ∙ through _ _ c.read_picture-picture.ensures
          ∙ through _ _ c.read_blocks-blocks.ensures
          ∙ through _ _ c.read_motion-motion.ensures
          ∙ through _ _ c.read_ref_frames-refs.ensures
          ∙ taken _ _ _ (sym c.above.ensures ∙ c.if-above.true)
          ∙ sym c.refuse_header.ensures);
      numbers = head_not_put InvalidSequenceHeader _ refl c.refuse_header.ensures (put_under blocks_put (omega arith));
    }

pub returns : goal.returns
unfolding read_groups
returns c =
    let blocks_put = and_then (and_then c.put_head.ensures c.put_picture.ensures (omega arith)) c.put_blocks.ensures (omega arith) in
    let w = and_then (and_then (and_then (and_then blocks_put c.put_motion.ensures (omega arith)) c.put_inter.ensures (omega arith)) c.put_residual.ensures (omega arith)) c.put_filters.ensures (omega arith) in
    record {
      is = sym (through _ _ c.is_mono-mono.ensures
          ∙ through _ _ refl
          ∙ through _ _ c.read_picture-picture.ensures
          ∙ through _ _ c.read_blocks-blocks.ensures
          ∙ through _ _ c.read_motion-motion.ensures
          ∙ through _ _ c.read_ref_frames-refs.ensures
          ∙ left _ _ _ (sym c.above.ensures ∙ c.if-above.false)
          ∙ through _ _ c.read_inter-inter.ensures
          ∙ through _ _ c.read_residual-residual.ensures
          ∙ through _ _ refl
          ∙ through _ _ c.read_filters-filters.ensures
          ∙ sym (simp c.no_tile_info-t.ensures));
      numbers = record { stands = λ _. w; behind = put_under w (omega arith) };
    }
