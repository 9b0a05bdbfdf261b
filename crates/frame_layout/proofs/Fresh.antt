-- DEMAND 3 of the definition, where a layout is read fresh. Assumes nothing.
use mathlib.Core.Path.{refl, sym, ◌∙◌, subst}
use mathlib.Core.List.{List}
use Prim.Native.Nat.{ℕ}
use Rattle.answers.specs.Numbers.{is_refusal}
use Rattle.getbits.proofs.Chain.{through, taken, left}
use Rattle.getbits.specs.Chain.{pick}
use Rattle.getbits.specs.declared.Place.{Place}
use Rattle.tile_layout.specs.Layout.{parse_tile_info}
use Rattle.tile_layout.specs.Demand3.{Demand3}
use Rattle.tile_layout.specs.declared.TileArgs.{TileArgs}
use Rattle.tile_layout.specs.declared.TileRead.{TileRead}
use Rattle.tile_layout.proofs.Demand3.{demand_3}
use Rattle.frame_layout.specs.Frame.{frame_args, read_reuse, with_layout, fresh_layout, parse_tile_info_frmhdr, frame_tiles, FreshDemand3}
use Rattle.frame_layout.specs.declared.FrameHeader.{FrameHeader}
use Rattle.frame_layout.specs.declared.FrameRead.{FrameRead}
use Rattle.frame_layout.specs.declared.SeqLayout.{SeqLayout}
use Rattle.frame_layout.proofs.Usable.{frame_in_domain}

-- what holds of the layout read holds of the frame's answer
carried : (s : List ℕ) (p : Place) (h : FrameHeader) (a : TileArgs) (z : TileRead) → Demand3 s p a z
    → Demand3 s p a (record { answer = z.answer; info = (pick (is_refusal z.answer) h (with_layout h a.frame_code z.info)).tiling; next = z.next })
carried s p h a z d =
    record {
      uniform_never_refused = d.uniform_never_refused;
      refused_with_2 = d.refused_with_2;
      refused_only_then = d.refused_only_then;
      accepted = λ e. rw e (d.accepted e);
    }

pub fresh_demand_3 : (s : List ℕ) (p : Place) (h : FrameHeader) (q : SeqLayout) → FreshDemand3 s p h q (parse_tile_info_frmhdr s p h q)
unfolding parse_tile_info_frmhdr fresh_layout
fresh_demand_3 s p h q d f =
    let a = frame_args h q in
    let next = (read_reuse s p a q).next in
    let z = parse_tile_info s next h.tiling a in
    subst (λ (r : FrameRead). Demand3 s next a (frame_tiles r))
    (sym (taken _ _ _ d ∙ through _ _ refl ∙ through _ _ refl ∙ left _ _ _ f ∙ through _ _ refl))
    (carried s next h a z (demand_3 s next h.tiling a (frame_in_domain h q d)))
