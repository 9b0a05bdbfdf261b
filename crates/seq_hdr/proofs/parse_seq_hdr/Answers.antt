use mathlib.Core.Bool.{Bool}
use mathlib.Core.List.{List}
use mathlib.Core.Path.{◌≡◌, refl, ap, sym, subst, ◌∙◌}
use Prim.Native.Nat.{ℕ}
use Rattle.getbits.specs.declared.Place.{Place}
use Rattle.getbits.proofs.Chain.{taken, left}
use Rattle.flat.specs.Layout.{put_layout}
use Rattle.flat.proofs.Room.{came_back}
use Rattle.seq_record.specs.declared.SequenceHeader.{SequenceHeader}
use Rattle.tile_layout.specs.declared.TileInfo.{TileInfo}
use Rattle.seq_hdr.specs.Header.{with_tiling, parse_seq_hdr}
use Rattle.seq_hdr.specs.HeaderLayout.{HeaderLayout}
use Rattle.seq_hdr.specs.Tiling.{read_tiling}
use Rattle.seq_hdr.specs.declared.SeqRead.{SeqRead}
use Rattle.seq_hdr.proofs.HeaderLayout.{header_layout}
use Rattle.seq_hdr.proofs.Into.{head_ends, head_goes_on}
use Rattle.seq_hdr.proofs.parse_seq_hdr.Goals as goal

-- the header, and what is promised of its layout
promised : (s : List ℕ) (p : Place) (strict : Bool) {r : SeqRead} → parse_seq_hdr s p strict ≡ r
    → (r ≡ parse_seq_hdr s p strict) × HeaderLayout s p r
promised s p strict e =
    (sym e, subst (HeaderLayout s p) e (header_layout s p strict))

pub returns-then-is_refusal : goal.returns-then-is_refusal
returns-then-is_refusal c =
    let a = c.args in
    let w = promised a.s.now a.p a.strict (head_ends a.s.now a.p a.strict c.read_head-head.ensures.is (sym c.is_refusal.ensures ∙ c.if-is_refusal.true)) in
    record { value = w.0; header_layout = w.1 }

pub read_rest-rest-requires : goal.read_rest-rest-requires
unfolding put_layout
read_rest-rest-requires c = record { room = refl; zero_layout = refl }

pub returns-then-is_refusal-2 : goal.returns-then-is_refusal-2
returns-then-is_refusal-2 c =
    let a = c.args in
    let w = promised a.s.now a.p a.strict
    (head_goes_on a.s.now a.p a.strict c.read_head-head.ensures.is (sym c.is_refusal.ensures ∙ c.if-is_refusal.false)
    ∙ c.read_rest-rest.ensures.0 c.read_head-head.result.hdr
    ∙ taken _ _ _ (sym c.is_refusal-2.ensures ∙ c.if-is_refusal-2.true)
    ∙ sym c.refuse_header.ensures) in
    record { value = w.0; header_layout = w.1 }

pub returns : goal.returns
returns c =
    let a = c.args in
    let x = c.read_head-head.result in
    let y = c.read_rest-rest.result in
    let t : TileInfo = (read_tiling x.hdr.blocks.partition.sb128 x.hdr.picture.size x.hdr.level a.s.now x.next).value.t in
    let fine = sym c.is_refusal-2.ensures ∙ c.if-is_refusal-2.false in
    let same = c.tile_info_of-t.ensures ∙ came_back t _ _ refl (c.read_rest-rest.ensures.1 ∙ left _ _ _ fine) c.read_rest-rest.auto.cols c.read_rest-rest.auto.rows in
    let w = promised a.s.now a.p a.strict
    (head_goes_on a.s.now a.p a.strict c.read_head-head.ensures.is (sym c.is_refusal.ensures ∙ c.if-is_refusal.false)
    ∙ c.read_rest-rest.ensures.0 x.hdr
    ∙ left _ _ _ fine
    ∙ ap (λ (hdr : SequenceHeader). record { answer = y.answer; hdr = hdr; next = y.next })
    (ap (λ (l : TileInfo). with_tiling x.hdr (record { present = y.present; t = l }) y.film_grain_present) (sym same) ∙ sym c.with_tiling-hdr.ensures)) in
    record { value = w.0; header_layout = w.1 }
