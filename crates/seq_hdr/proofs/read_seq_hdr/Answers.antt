use mathlib.Core.Path.{◌≡◌, refl, ap, sym, subst, ◌∙◌}
use mathlib.Core.Bool.{Bool, true}
use mathlib.Core.List.{List}
use Prim.Native.Nat.{ℕ}
use native.Mathlib.Omega.{arith}
use lib.IntN.{ℤ, pos}
use lib.ListN.{length, replicate}
use Rattle.answers.specs.Numbers.{number_of, is_refusal}
use Rattle.answers.specs.declared.Answer.{Answer}
use Rattle.getbits.proofs.Chain.{contrary, through, taken, left}
use Rattle.getbits.specs.declared.Place.{Place}
use Rattle.lent.proofs.Calls.{triple}
use Rattle.flat.specs.Layout.{Buffers, buffers, over_front, has_room, put_layout, layout_in}
use Rattle.flat.proofs.Room.{came_back}
use Rattle.flat_hdr.specs.Header.{flat_seq_hdr}
use Rattle.flat_hdr.proofs.Rows.{and_then, all_put}
use Rattle.flat_hdr.proofs.Zero.{zero_numbers}
use Rattle.tile_layout.specs.Limits.{no_tile_info}
use Rattle.tile_layout.specs.declared.TileInfo.{TileInfo}
use Rattle.seq_hdr.specs.declared.HeaderOutcome.{HeaderOutcome}
use Rattle.seq_hdr.specs.declared.SeqRead.{SeqRead}
use Rattle.seq_hdr.specs.Header.{refused_header, with_tiling, parse_seq_hdr}
use Rattle.seq_hdr.specs.HeaderTiling.{HeaderTiling}
use Rattle.seq_hdr.specs.Into.{parse_seq_hdr_into}
use Rattle.seq_hdr.specs.Tiling.{read_tiling}
use Rattle.seq_hdr.proofs.HeaderLayout.{header_tiling}
use Rattle.seq_hdr.proofs.Into.{room-still, goes_over, head_ends, as_refused, head_goes_on}
use Rattle.seq_hdr.proofs.read_seq_hdr.Goals as goal

-- what a header leaves in buffers that have room and keep their lengths
module _ (s : List ℕ) (p : Place) (strict : Bool) (out : List ℤ) (b : Buffers) (has : has_room b ≡ true) where
  abbrev Left : HeaderOutcome → List ℤ → Buffers → Type 0
  Left r out' after =
      ((r, out', after) ≡ parse_seq_hdr_into s p strict out b)
      × ((has_room b ≡ true → layout_in after ≡ (parse_seq_hdr s p strict).hdr.tiling.t) × (has_room b ≡ true → HeaderTiling s p (number_of r.answer) (layout_in after)))

  whole : (z : SeqRead) {out' : List ℤ} {after : Buffers} → length after.col_starts ≡ length b.col_starts → length after.row_starts ≡ length b.row_starts
      → parse_seq_hdr s p strict ≡ z → out' ≡ over_front 146 (flat_seq_hdr z.hdr) out → after ≡ put_layout z.hdr.tiling.t b
      → Left (record { answer = z.answer; next = z.next }) out' after
  unfolding parse_seq_hdr_into
  whole z {out'} {after} cols rows e numbers put =
      let back = came_back z.hdr.tiling.t b after has put cols rows in (
        triple refl numbers put
            ∙ ap (λ (x : SeqRead). (record { answer = x.answer; next = x.next }, over_front 146 (flat_seq_hdr x.hdr) out, put_layout x.hdr.tiling.t b)) (sym e)
            ∙ sym (taken _ _ _ has ∙ through _ _ refl),
        (
          λ _. back ∙ ap (λ (x : SeqRead). x.hdr.tiling.t) (sym e),
          λ _. subst (HeaderTiling s p (number_of z.answer)) (sym back)
              (subst (λ (x : SeqRead). HeaderTiling s p (number_of x.answer) x.hdr.tiling.t) e (header_tiling s p strict)),
        ),
      )

  -- a refused one
  zeros : (answer : Answer) (q : Place) {out' : List ℤ} {after : Buffers} → length after.col_starts ≡ length b.col_starts → length after.row_starts ≡ length b.row_starts
      → parse_seq_hdr s p strict ≡ refused_header answer q → out' ≡ over_front 146 (replicate 146 (pos 0)) out → after ≡ put_layout no_tile_info b
      → Left (record { answer = answer; next = q }) out' after
  unfolding refused_header
  zeros answer q cols rows e numbers put =
      whole (refused_header answer q) cols rows e (numbers ∙ ap (λ (xs : List ℤ). over_front 146 xs out) (sym zero_numbers)) put

pub returns-then-not-has_room : goal.returns-then-not-has_room
unfolding parse_seq_hdr_into
returns-then-not-has_room c =
    let lacks = sym c.has_room.ensures ∙ c.if-not-has_room.true in
    record { outcome = sym (left _ _ _ lacks); layout_put = λ h. contrary h lacks; header_tiling = λ h. contrary h lacks }

pub clear_layout-requires : goal.clear_layout-requires
clear_layout-requires c = sym c.has_room.ensures ∙ c.if-not-has_room.false

pub returns-then-is_refusal : goal.returns-then-is_refusal
returns-then-is_refusal c =
    let a = c.args in
    let b : Buffers = buffers a.info.now a.cols.now a.rows.now in
    let has : has_room b ≡ true = sym c.has_room.ensures ∙ c.if-not-has_room.false in
    let r = c.read_head-head in
    let x = r.result in
    let refusal : is_refusal x.answer ≡ true = sym c.is_refusal.ensures ∙ c.if-is_refusal.true in
    let w = zeros a.s.now a.p a.strict a.out.now b has x.answer x.next c.clear_layout.auto.cols c.clear_layout.auto.rows
    (head_ends a.s.now a.p a.strict r.ensures.is refusal ∙ as_refused a.s.now a.p a.strict r.ensures.is refusal)
    (c.put_zeros.ensures ∙ r.ensures.numbers.behind (replicate 146 (pos 0)))
    c.clear_layout.ensures in
    record { outcome = w.0; layout_put = w.1.0; header_tiling = w.1.1 }

pub read_rest-rest-requires : goal.read_rest-rest-requires
read_rest-rest-requires c =
    let a = c.args in
    let b : Buffers = buffers a.info.now a.cols.now a.rows.now in
    let has : has_room b ≡ true = sym c.has_room.ensures ∙ c.if-not-has_room.false in
    let e = c.clear_layout.ensures in
    let cols = c.clear_layout.auto.cols in
    let rows = c.clear_layout.auto.rows in
    record { room = room-still no_tile_info b _ has e cols rows; zero_layout = goes_over no_tile_info b _ has e cols rows no_tile_info ∙ sym e }

pub returns-then-is_refusal-2 : goal.returns-then-is_refusal-2
returns-then-is_refusal-2 c =
    let a = c.args in
    let b : Buffers = buffers a.info.now a.cols.now a.rows.now in
    let has : has_room b ≡ true = sym c.has_room.ensures ∙ c.if-not-has_room.false in
    let r = c.read_head-head in
    let k = c.read_rest-rest in
    let refusal = sym c.is_refusal-2.ensures ∙ c.if-is_refusal-2.true in
    let w = zeros a.s.now a.p a.strict a.out.now b has k.result.answer k.result.next
    (k.auto.cols ∙ c.clear_layout.auto.cols) (k.auto.rows ∙ c.clear_layout.auto.rows)
    (head_goes_on a.s.now a.p a.strict r.ensures.is (sym c.is_refusal.ensures ∙ c.if-is_refusal.false) ∙ k.ensures.0 r.result.hdr ∙ taken _ _ _ refusal)
    (c.put_zeros-then-is_refusal-2.ensures ∙ r.ensures.numbers.behind (replicate 146 (pos 0)))
    (k.ensures.1 ∙ taken _ _ _ refusal ∙ c.clear_layout.ensures) in
    record { outcome = w.0; layout_put = w.1.0; header_tiling = w.1.1 }

pub returns : goal.returns
unfolding flat_seq_hdr
returns c =
    let a = c.args in
    let b : Buffers = buffers a.info.now a.cols.now a.rows.now in
    let has : has_room b ≡ true = sym c.has_room.ensures ∙ c.if-not-has_room.false in
    let r = c.read_head-head in
    let x = r.result in
    let k = c.read_rest-rest in
    let y = k.result in
    let cols = c.clear_layout.auto.cols in
    let rows = c.clear_layout.auto.rows in
    let accepted = sym c.is_refusal.ensures ∙ c.if-is_refusal.false in
    let fine = sym c.is_refusal-2.ensures ∙ c.if-is_refusal-2.false in
    -- the layout that was read
    let t : TileInfo = (read_tiling x.hdr.blocks.partition.sb128 x.hdr.picture.size x.hdr.level a.s.now x.next).value.t in
    let z : SeqRead = record { answer = y.answer; hdr = with_tiling x.hdr (record { present = y.present; t = t }) y.film_grain_present; next = y.next } in
    let w = whole a.s.now a.p a.strict a.out.now b has z (k.auto.cols ∙ cols) (k.auto.rows ∙ rows)
    (head_goes_on a.s.now a.p a.strict r.ensures.is accepted ∙ k.ensures.0 x.hdr ∙ left _ _ _ fine)
    (all_put (and_then (r.ensures.numbers.stands accepted) c.put_last.ensures (omega arith)))
    (k.ensures.1 ∙ left _ _ _ fine ∙ goes_over no_tile_info b _ has c.clear_layout.ensures cols rows t) in
    record { outcome = w.0; layout_put = w.1.0; header_tiling = w.1.1 }
