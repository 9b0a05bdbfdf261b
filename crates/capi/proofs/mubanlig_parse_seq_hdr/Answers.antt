use mathlib.Core.Bool.{true}
use mathlib.Core.List.{List}
use mathlib.Core.Path.{◌≡◌, refl, sym, ap, ◌∙◌}
use Prim.Native.Nat.{ℕ}
use borrow.Author.Tests.{le-leb, lt-leb}
use lib.Dec.{leb}
use lib.IntN.{ℤ}
use lib.ListN.{length}
use Rattle.answers.specs.Numbers.{number_of}
use Rattle.getbits.proofs.Chain.{through, taken, left, both_hold}
use Rattle.getbits.specs.declared.Place.{Place}
use Rattle.flat.specs.Layout.{Buffers, buffers, over_front, has_room, put_layout, layout_in}
use Rattle.flat_hdr.specs.Header.{flat_seq_hdr}
use Rattle.capi.specs.Calls.{lent_header}
use Rattle.capi.specs.Promises.{HeaderLeft}
use Rattle.lent.specs.Lent.{is_set, place_of}
use Rattle.lent.specs.Calls.{answered}
use Rattle.seq_hdr.proofs.Refused.{header_refused}
use Rattle.seq_hdr.specs.Header.{parse_seq_hdr}
use Rattle.seq_hdr.specs.HeaderTiling.{HeaderTiling}
use Rattle.seq_hdr.specs.Into.{parse_seq_hdr_into}
use Rattle.seq_hdr.specs.declared.HeaderOutcome.{HeaderOutcome}
use Rattle.lent.proofs.Calls.{row, triple, first_fails, second_fails}
use Rattle.capi.proofs.Left.{never_5, header_read}
use Rattle.capi.proofs.mubanlig_parse_seq_hdr.Goals as goal

-- the header, its numbers and its layout, over buffers that have room
abbrev Read : Type 0
Read = HeaderOutcome × List ℤ × Buffers

module _ (s : List ℕ) (position error strict : ℕ) (hdr : List ℤ) (b : Buffers) (has : has_room b ≡ true) where
  abbrev read : Read
  read =
      let z = parse_seq_hdr s (place_of position error) (is_set strict) in
      (record { answer = z.answer; next = z.next }, over_front 146 (flat_seq_hdr z.hdr) hdr, put_layout z.hdr.tiling.t b)

  read_into : parse_seq_hdr_into s (place_of position error) (is_set strict) hdr b ≡ read
  unfolding parse_seq_hdr_into
  read_into = taken _ _ _ has ∙ through _ _ refl

  lent_read : leb 146 (length hdr) ≡ true → (answered read.0.answer read.0.next error, read.1, read.2) ≡ lent_header s position error strict hdr b
  unfolding lent_header
  lent_read long = sym (taken _ _ _ (both_hold long has) ∙ through _ _ refl)

  left_by : leb 146 (length hdr) ≡ true → {o : Read} {numbers : List ℕ} → o ≡ read → numbers ≡ answered o.0.answer o.0.next error
      → (numbers, o.1, o.2) ≡ lent_header s position error strict hdr b
  left_by long e r = triple r refl refl ∙ ap (λ (y : Read). (answered y.0.answer y.0.next error, y.1, y.2)) e ∙ lent_read long

-- the same promise, in the words of the lent buffers
left_of : (s : List ℕ) (p : Place) (n : ℕ) (b : Buffers) → HeaderTiling s p n (layout_in b) → HeaderLeft s p n b
left_of s p n b h = record { demand3 = h.demand3; refused_with_2 = h.refused_with_2; refused_only_then = h.refused_only_then; layout = h.layout; cleared = h.cleared }

pub returns-then-hdr-lt146 : goal.returns-then-hdr-lt146
unfolding lent_header
returns-then-hdr-lt146 c =
    let b : Buffers = buffers c.args.info.now c.args.col_start_sb.now c.args.row_start_sb.now in
    let fails = first_fails _ (has_room b) (lt-leb 146 (length c.args.hdr.now) c.if-hdr-lt146.true) in
    record {
      outcome = sym (left _ _ _ fails);
      hdr_unchanged = λ _. refl;
      info_unchanged = λ _. refl;
      col_start_sb_unchanged = λ _. refl;
      row_start_sb_unchanged = λ _. refl;
      hdr_after = λ _ h. never_5 h;
      info_after = λ _ h. never_5 h;
      col_start_sb_after = λ _ h. never_5 h;
      row_start_sb_after = λ _ h. never_5 h;
      header_left = λ h. absurd (h refl);
    }

pub returns-then-not-has_room : goal.returns-then-not-has_room
unfolding lent_header
returns-then-not-has_room c =
    let lacks = sym c.has_room.ensures ∙ c.if-not-has_room.true in
    let fails = second_fails (leb 146 (length c.args.hdr.now)) _ lacks in
    record {
      outcome = sym (left _ _ _ fails);
      hdr_unchanged = λ _. refl;
      info_unchanged = λ _. refl;
      col_start_sb_unchanged = λ _. refl;
      row_start_sb_unchanged = λ _. refl;
      hdr_after = λ _ h. never_5 h;
      info_after = λ _ h. never_5 h;
      col_start_sb_after = λ _ h. never_5 h;
      row_start_sb_after = λ _ h. never_5 h;
      header_left = λ h. absurd (h refl);
    }

pub returns : goal.returns
returns c =
    let a = c.args in
    let x = c.read_seq_hdr-r.result in
    let b : Buffers = buffers a.info.now a.col_start_sb.now a.row_start_sb.now in
    let p : Place = place_of a.position.now a.error.now in
    let z = parse_seq_hdr a.s.now p (is_set a.strict) in
    let has : has_room b ≡ true = sym c.has_room.ensures ∙ c.if-not-has_room.false in
    let long = le-leb 146 (length a.hdr.now) c.if-hdr-lt146.false in
    let e = (rw (c.place_of-p.ensures, c.is_set.ensures) at c.read_seq_hdr-r.ensures.outcome) ∙ read_into a.s.now a.position.now a.error.now a.strict a.hdr.now b has in
    let number = c.number.ensures ∙ ap (λ (y : Read). number_of y.0.answer) e in
    let w = header_read z c.number.result a.hdr.now b number (header_refused a.s.now p (is_set a.strict)) long has (ap (λ (y : Read). y.1) e) (ap (λ (y : Read). y.2) e) in
    record {
      outcome = left_by a.s.now a.position.now a.error.now a.strict a.hdr.now b has long e (row x.answer x.next a.error.now c.number.ensures c.put_place.ensures);
      hdr_unchanged = λ e. absurd (w.not_5 e);
      info_unchanged = λ e. absurd (w.not_5 e);
      col_start_sb_unchanged = λ e. absurd (w.not_5 e);
      row_start_sb_unchanged = λ e. absurd (w.not_5 e);
      hdr_after = λ e _. w.numbers e;
      info_after = λ e _. w.bytes e;
      col_start_sb_after = λ e _. w.col_starts e;
      row_start_sb_after = λ e _. w.row_starts e;
      header_left = λ _. left_of _ _ _ _ (rw c.number.ensures (rw c.place_of-p.ensures at (c.read_seq_hdr-r.ensures.header_tiling has)));
    }
