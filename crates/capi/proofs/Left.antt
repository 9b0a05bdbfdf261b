-- What a call that reads a header leaves. Assumes nothing.
use mathlib.Core.Bool.{true}
use mathlib.Core.List.{List, ◌++◌}
use mathlib.Core.Path.{◌≡◌, ap, ◌∙◌}
use Prim.Native.Nat.{ℕ, ◌≤◌}
use native.Mathlib.Omega.{arith}
use lib.Dec.{leb}
use lib.IntN.{ℤ, pos}
use lib.ListN.{length, replicate, drop}
use Rattle.answers.proofs.Numbers.{refused_unless_0}
use Rattle.answers.specs.Numbers.{number_of}
use Rattle.getbits.proofs.Chain.{taken}
use Rattle.seq_hdr.proofs.Refused.{Refused}
use Rattle.seq_hdr.specs.declared.SeqRead.{SeqRead}
use Rattle.seq_record.specs.Zero.{no_seq_hdr}
use Rattle.seq_record.specs.declared.SequenceHeader.{SequenceHeader}
use Rattle.flat.specs.Layout.{Buffers, buffers, has_room, over_front, put_layout}
use Rattle.flat_hdr.specs.Header.{flat_seq_hdr}
use Rattle.flat_hdr.proofs.Zero.{zero_numbers}

-- what a header that is read leaves: never 5, and the zero record where it is refused
pub never_5 : {A : Type 0} → 5 ≤ 3 → A
never_5 h = absurd (omega arith)

zero_header : {hdr : SequenceHeader} (out : List ℤ) → leb 146 (length out) ≡ true → hdr ≡ no_seq_hdr → over_front 146 (flat_seq_hdr hdr) out ≡ replicate 146 (pos 0) ++ drop 146 out
zero_header out room e = taken _ _ _ room ∙ rw (e, zero_numbers)

zero_layout : {hdr : SequenceHeader} (b : Buffers) → has_room b ≡ true → hdr ≡ no_seq_hdr
    → put_layout hdr.tiling.t b ≡ buffers (replicate 9 0 ++ drop 9 b.bytes) (replicate 65 0 ++ drop 65 b.col_starts) (replicate 65 0 ++ drop 65 b.row_starts)
unfolding put_layout
zero_layout b room e = taken _ _ _ room ∙ rw e

pub record HeaderRead (n : ℕ) (out out' : List ℤ) (b b' : Buffers) : Type 0 where
  pub not_5 : n ≡ 5 → ⊥
  pub numbers : 1 ≤ n → out' ≡ replicate 146 (pos 0) ++ drop 146 out
  pub bytes : 1 ≤ n → b'.bytes ≡ replicate 9 0 ++ drop 9 b.bytes
  pub col_starts : 1 ≤ n → b'.col_starts ≡ replicate 65 0 ++ drop 65 b.col_starts
  pub row_starts : 1 ≤ n → b'.row_starts ≡ replicate 65 0 ++ drop 65 b.row_starts

pub header_read : (z : SeqRead) (n : ℕ) (out : List ℤ) {out' : List ℤ} (b : Buffers) {b' : Buffers} → n ≡ number_of z.answer → Refused z
    → leb 146 (length out) ≡ true → has_room b ≡ true → out' ≡ over_front 146 (flat_seq_hdr z.hdr) out → b' ≡ put_layout z.hdr.tiling.t b
    → HeaderRead n out out' b b'
header_read z n out b number r long room e f =
    let zero : 1 ≤ n → z.hdr ≡ no_seq_hdr = λ h. r.zero (refused_unless_0 z.answer (λ k. omega arith)) in
    let layout : (h : 1 ≤ n) → _ = λ h. f ∙ zero_layout b room (zero h) in
    record {
      not_5 = λ k. omega (arith, r.most_3);
      numbers = λ h. e ∙ zero_header out long (zero h);
      bytes = λ h. ap (λ (x : Buffers). x.bytes) (layout h);
      col_starts = λ h. ap (λ (x : Buffers). x.col_starts) (layout h);
      row_starts = λ h. ap (λ (x : Buffers). x.row_starts) (layout h);
    }
