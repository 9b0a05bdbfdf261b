-- What write_tile_info promises holds. Assumes nothing.
use mathlib.Core.Bool.{true, false}
use mathlib.Core.List.{List, [], ◌++◌}
use mathlib.Core.Path.{◌≡◌, refl, sym, subst, ap, ◌∙◌}
use Prim.Native.Nat.{ℕ, ◌+◌, ◌/◌, ◌%◌, ◌-◌, ◌^◌, ◌≤◌, ◌<◌}
use native.Mathlib.Omega.{arith}
use borrow.Author.Tests.{le-leb, leb-false}
use lib.Dec.{T, leb}
use lib.ListN.{length, drop, length-append, get_or-append}
use lib.Seq.{drop_at}
use Rattle.answers.specs.Numbers.{number_of, is_refusal}
use Rattle.answers.specs.declared.Answer.TheVariants.{ShortBuffer}
use Rattle.getbits.specs.Chain.{pick}
use Rattle.getbits.proofs.Chain.{taken, left, picked}
use Rattle.getbits.proofs.Places.{pos_at}
use Rattle.tile_layout.specs.declared.TileArgs.{TileArgs}
use Rattle.tile_layout.specs.declared.TileInfo.{TileInfo}
use Rattle.tile_layout.specs.Limits.{in_domain, no_tile_info}
use Rattle.layout_bits.specs.Rows.{StandsAt, byte_count, packed}
use Rattle.layout_bits.specs.Bits.{layout_bits}
use Rattle.layout_bits.proofs.Layouts.{layout_code}
use Rattle.layout_bits.proofs.Packed.{bytes_length, bytes_lt, small_layout}
use Rattle.layout_writing.specs.declared.Written.{Written}
use Rattle.layout_writing.specs.Write.{again, fresh, reads_as, refusal, written, write_tile_info}
use Rattle.layout_writing.specs.Called.{WritingOf}
use Rattle.layout_writing.specs.Promises.{SomeBits, Bytes, ReadsAs, Writing}
use Rattle.layout_writing.proofs.Same.{not_so}
use Rattle.layout_writing.proofs.Reading.{domained, row_is, back, short, start, from_start, stands, some_bits, own}

module _ (a : TileArgs) (t : TileInfo) where
  abbrev bits : List ℕ
  bits = layout_bits a t

  abbrev size : ℕ
  size = byte_count bits

  -- ---- bytes that begin with the bits of t

  pub in_front : (rest : List ℕ) → StandsAt (packed bits ++ rest) 0 bits
  in_front rest =
      let st = stands a t size (omega arith) in
      let l = bytes_length size bits in
      record {
        there = omega (arith, st.there, length-append (packed bits) rest);
        same = λ k h.
            let e : (0 + k) / 8 < length (packed bits) = omega (arith, l) in
            ap (λ (x : ℕ). x / 2 ^ (7 - (0 + k) % 8) % 2) (get_or-append (packed bits) rest 0 ((0 + k) / 8) e) ∙ st.same k h;
      }

  reads_from : SomeBits a t → (s : List ℕ) → StandsAt s 0 bits → ReadsAs s (length bits) a t
  reads_from b s st =
      let r = back a t b s start (from_start s bits st) in
      record { clean = r.accepted refl; gives = r.gives; uses = r.just.ends ∙ omega (arith, pos_at s 0 false (omega arith)) }

  -- ---- the answers

  module _ (out : List ℕ) where
    -- the part behind the domain and the question about the bits
    abbrev into : Written × List ℕ
    into = pick (leb size (length out)) (written bits out) (refusal ShortBuffer, out)

    asked : SomeBits a t → write_tile_info a t out ≡ into
    unfolding write_tile_info
    asked b = taken _ _ _ (domained a t b) ∙ taken _ _ _ (own a t b)

    -- accepted, bits were written that read as t
    accepted : is_refusal (write_tile_info a t out).0.answer ≡ false → SomeBits a t × (write_tile_info a t out ≡ written bits out)
    unfolding write_tile_info
    accepted =
        picked Fine (in_domain a) _ _
        (λ _.
        picked Fine (reads_as (again a t) t) _ _
        (λ h. picked Fine (leb size (length out)) _ _ (λ _ _. (some_bits a t _ start h, refl)) (λ _ e. absurd (subst T e tt)))
        (λ _ e. absurd (subst T e tt)))
        (λ _ e. absurd (subst T e tt))
      where
        Fine : Written × List ℕ → Type 0
        Fine w = is_refusal w.0.answer ≡ false → SomeBits a t × (w ≡ written bits out)

    -- refused, no bit is told, and the buffer is as it was
    unwritten : is_refusal (write_tile_info a t out).0.answer ≡ true → ((write_tile_info a t out).0.bits ≡ 0) × ((write_tile_info a t out).1 ≡ out)
    unfolding write_tile_info
    unwritten =
        picked Kept (in_domain a) _ _
        (λ _.
        picked Kept (reads_as (again a t) t) _ _
        (λ _. picked Kept (leb size (length out)) _ _ (λ _ e. absurd (subst T (sym e) tt)) (λ _ _. (refl, refl)))
        (λ _ _. (refl, refl)))
        (λ _ _. (refl, refl))
      where
        Kept : Written × List ℕ → Type 0
        Kept w = is_refusal w.0.answer ≡ true → (w.0.bits ≡ 0) × (w.1 ≡ out)

    -- with room for every layout 5 is not answered
    roomy : 177 ≤ length out → number_of (write_tile_info a t out).0.answer ≡ 5 → ⊥
    unfolding write_tile_info
    roomy room =
        picked Other (in_domain a) _ _
        (λ _.
        picked Other (reads_as (again a t) t) _ _
        (λ h. picked Other (leb size (length out)) _ _ (λ _ e. omega arith) (λ l _. omega (arith, leb-false size (length out) l, short a t (some_bits a t _ start h))))
        (λ _ e. omega arith))
        (λ _ e. omega arith)
      where
        Other : Written × List ℕ → Type 0
        Other w = number_of w.0.answer ≡ 5 → ⊥

    none : in_domain a ≡ true → ((b : SomeBits a t) → Bytes b.bytes → ⊥) → number_of (write_tile_info a t out).0.answer ≡ 8
    unfolding write_tile_info
    none d never =
        let no = not_so (reads_as (again a t) t) (λ h. never (some_bits a t _ start h) (bytes_lt size bits (small_layout a t))) in
        ap (λ (w : Written × List ℕ). number_of w.0.answer) (taken _ _ _ d ∙ left _ _ _ no)

    not_8 : SomeBits a t → number_of (write_tile_info a t out).0.answer ≡ 8 → ⊥
    not_8 b e =
        picked (λ (w : Written × List ℕ). number_of w.0.answer ≡ 8 → ⊥) (leb size (length out)) (written bits out) (refusal ShortBuffer, out)
        (λ _ q. omega arith) (λ _ q. omega arith) (rw (asked b) at e)

pub writing_of : (a : TileArgs) (t : TileInfo) (out : List ℕ) → WritingOf a t out (write_tile_info a t out).0 (write_tile_info a t out).1
writing_of a t out =
    record {
      itself = λ ok.
          let w = accepted a t out ok in
          rw w.1 (reads_from a t w.0 _ (in_front a t (drop (byte_count (layout_bits a t)) out)));
      in_front = λ ok s same.
          let w = accepted a t out ok in
          let st = in_front a t (drop (byte_count (layout_bits a t)) out) in
          let g = rw w.1 at same in
          rw w.1 (reads_from a t w.0 s (record {
            there = omega (arith, g.there);
            same = λ k h.
                let z : 0 + k ≡ k = omega arith in
                rw z (g.same k (omega arith) (omega arith)) ∙ (rw z at (st.same k h));
          }));
      read_write = λ s p c gives.
          let b : SomeBits a t = record { bytes = s; place = p; clean = c; gives = gives } in
          let q = row_is a t b in
          λ room. rw q (asked a t out b ∙ taken _ _ _ (le-leb (byte_count (layout_bits a t)) (length out) (rw q at room)));
      refused_with_8 = none a t out;
      only_then = λ e b. not_8 a t out b e;
      behind = λ ok. rw (accepted a t out ok).1 (drop_at (packed (layout_bits a t)) _ _ (bytes_length _ (layout_bits a t)));
      unwritten = unwritten a t out;
      readable = λ d k.
          let st = from_start _ _ (stands a t (byte_count (layout_bits a t)) (omega arith)) in
          let r = layout_code.reads (packed (layout_bits a t)) start no_tile_info a t d k st in
          record { bytes = packed (layout_bits a t); place = start; clean = record { accepted = r.accepted; unset = r.just.error }; gives = r.gives };
      enough = roomy a t out;
    }

-- and of all calls
pub writing : Writing
writing =
    record {
      itself = λ a t out. (writing_of a t out).itself;
      in_front = λ a t out s ok. (writing_of a t out).in_front ok s;
      read_write = λ s p a out c. (writing_of a (fresh s p a).info out).read_write s p c refl;
      refused_with_8 = λ a t out. (writing_of a t out).refused_with_8;
      only_then = λ a t out. (writing_of a t out).only_then;
      behind = λ a t out. (writing_of a t out).behind;
      unwritten = λ a t out. (writing_of a t out).unwritten;
      readable = λ a t. (writing_of a t []).readable;
      enough = λ a t out. (writing_of a t out).enough;
    }

-- and of what a call leaves
pub promised : (a : TileArgs) (t : TileInfo) (out : List ℕ) {w : Written} {after : List ℕ} → (w, after) ≡ write_tile_info a t out
    → ((w, after) ≡ write_tile_info a t out) × WritingOf a t out w after
promised a t out e = (e, subst (λ (x : Written × List ℕ). WritingOf a t out x.0 x.1) (sym e) (writing_of a t out))
