use mathlib.Core.Bool.{true, false}
use mathlib.Core.List.{List, ◌++◌}
use mathlib.Core.Path.{◌≡◌, sym, ap, ap₂, ◌∙◌}
use Prim.Native.Nat.{ℕ, ◌+◌, ◌/◌, ◌≤◌, ◌<◌}
use native.Mathlib.Omega.{arith}
use borrow.Author.Tests.{le-leb, lt-leb}
use mir.Facts.{to_z-of_z}
use lib.ListN.{length, take, drop}
use Rattle.answers.specs.declared.Answer.TheVariants.{Accepted, WrongArguments, ShortBuffer, NoSuchLayout}
use Rattle.getbits.proofs.Chain.{taken, left}
use Rattle.tile_layout.specs.declared.TileArgs.{TileArgs}
use Rattle.tile_layout.specs.declared.TileInfo.{TileInfo}
use Rattle.tile_layout.specs.declared.TileRead.{TileRead}
use Rattle.tile_layout.specs.Limits.{args_of, in_domain}
use Rattle.tile_layout.specs.Layout.{parse_tile_info}
use Rattle.layout_bits.specs.Rows.{byte_count, bytes_of}
use Rattle.layout_bits.specs.Bits.{layout_bits}
use Rattle.layout_bits.proofs.Packed.{bytes_length, bytes_take}
use Rattle.layout_row.specs.Row.{row_of}
use Rattle.layout_writing.specs.declared.Written.{Written}
use Rattle.layout_writing.specs.Write.{again, reads_as, refusal, write_tile_info}
use Rattle.layout_writing.specs.Called.{WritingOf}
use Rattle.layout_writing.specs.Promises.{SomeBits}
use Rattle.layout_writing.proofs.Reading.{start, some_bits, short}
use Rattle.layout_writing.proofs.Writing.{promised}
use Rattle.tile_write.proofs.Row.{row_known, asked}
use Rattle.tile_write.proofs.write_tile_info.Goals as goal
use Rattle.tile_write.proofs.write_tile_info.Goals.{After-reads_as}

-- what a call leaves, as the contract names it
told : (a : TileArgs) (t : TileInfo) (o : List ℕ) {w : Written} {after : List ℕ} → (w, after) ≡ write_tile_info a t o
    → record { out_after : (w, after) ≡ write_tile_info a t o; writing : WritingOf a t o w after }
told a t o e =
    let w = promised a t o e in
    record { out_after = w.0; writing = w.1 }

-- behind the questions: the arguments are in the domain, and the row of bits is read as its own bits, padded, are
record Row (a : TileArgs) (t : TileInfo) (bits : ℕ) (bytes : List ℕ) (r : TileRead) : Type 0 where
  in_it : in_domain a ≡ true
  question : reads_as r t ≡ reads_as (again a t) t
  long : bits ≡ length (row_of a t)
  made : bytes ≡ bytes_of 177 (row_of a t)

abbrev given : After-reads_as → TileArgs
given c =
    let a = c.args in
    args_of a.sbmul a.sb128 a.seq_sb128 a.w a.h a.level a.tier

read_row : (c : After-reads_as) → Row (given c) c.args.t c.layout_row-row.result.bits c.layout_row-row.result.bytes c.parse_tile_info-r.result
read_row c =
    let f = c.ranges in
    let t = c.args.t in
    let is : c.tile_args-a.result ≡ given c = rw (to_z-of_z f.sbmul, to_z-of_z f.w, to_z-of_z f.h) at c.tile_args-a.ensures in
    let bytes : c.layout_row-row.result.bytes ≡ bytes_of 177 (row_of (given c) t) = c.layout_row-row.ensures.1 ∙ ap (λ (a : TileArgs). bytes_of 177 (row_of a t)) is in
    let read = rw (to_z-of_z f.sbmul, to_z-of_z f.w, to_z-of_z f.h) at c.parse_tile_info-r.ensures.value
    ∙ ap₂ (λ (x : List ℕ) (old : TileInfo). parse_tile_info x start old (given c)) bytes c.no_tile_info.ensures in
    record {
      in_it = sym (c.in_domain.ensures ∙ ap in_domain is) ∙ c.if-not-in_domain.false;
      question = ap (λ (r : TileRead). reads_as r t) read ∙ asked (given c) t;
      long = c.layout_row-row.ensures.0 ∙ ap (λ (a : TileArgs). length (row_of a t)) is;
      made = bytes;
    }

-- the record can be read
module _ (a : TileArgs) (t : TileInfo) (bits : ℕ) (bytes : List ℕ) (r : TileRead) (k : Row a t bits bytes r) (reads : reads_as r t ≡ true) where
  good : reads_as (again a t) t ≡ true
  good = sym k.question ∙ reads

  some : SomeBits a t
  some = some_bits a t _ start good

  its_bits : bits ≡ length (layout_bits a t)
  its_bits = k.long ∙ ap length (row_known a t some)

  its_bytes : bytes ≡ bytes_of 177 (layout_bits a t)
  its_bytes = k.made ∙ ap (bytes_of 177) (row_known a t some)

  few : bits ≤ 1409
  few = rw its_bits (short a t some)

  all_bytes : length bytes ≡ 177
  all_bytes = ap length k.made ∙ bytes_length 177 (row_of a t)

  -- a buffer without room, and one with room
  module _ (o : List ℕ) where
    abbrev row : List ℕ
    row = layout_bits a t

    no_room : (w : Written) → w ≡ refusal ShortBuffer → length o < (bits + 7) / 8 → (w, o) ≡ write_tile_info a t o
    unfolding write_tile_info
    no_room w e h =
        ap (λ (w : Written). (w, o)) e
        ∙ sym (taken _ _ _ k.in_it ∙ taken _ _ _ good ∙ left _ _ _ (lt-leb (byte_count row) (length o) (rw its_bits at h)))

    put : (after : List ℕ) → after ≡ take ((bits + 7) / 8) bytes ++ drop ((bits + 7) / 8) o → (bits + 7) / 8 ≤ length o
        → (record { answer = Accepted; bits = bits }, after) ≡ write_tile_info a t o
    unfolding write_tile_info
    put after e h =
        let out = e
        ∙ ap₂ (λ (m : ℕ) (y : List ℕ). take ((m + 7) / 8) y ++ drop ((m + 7) / 8) o) its_bits its_bytes
        ∙ ap (λ (y : List ℕ). y ++ drop (byte_count row) o) (bytes_take (byte_count row) 177 row (omega (arith, its_bits, few))) in
        ap₂ (λ (m : ℕ) (y : List ℕ). (record { answer = Accepted; bits = m }, y)) its_bits out
        ∙ sym (taken _ _ _ k.in_it ∙ taken _ _ _ good ∙ taken _ _ _ (le-leb (byte_count row) (length o) (rw its_bits at h)))

-- the two refusals before
module _ (a : TileArgs) (t : TileInfo) (o : List ℕ) (w : Written) where
  outside : w ≡ refusal WrongArguments → in_domain a ≡ false → (w, o) ≡ write_tile_info a t o
  unfolding write_tile_info
  outside e d = ap (λ (w : Written). (w, o)) e ∙ sym (left _ _ _ d)

  unread : w ≡ refusal NoSuchLayout → in_domain a ≡ true → reads_as (again a t) t ≡ false → (w, o) ≡ write_tile_info a t o
  unfolding write_tile_info
  unread e d n = ap (λ (w : Written). (w, o)) e ∙ sym (taken _ _ _ d ∙ left _ _ _ n)

pub returns-then-not-in_domain : goal.returns-then-not-in_domain
returns-then-not-in_domain c =
    let f = c.ranges in
    let x = c.args in
    let a = args_of x.sbmul x.sb128 x.seq_sb128 x.w x.h x.level x.tier in
    let is : c.tile_args-a.result ≡ a = rw (to_z-of_z f.sbmul, to_z-of_z f.w, to_z-of_z f.h) at c.tile_args-a.ensures in
    let out_of_it : in_domain a ≡ false = rw is at (sym c.in_domain.ensures ∙ c.if-not-in_domain.true) in
    told a x.t x.out.now (outside a x.t x.out.now c.refused.result c.refused.ensures out_of_it)

pub returns-then-not-reads_as : goal.returns-then-not-reads_as
returns-then-not-reads_as c =
    let p = (goal.at.returns-then-not-reads_as c).After-reads_as in
    let k = read_row p in
    let no : reads_as (again (given p) c.args.t) c.args.t ≡ false = sym (c.reads_as.ensures ∙ k.question) ∙ c.if-not-reads_as.true in
    told _ _ _ (unread (given p) c.args.t c.args.out.now c.refused-then-not-reads_as.result c.refused-then-not-reads_as.ensures k.in_it no)

pub overflow_add_n : goal.overflow_add_n
overflow_add_n c =
    let k = read_row (goal.at.overflow_add_n c).After-reads_as in
    omega (arith, few _ _ _ _ _ k (sym c.reads_as.ensures ∙ c.if-not-reads_as.false))

pub returns-then-out-n : goal.returns-then-out-n
returns-then-out-n c =
    let k = read_row (goal.at.returns-then-out-n c).After-reads_as in
    told _ _ _ (no_room _ _ _ _ _ k (sym c.reads_as.ensures ∙ c.if-not-reads_as.false) c.args.out.now c.refused-then-out-n.result c.refused-then-out-n.ensures c.if-out-n.true)

pub put_bytes_requires : goal.put_bytes_requires
put_bytes_requires c =
    let k = read_row (goal.at.put_bytes_requires c).After-reads_as in
    let reads = sym c.reads_as.ensures ∙ c.if-not-reads_as.false in
    (c.if-out-n.false, omega (arith, few _ _ _ _ _ k reads, all_bytes _ _ _ _ _ k reads))

pub returns : goal.returns
returns c =
    let k = read_row (goal.at.returns c).After-reads_as in
    told _ _ _ (put _ _ _ _ _ k (sym c.reads_as.ensures ∙ c.if-not-reads_as.false) c.args.out.now c.put_bytes.new.out c.put_bytes.ensures c.if-out-n.false)
