use mathlib.Core.List.{List}
use mathlib.Core.Path.{◌≡◌, refl, sym, ap}
use Prim.Native.Nat.{ℕ, ◌+◌, ◌-◌, ◌≤◌, min}
use native.Mathlib.Nat.{add-zero}
use native.Mathlib.Omega.{arith}
use Rattle.codes.specs.Codes.{plus, run_of}
use Rattle.getbits.specs.Bits.{bits_at, position, read_bits, look_at}
use Rattle.getbits.specs.declared.Place.{Place}
use Rattle.tile_layout.specs.Layout.{read_log2}
use Rattle.codes.proofs.Word.{count, from, run_behind}
use Rattle.tile_info.proofs.uniform.read_log2.Goals as goal

looked : (s : List ℕ) (p : Place) (word : ℕ) → word ≡ look_at s p 32 → word ≡ bits_at s (position s p) 32
unfolding look_at
looked s p word e = e

-- the logarithm that is read behind the bits used, by the word
by_word : (s : List ℕ) (p : Place) (word used least most : ℕ) (w : word ≡ bits_at s (position s p) 32) → used + (most - least) ≤ 32
    → let n = count 1 (from s (position s p) word w used) in
    read_log2 s (read_bits s p used).next least most ≡ record { value = least + min n (most - least); next = (read_bits s p (used + min (n + 1) (most - least))).next }
unfolding read_log2
by_word s p word used least most w h = ap (plus least) (run_behind 1 (omega arith) s p word w (most - least) used h)

pub returns-then-most-least : goal.returns-then-most-least
unfolding read_log2 run_of
returns-then-most-least c =
    let a = c.args in
    let none : a.most - a.least ≡ 0 = omega arith in
    record { reads = λ s p e. rw (none, add-zero) (refl, refl); low = (c.requires.0, omega arith) }

pub overflow_shl_ones : goal.overflow_shl_ones
overflow_shl_ones c = omega (arith, c.requires.2)

pub returns-then-ones-left : goal.returns-then-ones-left
returns-then-ones-left c =
    let a = c.args in
    let e = c.requires in
    record {
      reads = λ s p e.
          let w = looked s p a.word e in
          let n = count 1 (from s (position s p) a.word w a.used) in
          let z = by_word s p a.word a.used a.least a.most w (omega arith) in
          let k : min n (a.most - a.least) ≡ n = omega arith in
          let m : a.used + min (n + 1) (a.most - a.least) ≡ a.used + n + 1 = omega arith in
          rw z (omega (arith, k), ap (λ (u : ℕ). (read_bits s p u).next) (sym m));
      low = (omega arith, omega arith);
    }

pub returns : goal.returns
returns c =
    let a = c.args in
    record {
      reads = λ s p e.
          let w = looked s p a.word e in
          let n = count 1 (from s (position s p) a.word w a.used) in
          let z = by_word s p a.word a.used a.least a.most w (omega arith) in
          let k : a.least + min n (a.most - a.least) ≡ a.most = omega arith in
          let m : a.used + min (n + 1) (a.most - a.least) ≡ a.used + (a.most - a.least) = omega arith in
          rw z (sym k, ap (λ (u : ℕ). (read_bits s p u).next) (sym m));
      low = (omega arith, omega arith);
    }

pub overflow_cast_result : goal.overflow_cast_result
overflow_cast_result c = omega arith

pub overflow_add_result : goal.overflow_add_result
overflow_add_result c = omega arith

pub overflow_add_result_then_ones_left : goal.overflow_add_result_then_ones_left
overflow_add_result_then_ones_left c = omega arith

pub overflow_add_result_then_ones_left_2 : goal.overflow_add_result_then_ones_left_2
overflow_add_result_then_ones_left_2 c = omega arith

pub overflow_add_result_2 : goal.overflow_add_result_2
overflow_add_result_2 c = omega arith
