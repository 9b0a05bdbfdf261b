-- Every reading of the reader is sound: the leaves are, and so is what `then` and `pick` put together. Assumes nothing.
use mathlib.Core.Path.{◌≡◌, refl, sym, ap, ◌∙◌, subst}
use mathlib.Core.Bool.{Bool, true, false}
use mathlib.Core.List.{List}
use Prim.Native.Nat.{ℕ, zero, suc, ◌+◌, ◌-◌, ◌*◌, ◌^◌, ◌≤◌, min}
use native.Mathlib.Nat.{le_refl, le_trans}
use native.Mathlib.Omega.{arith}
use lib.Dec.{T, ltb, leb, eqb}
use lib.IntN.{ℤ, pos, negsuc, nat_abs, ◌+ℤ◌, ◌-ℤ◌}
use Rattle.getbits.specs.Chain.{pick, then}
use Rattle.getbits.specs.Bits.{bits_at, position, place_at, settled, refused, read_bits, get_bit, get_bits, signed_of, get_sbits, get_flag, flag_if, bits_if}
use Rattle.getbits.specs.declared.Place.{Place}
use Rattle.getbits.specs.declared.Read.{Read}
use Rattle.getbits.proofs.Places.{pos_le, pos_at}
use Rattle.getbits.proofs.Callers.{read_pos, read_error, read_clean, read_there, bits_local}
use Rattle.codes.specs.Codes.{plus, run_of, get_vlc, bit_length, get_uniform, get_ref_uniform, failed, uleb_from, get_uleb128, get_golomb, subexp_from, inv_recenter, subexp_args, get_bits_subexp_u, subexp_range, get_bits_subexp, vlc_if, uniform_if}
use Rattle.laws.specs.Sound.{Agree, Sound}

-- an error that never clears was not there before, if it is not there after
clean : (before : Bool) {after : Bool} → (before ≡ true → after ≡ true) → after ≡ false → before ≡ false
clean true k e = sym (k refl) ∙ e
clean false k e = refl

-- less of what agrees agrees
part : {s t : List ℕ} {i j : ℕ} (k l : ℕ) → Agree s t i j → i ≤ k → l ≤ j → Agree s t k l
part k l a h g = record { there = le_trans g a.there; same = λ m u v. a.same m (le_trans h u) (omega arith) }

abbrev next : Read ℕ → Place
next r = r.next

-- ---- leaves

pub sound_bits : (n : ℕ) → Sound next (λ s p. read_bits s p n)
sound_bits n =
    record {
      forward = λ s p. omega (arith, read_pos s p n, pos_le s p);
      within = λ s p. pos_le s (read_bits s p n).next;
      kept = λ s p. read_error s p n;
      local = λ s t p e at a.
          let c = read_clean s p n e in
          let end : position s (read_bits s p n).next ≡ position s p + n = read_pos s p n ∙ omega (arith, c.1) in
          let same : bits_at t (position t p) n ≡ bits_at s (position s p) n =
          ap (λ (i : ℕ). bits_at t i n) at ∙ bits_local t s (position s p) n (λ k h. a.same (position s p + k) (omega arith) (omega (arith, end))) in
          read_there t p n (omega (arith, a.there, end, at)) ∙ rw (same, at) (sym (read_there s p n c.1));
      steady = λ s t p e at a.
          let c = read_clean s p n e in
          let end : position s (read_bits s p n).next ≡ position s p + n = read_pos s p n ∙ omega (arith, c.1) in
          let is = ap next (read_there s p n c.1) in
          ap (position t) is ∙ pos_at t (position s p + n) p.error (omega (arith, a.there, end)) ∙ sym end;
    }

-- an answer that uses no bit: the place as it was, or settled
pub sound_here : {R : Type 0} (after : R → Place) (h : Place → R) → ((p : Place) → after (h p) ≡ p) → Sound after (λ s p. h p)
sound_here after h e =
    record {
      forward = λ s p. rw (e p) (le_refl (position s p));
      within = λ s p. pos_le s (after (h p));
      kept = λ s p k. rw (e p) k;
      local = λ s t p _ _ _. refl;
      steady = λ s t p _ at _. rw (e p) at;
    }

pub sound_unread : (v : ℕ) → Sound next (λ s p. record { value = v; next = settled s p })
sound_unread v =
    record {
      forward = λ s p. rw (pos_at s (position s p) p.error (pos_le s p)) (le_refl (position s p));
      within = λ s p. pos_le s (settled s p);
      kept = λ s p k. k;
      local = λ s t p _ at _. ap (λ (k : ℕ). record { value = v; next = place_at k p.error }) at;
      steady = λ s t p _ at a.
          pos_at t (position s p) p.error (rw at at (pos_le t p)) ∙ sym (pos_at s (position s p) p.error (pos_le s p));
    }

pub sound_refused : Sound next (λ s p. refused s p)
sound_refused =
    record {
      forward = λ s p. rw (pos_at s (position s p) true (pos_le s p)) (le_refl (position s p));
      within = λ s p. pos_le s (refused s p).next;
      kept = λ s p k. refl;
      local = λ s t p e _ _. absurd (subst T e tt);
      steady = λ s t p e _ _. absurd (subst T e tt);
    }

-- ---- what is put together

pub sound_pick : {R : Type 0} {after : R → Place} {f g : List ℕ → Place → R} (b : Bool) → Sound after f → Sound after g → Sound after (λ s p. pick b (f s p) (g s p))
sound_pick true F G = F
sound_pick false F G = G

pub sound_then : {R S : Type 0} (ahead : R → Place) (after : S → Place) (f : List ℕ → Place → R) (g : R → List ℕ → Place → S)
    → Sound ahead f → ((r : R) → Sound after (g r)) → Sound after (λ s p. then (f s p) λ r. g r s (ahead r))
unfolding then
sound_then {R} ahead after f g F G =
    record {
      forward = λ s p. le_trans (F.forward s p) ((G (f s p)).forward s (ahead (f s p)));
      within = λ s p. (G (f s p)).within s (ahead (f s p));
      kept = λ s p k. (G (f s p)).kept s (ahead (f s p)) (F.kept s p k);
      local = λ s t p e at a.
          let r = f s p in
          let q = ahead r in
          let c = clean q.error ((G r).kept s q) e in
          let b = part (position s p) (position s q) a (le_refl (position s p)) ((G r).forward s q) in
          ap (λ (x : R). g x t (ahead x)) (F.local s t p c at b)
          ∙ (G r).local s t q e (F.steady s t p c at b) (part (position s q) (position s (after (g r s q))) a (F.forward s p) (le_refl (position s (after (g r s q)))));
      steady = λ s t p e at a.
          let r = f s p in
          let q = ahead r in
          let c = clean q.error ((G r).kept s q) e in
          let b = part (position s p) (position s q) a (le_refl (position s p)) ((G r).forward s q) in
          (G r).steady s t q e (F.steady s t p c at b) (part (position s q) (position s (after (g r s q))) a (F.forward s p) (le_refl (position s (after (g r s q)))));
    }

-- an answer made of a reading's, at the reading's place
pub sound_map : {R S : Type 0} (ahead : R → Place) (after : S → Place) (f : List ℕ → Place → R) (h : R → S) → ((r : R) → after (h r) ≡ ahead r) → Sound ahead f → Sound after (λ s p. h (f s p))
sound_map ahead after f h e F =
    record {
      forward = λ s p. rw (e (f s p)) (F.forward s p);
      within = λ s p. pos_le s (after (h (f s p)));
      kept = λ s p k. rw (e (f s p)) (F.kept s p k);
      local = λ s t p c at a. ap h (F.local s t p (rw (e (f s p)) at c) at (rw (e (f s p)) at a));
      steady = λ s t p c at a. rw (e (f s p)) (F.steady s t p (rw (e (f s p)) at c) at (rw (e (f s p)) at a));
    }

-- an answer that sets the error
sound_failed : Sound next (λ s p. failed (record { value = 0; next = p }))
unfolding position
sound_failed =
    record {
      forward = λ s p. le_refl (position s p);
      within = λ s p. pos_le s p;
      kept = λ s p k. refl;
      local = λ s t p e _ _. absurd (subst T e tt);
      steady = λ s t p e _ _. absurd (subst T e tt);
    }

-- ---- the operations of given width

pub sound_get_bit : Sound next get_bit
unfolding get_bit
sound_get_bit = sound_bits 1

pub sound_get_bits : (n : ℤ) → Sound next (λ s p. get_bits s p n)
unfolding get_bits
sound_get_bits (pos n) = sound_pick (leb n 32) (sound_bits n) sound_refused
sound_get_bits (negsuc n) = sound_refused

pub sound_get_sbits : (n : ℤ) → Sound (λ (r : Read ℤ). r.next) (λ s p. get_sbits s p n)
unfolding get_sbits
sound_get_sbits n =
    sound_map next (λ (r : Read ℤ). r.next) (λ s p. get_bits s p n) (λ r. record { value = signed_of (nat_abs n) r.value; next = r.next }) (λ r. refl) (sound_get_bits n)

pub sound_get_flag : Sound (λ (r : Read Bool). r.next) get_flag
unfolding get_flag
sound_get_flag = sound_map next (λ (r : Read Bool). r.next) get_bit (λ r. record { value = eqb r.value 1; next = r.next }) (λ r. refl) sound_get_bit

pub sound_flag_if : (cond : Bool) → Sound (λ (r : Read Bool). r.next) (flag_if cond)
unfolding flag_if
sound_flag_if true = sound_get_flag
sound_flag_if false = sound_here (λ (r : Read Bool). r.next) (λ p. record { value = false; next = p }) (λ p. refl)

-- the answer v, at the place reached
sound_answer : (v : ℕ) → Sound next (λ s p. record { value = v; next = p })
sound_answer v = sound_here next (λ p. record { value = v; next = p }) (λ p. refl)

pub sound_bits_if : (cond : Bool) (n : ℤ) → Sound next (λ s p. bits_if cond s p n)
unfolding bits_if
sound_bits_if true n = sound_get_bits n
sound_bits_if false n = sound_answer 0

-- ---- the operations of variable length

-- m and what is read
sound_plus : (m : ℕ) {f : List ℕ → Place → Read ℕ} → Sound next f → Sound next (λ s p. plus m (f s p))
sound_plus m {f} F = sound_map next next f (plus m) (λ r. refl) F

-- a reading, and what follows it
sound_after : {f : List ℕ → Place → Read ℕ} {g : Read ℕ → List ℕ → Place → Read ℕ} → Sound next f → ((r : Read ℕ) → Sound next (g r)) → Sound next (λ s p. then (f s p) λ r. g r s r.next)
sound_after {f} {g} F G = sound_then next next f g F G

pub sound_run : (bit k : ℕ) → Sound next (run_of bit k)
unfolding run_of
sound_run bit zero = sound_answer 0
sound_run bit (suc k) = sound_after sound_get_bit (λ b. sound_pick (eqb b.value bit) (sound_plus 1 (sound_run bit k)) (sound_answer 0))

pub sound_vlc : Sound next get_vlc
unfolding get_vlc
sound_vlc = sound_after (sound_run 0 32) (λ z. sound_pick (ltb z.value 32) (sound_plus (2 ^ z.value - 1) (sound_bits z.value)) (sound_answer (2 ^ 32 - 1)))

pub sound_uniform : (max : ℕ) → Sound next (λ s p. get_uniform s p max)
unfolding get_uniform then
sound_uniform max =
    let l = bit_length max in
    let m = 2 ^ l - max in
    sound_pick (leb max 1) (sound_unread 0)
    (sound_pick (leb (2 ^ 31) max) sound_refused
    (sound_after (sound_bits (l - 1)) (λ v.
    sound_pick (ltb v.value m) (sound_answer v.value)
    (sound_map next next get_bit (λ b. record { value = 2 * v.value - m + b.value; next = b.next }) (λ b. refl) sound_get_bit))))

pub sound_ref_uniform : (max def : ℕ) → Sound next (λ s p. get_ref_uniform s p max def)
unfolding get_ref_uniform then
sound_ref_uniform max def =
    let d = min def (max - 1) in
    sound_pick (leb max 1) (sound_unread 0)
    (sound_pick (leb (2 ^ 31) max) sound_refused
    (sound_after sound_get_bit (λ b.
    sound_pick (eqb b.value 0) (sound_answer d)
    (sound_map next next (λ s p. get_uniform s p (max - 1)) (λ r. record { value = pick (ltb r.value d) r.value (r.value + 1); next = r.next }) (λ r. refl) (sound_uniform (max - 1))))))

sound_uleb_from : (t : ℕ) → Sound next (uleb_from t)
unfolding uleb_from then
sound_uleb_from zero = sound_answer 0
sound_uleb_from (suc t) =
    sound_after (sound_bits 8) (λ b.
    sound_pick (ltb b.value 128) (sound_answer b.value)
    (sound_map next next (uleb_from t) (λ rest. record { value = b.value - 128 + 128 * rest.value; next = rest.next }) (λ r. refl) (sound_uleb_from t)))

pub sound_uleb128 : Sound next get_uleb128
unfolding get_uleb128
sound_uleb128 = sound_after (sound_uleb_from 8) (λ r. sound_pick (ltb r.value (2 ^ 32)) (sound_answer r.value) sound_failed)

pub sound_golomb : (k : ℕ) → Sound next (λ s p. get_golomb s p k)
unfolding get_golomb
sound_golomb k =
    sound_pick (leb 32 k) sound_refused
    (sound_after (sound_run 1 (32 - k)) (λ c. sound_pick (eqb (c.value + k) 32) (sound_answer (2 ^ 32 - 1)) (sound_plus (c.value * 2 ^ k) (sound_bits k))))

sound_subexp : (t n k i v : ℕ) → Sound next (λ s p. subexp_from t s p n k i v)
unfolding subexp_from then
sound_subexp zero n k i v = sound_refused
sound_subexp (suc t) n k i v =
    let b = k + (i - 1) in
    sound_pick (leb n (v + 3 * 2 ^ b)) (sound_plus v (sound_uniform (n - v)))
    (sound_after sound_get_bit (λ g. sound_pick (eqb g.value 0) (sound_plus v (sound_bits b)) (sound_subexp t n k (i + 1) (v + 2 ^ b))))

pub sound_subexp_u : (ref n : ℕ) (k : ℤ) → Sound next (λ s p. get_bits_subexp_u s p ref n k)
unfolding get_bits_subexp_u then
sound_subexp_u ref n k =
    sound_pick (subexp_args ref n k)
    (sound_map next next (λ s p. subexp_from 33 s p n (nat_abs k) 0 0)
    (λ r. record { value = pick (leb (2 * ref) n) (inv_recenter ref r.value) (n - 1 - inv_recenter (n - 1 - ref) r.value); next = r.next }) (λ r. refl)
    (sound_subexp 33 n (nat_abs k) 0 0))
    sound_refused

pub sound_subexp_signed : (ref : ℤ) (n : ℕ) → Sound (λ (r : Read ℤ). r.next) (λ s p. get_bits_subexp s p ref n)
unfolding get_bits_subexp then
sound_subexp_signed ref n =
    let x = ref +ℤ pos (n - 1) in
    sound_pick (subexp_range n x)
    (sound_map next (λ (r : Read ℤ). r.next) (λ s p. get_bits_subexp_u s p (nat_abs x) (2 * n - 1) (pos 3)) (λ r. record { value = pos r.value -ℤ pos (n - 1); next = r.next }) (λ r. refl)
    (sound_subexp_u (nat_abs x) (2 * n - 1) (pos 3)))
    (sound_map next (λ (r : Read ℤ). r.next) (λ s p. refused s p) (λ r. record { value = pos 0; next = r.next }) (λ r. refl) sound_refused)

pub sound_vlc_if : (cond : Bool) → Sound next (vlc_if cond)
unfolding vlc_if
sound_vlc_if true = sound_vlc
sound_vlc_if false = sound_answer 0

pub sound_uniform_if : (cond : Bool) (max : ℕ) → Sound next (λ s p. uniform_if cond s p max)
unfolding uniform_if
sound_uniform_if true max = sound_uniform max
sound_uniform_if false max = sound_answer 0
