use Rattle.std.proofs.Common.{ℕ}
use mathlib.Core.Path.{◌≡◌, sym, ◌∙◌, ap}
use mathlib.Core.Bool.{true, false}
use native.Mathlib.Omega.{arith}
use Rattle.getbits.proofs.Chain.{taken, left}
use Rattle.getbits.proofs.Callers.{as_read, read_none}
use Rattle.getbits.specs.Bits.{settled}
use Rattle.getbits.specs.declared.Read.{Read}
use Rattle.getbits.specs.declared.Place.{Place}
use Rattle.seq_fields.specs.declared.AdaptiveBoolean.{AdaptiveBoolean}
use Rattle.frame_layout.specs.Frame.{ask_reuse}
use Rattle.frame_hdr.proofs.reuse.read_reuse.Goals as goal

pub returns-then-not-reuse_allowed : goal.returns-then-not-reuse_allowed
returns-then-not-reuse_allowed c =
    let a = c.args in
    let here : c.read_bits-here.result.next ≡ settled a.s.now a.p = ap (λ (r : Read ℕ). r.next) (as_read a.s.now a.p 0 (omega arith) c.read_bits-here.ensures ∙ read_none a.s.now a.p) in
    sym (left _ _ _ c.if-not-reuse_allowed.true ∙ ap (λ (x : Place). record { value = false; next = x }) (sym here))

pub returns-in-Off : goal.returns-in-Off
unfolding ask_reuse
returns-in-Off c =
    let a = c.args in
    let here : c.read_bits-here.result.next ≡ settled a.s.now a.p = ap (λ (r : Read ℕ). r.next) (as_read a.s.now a.p 0 (omega arith) c.read_bits-here.ensures ∙ read_none a.s.now a.p) in
    sym (taken _ _ _ c.if-not-reuse_allowed.false ∙ ap (λ (b : AdaptiveBoolean). ask_reuse b a.s.now a.p) c.in-Off.is ∙ ap (λ (x : Place). record { value = false; next = x }) (sym here))

pub returns-in-On : goal.returns-in-On
unfolding ask_reuse
returns-in-On c =
    let a = c.args in
    let here : c.read_bits-here.result.next ≡ settled a.s.now a.p = ap (λ (r : Read ℕ). r.next) (as_read a.s.now a.p 0 (omega arith) c.read_bits-here.ensures ∙ read_none a.s.now a.p) in
    sym (taken _ _ _ c.if-not-reuse_allowed.false ∙ ap (λ (b : AdaptiveBoolean). ask_reuse b a.s.now a.p) c.in-On.is ∙ ap (λ (x : Place). record { value = true; next = x }) (sym here))

pub returns-in-Adaptive : goal.returns-in-Adaptive
unfolding ask_reuse
returns-in-Adaptive c =
    let a = c.args in
    c.get_flag.ensures ∙ sym (taken _ _ _ c.if-not-reuse_allowed.false ∙ ap (λ (b : AdaptiveBoolean). ask_reuse b a.s.now a.p) c.in-Adaptive.is)
