use mathlib.Core.List.{List}
use mathlib.Core.Bool.{true, false}
use mathlib.Core.Path.{◌≡◌, sym, ap, ◌∙◌}
use Prim.Native.Nat.{ℕ, ◌+◌, ◌-◌, ◌≤◌}
use native.Mathlib.Omega.{arith}
use lib.Seq.{take_all}
use lib.ListN.{length, take, drop, length-drop}
use Rattle.program.specs.Input.{two_at}
use Rattle.frame_request.specs.Request.{frame_at, is_frame_request, frame_request}
use Rattle.frame_layout.specs.Sequence.{seq_layout}
use Rattle.frame_layout.specs.Frame.{parse_tile_info_frmhdr}
use Rattle.frame_layout.specs.declared.FrameHeader.{FrameHeader}
use Rattle.getbits.proofs.Chain.{through, taken, left}
use Rattle.getbits.specs.Bits.{place_at}
use Rattle.frame_request.proofs.Long.{long}
use Rattle.frame_request.proofs.frame_request.Goals as goal

pub returns-then-not-is_request : goal.returns-then-not-is_request
unfolding frame_request
returns-then-not-is_request c =
    c.no_frame.ensures ∙ sym (left _ _ _ (sym c.is_request.ensures ∙ c.if-not-is_request.true))

pub returns-then-is_refusal : goal.returns-then-is_refusal
unfolding frame_request
returns-then-is_refusal c =
    let good : is_frame_request c.args.s.now ≡ true = sym c.is_request.ensures ∙ c.if-not-is_request.false in
    c.no_frame-then-is_refusal.ensures
    ∙ sym (taken _ _ _ (good) ∙ through _ _ c.request_header-q.ensures ∙ taken _ _ _ (sym c.is_refusal.ensures ∙ c.if-is_refusal.true))

pub slice_bounds-parse_tile_info_frmhdr-count : goal.slice_bounds-parse_tile_info_frmhdr-count
slice_bounds-parse_tile_info_frmhdr-count c =
    let good : is_frame_request c.args.s.now ≡ true = sym c.is_request.ensures ∙ c.if-not-is_request.false in
    let there : let s = c.args.s.now in (c.two_at-bits.result ≡ two_at s 0) × (frame_at s + 5 ≤ length s) = (c.two_at-bits.ensures.0, long c.args.s.now (good)) in
    omega (arith, (there).0, (there).1)

pub slice_bounds-parse_tile_info_frmhdr-start : goal.slice_bounds-parse_tile_info_frmhdr-start
slice_bounds-parse_tile_info_frmhdr-start c =
    let good : is_frame_request c.args.s.now ≡ true = sym c.is_request.ensures ∙ c.if-not-is_request.false in
    let there : let s = c.args.s.now in (c.two_at-bits.result ≡ two_at s 0) × (frame_at s + 5 ≤ length s) = (c.two_at-bits.ensures.0, long c.args.s.now (good)) in
    omega (arith, (there).0, (there).1)

pub returns : goal.returns
unfolding frame_request
returns c =
    let good : is_frame_request c.args.s.now ≡ true = sym c.is_request.ensures ∙ c.if-not-is_request.false in
    let there : let s = c.args.s.now in (c.two_at-bits.result ≡ two_at s 0) × (frame_at s + 5 ≤ length s) = (c.two_at-bits.ensures.0, long c.args.s.now (good)) in
    let s = c.args.s.now in
    let g = c.given_frame in
    let at : c.two_at-bits.result + 7 ≡ frame_at s + 5 = omega (arith, (there).0) in
    let rest : take (length s - (c.two_at-bits.result + 7)) (drop (c.two_at-bits.result + 7) s) ≡ drop (frame_at s + 5) s =
    take_all (length s - (c.two_at-bits.result + 7)) (drop (c.two_at-bits.result + 7) s) (simp length-drop (omega arith)) ∙ ap (λ (x : ℕ). drop x s) at in
    c.parse_tile_info_frmhdr.ensures.value
    ∙ ap (λ (x : List ℕ). parse_tile_info_frmhdr x (place_at 0 false) g.result (seq_layout c.request_header-q.result.hdr)) rest
    ∙ ap (λ (x : FrameHeader). parse_tile_info_frmhdr (drop (frame_at s + 5) s) (place_at 0 false) x (seq_layout c.request_header-q.result.hdr)) g.ensures
    ∙ sym (taken _ _ _ (good) ∙ through _ _ c.request_header-q.ensures ∙ left _ _ _ (sym c.is_refusal.ensures ∙ c.if-is_refusal.false))

pub request_header-q-requires : goal.request_header-q-requires
request_header-q-requires c =
    let good : is_frame_request c.args.s.now ≡ true = sym c.is_request.ensures ∙ c.if-not-is_request.false in
    good
