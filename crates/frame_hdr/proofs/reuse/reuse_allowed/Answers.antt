use mathlib.Core.Path.{◌≡◌, sym, ◌∙◌}
use mathlib.Core.Bool.{false}
use Prim.Native.Nat.{◌%◌, min}
use native.Mathlib.Omega.{arith}
use mir.Facts.{to_z-of_z}
use Rattle.getbits.proofs.Chain.{taken, left}
use Rattle.tile_layout.proofs.Domain.{domain, low_code, low_seq_code}
use Rattle.frame_layout.specs.Frame.{is_off}
use Rattle.frame_hdr.proofs.reuse.reuse_allowed.Goals as goal

pub returns-then-uniform : goal.returns-then-uniform
returns-then-uniform c =
    let on : is_off c.args.present ≡ false = sym c.is_off.ensures ∙ c.if-is_off.false in
    let code : min c.of-pair.result.frame_code 2 ≡ c.args.a.frame_code = omega (arith, c.of-pair.ensures.0, low_code _ (domain _ c.requires.in_the_domain)) in
    let small = c.requires.log2_cols_bound on in
    let w : c.args.log2_cols % 32 ≡ c.args.log2_cols = omega (arith, small.0) in
    let h : c.args.log2_rows % 32 ≡ c.args.log2_rows = omega (arith, small.1) in
    rw (c.fits_uniform-then-uniform.ensures, c.fits_uniform.ensures, c.frame_count-sbh.ensures, c.frame_count-sbw.ensures, code, w, h)
    (sym (left _ _ _ (on) ∙ taken _ _ _ c.if-uniform.true))

pub same_counts-requires : goal.same_counts-requires
same_counts-requires c =
    omega (arith, c.of-pair.ensures.1, low_seq_code _ (domain _ c.requires.in_the_domain))

pub returns : goal.returns
returns c =
    let on : is_off c.args.present ≡ false = sym c.is_off.ensures ∙ c.if-is_off.false in
    let code : min c.of-pair.result.frame_code 2 ≡ c.args.a.frame_code = omega (arith, c.of-pair.ensures.0, low_code _ (domain _ c.requires.in_the_domain)) in
    rw (c.same_counts.ensures, c.frame_count-sbh.ensures, c.frame_count-sbw.ensures, code, c.of-pair.ensures.1, to_z-of_z c.ranges.max_width, to_z-of_z c.ranges.max_height)
    (sym (left _ _ _ (on) ∙ left _ _ _ c.if-uniform.false))
