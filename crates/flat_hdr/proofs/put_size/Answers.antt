use native.Mathlib.Omega.{arith}
use borrow.Author.Rules.{rules}
use lib.IntN.{ℤ}
use Rattle.getbits.proofs.Widths.{back}
use Rattle.flat.proofs.Rows.{both}
use Rattle.flat_hdr.specs.Header.{flat_size}
use Rattle.flat_hdr.proofs.put_size.Goals as goal

pub returns : goal.returns
unfolding flat_size
returns c =
    let width = back c.args.s.max_width (search rules) in
    let height = back c.args.s.max_height (search rules) in
    both c.put_bytes-at.ensures (rw (width, height) at (c.put_row.ensures.row (λ (x : ℤ). x) (λ x y h. h))) (omega (arith, c.requires))
