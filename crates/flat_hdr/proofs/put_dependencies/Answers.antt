use mathlib.Core.Path.{◌≡◌}
use native.Mathlib.Omega.{arith}
use borrow.Author.Rules.{rules}
use lib.ListN.{length}
use Rattle.flat.proofs.Rows.{both}
use Rattle.flat_hdr.specs.Header.{flat_dependencies}
use Rattle.flat_hdr.proofs.put_dependencies.Goals as goal

pub returns : goal.returns
unfolding flat_dependencies
returns c =
    let tlayer_length : length c.args.d.tlayer_dependencies ≡ 8 = search rules in
    let mlayer_length : length c.args.d.mlayer_dependencies ≡ 8 = search rules in
    both (both c.put_bytes-at.ensures (rw tlayer_length at c.put_bytes-at-2.ensures) (omega (arith, c.requires))) (rw mlayer_length at c.put_bytes.ensures) (omega (arith, c.requires))
