use native.Mathlib.Omega.{arith}
use Rattle.std.proofs.Common.{le_refl}
use Rattle.drawing.specs.Drawing.{grid_text}
use Rattle.text.proofs.Chains.{also, sizes}
use Rattle.text.specs.Text.{word}
use Rattle.drawing.proofs.put_grid.Goals as goal

pub returns : goal.returns
unfolding grid_text word
returns g c =
    let p = c.put_marked.ensures in
    let q = c.put_all_lines.ensures in
    record { text = also _ _ _ _ (also _ _ _ _ p.text q.text) c.push_word.ensures; size = omega (arith, sizes _ (word "</g>\n") (sizes _ _ p.size q.size) (le_refl _)) }
