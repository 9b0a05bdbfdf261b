use mathlib.Core.Path.{sym, ◌∙◌}
use Rattle.getbits.proofs.Chain.{through}
use Rattle.seq_picture.specs.Picture.{read_dependencies}
use Rattle.seq_picture.proofs.read_dependencies.Goals as goal

pub returns : goal.returns
unfolding read_dependencies
returns c =
    sym (through _ _ c.read_layer_list-t.ensures
    ∙ through _ _ c.read_layer_list-m.ensures)
