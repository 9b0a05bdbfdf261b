use Rattle.panel.proofs.panel_tiles.Goals as goal

pub returns : goal.returns
returns c = cc
