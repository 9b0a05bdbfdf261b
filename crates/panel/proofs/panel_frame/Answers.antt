use Rattle.panel.proofs.panel_frame.Goals as goal

pub returns : goal.returns
returns c = cc
