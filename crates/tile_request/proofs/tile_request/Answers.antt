use Rattle.tile_request.specs.Request.{tile_request}
use Rattle.tile_request.proofs.tile_request.Goals as goal

pub returns : goal.returns
unfolding tile_request
returns c = cc
