use mathlib.Core.Path.{sym, ◌∙◌}
use Rattle.getbits.proofs.Chain.{through, taken, left}
use Rattle.frame_request.specs.Request.{sequence_args}
use Rattle.frame_request.proofs.sequence_args.Goals as goal

pub returns-then-not-is_request : goal.returns-then-not-is_request
unfolding sequence_args
returns-then-not-is_request c = sym (left _ _ _ (sym c.is_request.ensures ∙ c.if-not-is_request.true))

pub request_header-q-requires : goal.request_header-q-requires
request_header-q-requires c = sym c.is_request.ensures ∙ c.if-not-is_request.false

pub returns : goal.returns
unfolding sequence_args
returns c =
    sym (taken _ _ _ (sym c.is_request.ensures ∙ c.if-not-is_request.false) ∙ through _ _ c.request_header-q.ensures)
