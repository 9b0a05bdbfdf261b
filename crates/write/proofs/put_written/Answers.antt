use mathlib.Core.Path.{sym, ◌∙◌}
use borrow.Author.Rules.{rules}
use Rattle.write.proofs.Buffers.{few}
use Rattle.write.proofs.put_written.Goals as goal

pub put_bits-requires : goal.put_bits-requires
put_bits-requires g c =
    (search rules, few _ _ _ (c.write_request-r.result, c.write_request-r.new.buffer) c.write_request-r.ensures (sym c.is_refusal.ensures ∙ c.if-is_refusal.false))
