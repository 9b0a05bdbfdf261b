use Rattle.std.proofs.Common.{ℕ, ◌+◌, ◌/◌, max, ap, ◌∙◌}
use Rattle.std.proofs.Math.Nat.{max_comm}
use Rattle.superblocks.specs.Counts.{size_of}
use Rattle.superblocks.proofs.Pair.full_count.Goals as goal

pub returns : goal.returns
returns c = c.max.ensures ∙ max_comm _ 1 ∙ ap (max 1) (c.whole_sbs.ensures ∙ ap (λ (n : ℕ). (n + 7) / size_of c.args.self.seq_code) c.from.ensures)
