-- How many cases of each operation were replayed, and how many agree.
use Rattle.std.specs.Prelude.{List, ℕ, ◌+◌, ◌-◌, ◌^◌, ltb, map, get_or, set}
use Rattle.getbits.specs.Chain.{pick}
use Rattle.verdicts.specs.declared.Count.{Count}
use Rattle.verdicts.specs.declared.Tally.{Tally}

-- one more at i, if it fits in 32 bits; behind the last count nothing changes
unfoldable pub one_more : List ℕ → ℕ → List ℕ
one_more counts i = pick (ltb (get_or counts i 0) (2 ^ 32 - 1)) (set counts i (get_or counts i 0 + 1)) counts

-- how many cases of each operation were replayed
abbrev pub replayed : Tally → List ℕ
replayed t = map (λ (c : Count). c.replayed) t.counts

-- and how many agree
abbrev pub agree : Tally → List ℕ
agree t = map (λ (c : Count). c.agree) t.counts
