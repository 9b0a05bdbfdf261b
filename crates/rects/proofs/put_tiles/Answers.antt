use Rattle.std.proofs.Common.{ℕ, ◌*◌, arith, sym, take, drop, length-append}
use Rattle.rectangles.proofs.Each.{each_more}
use Rattle.rectangles.specs.Rectangles.{each}
use Rattle.text.specs.Text.{row, line}
use Rattle.text.proofs.Puts.{puts, put-nil}
use Rattle.rects.proofs.put_tiles.Goals as goal

pub loop-k-init : goal.loop-k-init
unfolding each
loop-k-init g c = record { text = sym (put-nil _ _); size = omega arith }

pub loop-k-preserved : goal.loop-k-preserved
loop-k-preserved g c =
    let more = each_more (λ (i : ℕ). line (row (take 4 (drop (4 * i) c.args.xs.now)))) c.loop-k.k in
    record { text = rw (← more) (grind (arith, puts)); size = rw (← more) (omega (arith, length-append {A = ℕ})) }
