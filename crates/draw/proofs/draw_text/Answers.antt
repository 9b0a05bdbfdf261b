use mathlib.Core.Path.{◌≡◌}
use native.Mathlib.Omega.{arith}
use lib.ListN.{length}
use Rattle.draw.specs.Print.{draw_text}
use Rattle.text.specs.Text.{word}
use Rattle.draw.proofs.draw_text.Goals as goal

pub returns-in-empty : goal.returns-in-empty
unfolding draw_text word
returns-in-empty c =
    let none : length c.args.input.now ≡ 0 = omega (arith, c.in-empty.len_below) in
    let p = c.put_refusal.ensures in
    rw none (record { text = p.text; size = omega (arith, p.size) })
