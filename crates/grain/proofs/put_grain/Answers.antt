use mathlib.Core.List.{append-nil}
use mathlib.Core.Path.{◌≡◌, ◌∙◌}
use Rattle.flat_grain.specs.Grain.{flat_film_grain}
use Rattle.text.specs.Text.{word, lines}
use Rattle.grain.specs.Print.{planes_line, grain_text}
use Rattle.grain.proofs.put_grain.Goals as goal

pub returns : goal.returns
unfolding grain_text planes_line lines word
returns g c =
    let fgd = c.args.fgd in
    let numbers : c.widened-xs.result ≡ flat_film_grain fgd = c.widened-xs.ensures ∙ c.put_film_grain.ensures.out_after ∙ append-nil (flat_film_grain fgd) in
    rw (← numbers) c.push_filled.ensures
