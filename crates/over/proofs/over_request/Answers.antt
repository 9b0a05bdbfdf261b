use mathlib.Core.List.{[]}
use mathlib.Core.Path.{◌≡◌, sym, ap, ◌∙◌}
use Prim.Native.Nat.{◌-◌}
use native.Mathlib.Omega.{arith}
use lib.ListN.{length, take, drop, length-drop, drop_of_length-le}
use lib.Seq.{take_all}
use Rattle.tile_layout.specs.declared.TileInfo.{TileInfo}
use Rattle.tile_request.specs.Layout.{given_layout}
use Rattle.tile_request.specs.Request.{request_over}
use Rattle.over.proofs.over_request.Goals as goal

pub returns-then-s-lt269 : goal.returns-then-s-lt269
returns-then-s-lt269 c =
    let s = c.args.s.now in
    c.request_over.ensures
    ∙ ap (λ (old : TileInfo). request_over old []) c.given_layout-old.ensures
    ∙ ap (request_over (given_layout s)) (sym (drop_of_length-le s {i = 269} (omega arith)))

pub returns : goal.returns
returns c =
    let s = c.args.s.now in
    let rest : take (length s - 269) (drop 269 s) ≡ drop 269 s = take_all (length s - 269) (drop 269 s) (simp length-drop (omega arith)) in
    c.request_over-2.ensures
    ∙ ap (λ (old : TileInfo). request_over old (take (length s - 269) (drop 269 s))) c.given_layout-old.ensures
    ∙ ap (request_over (given_layout s)) rest
