use Rattle.std.proofs.Common.{◌≡◌, ap, sym, ◌∙◌, arith, List, ℕ, [], ◌∷◌, length, length-take-le}
use Rattle.text.specs.Text.{put}
use Rattle.text.proofs.Puts.{put_byte, put_full}
use Rattle.text.proofs.Text.push.Goals as goal

pub returns-then-self : goal.returns-then-self
returns-then-self g c =
    let q = c.self.inside in
    put_byte g.row.N q.len q.bytes c.args.b c.self.told c.if-self.true ∙ ap (λ (t : List ℕ). put g.row.N t (c.args.b ∷ [])) c.self.view_is

pub returns-else-self : goal.returns-else-self
returns-else-self g c =
    let len : length c.args.self.now ≡ c.self.inside.len = ap length (sym c.self.view_is) ∙ length-take-le c.self.inside.len c.self.inside.bytes (omega arith) in
    sym (put_full g.row.N c.args.self.now (c.args.b ∷ []) (omega arith))
