use mathlib.Core.List.{List, ◌++◌}
use mathlib.Core.Path.{sym, ap, ◌∙◌}
use Prim.Native.Nat.{ℕ}
use borrow.Author.Tests.{le-leb}
use lib.IntN.{ℤ, pos}
use lib.ListN.{length, drop, replicate}
use lib.Seq.{length-take-le}
use Rattle.getbits.proofs.Chain.{taken}
use Rattle.flat.proofs.Rows.{kept}
use Rattle.flat_hdr.proofs.put_zeros.Goals as goal

pub returns-then-out-lt146 : goal.returns-then-out-lt146
returns-then-out-lt146 c = kept 146 (replicate 146 (pos 0)) c.args.out.now c.if-out-lt146.true

pub returns : goal.returns
returns c =
    let o = c.args.out.now in
    let room = c.if-out-lt146.false in
    let zeros = c.fill.ensures.after (λ y e. e) ∙ ap (λ (n : ℕ). replicate n (pos 0)) (length-take-le 146 o room) in
    ap (λ (l : List ℤ). l ++ drop 146 o) zeros ∙ sym (taken _ _ _ (le-leb 146 (length o) room))
