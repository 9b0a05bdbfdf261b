use Rattle.std.proofs.Common.{◌≡◌, ℕ, ◌+◌, ◌≤◌, ◌-◌, List, ◌++◌, length, take, subst, sym, ap, ◌∙◌, length-take-le, rules}
use Rattle.std.proofs.KnownBytes.{Consumes-trans}
use Rattle.std.specs.Io.KnownBytes.{Consumes}
use borrow.Rule.Slice.PartMut.{put_mid, post_of}
use lib.Seq.{take-append-add, take-append-le}
use Rattle.program.proofs.read_full.Goals as goal

-- the first n bytes of what a part holds stand behind what is in front of the part
take_part : (a k n : ℕ) (xs ys : List ℕ) → a ≤ length xs → n ≤ length ys → take a xs ++ take n ys ≡ take (a + n) (put_mid a k xs ys)
take_part a k n xs ys h l =
    let front = length-take-le a xs h in
    ap (λ z. take a xs ++ z) (sym (take-append-le n ys (post_of a k xs) l)) ∙ sym (take-append-add (take a xs) (ys ++ post_of a k xs) n) ∙ ap (λ m. take (m + n) (put_mid a k xs ys)) front

pub loop-done-preserved : goal.loop-done-preserved
loop-done-preserved g c =
    let at = c.loop-done.done in
    let n = c.in_ok-n.n in
    let kept = c.loop-done.invariant in
    let joined = take_part at (length c.loop-done.buf - at) n c.loop-done.buf c.read.new.buf kept.in_range c.in_ok-n.ensures.bound.0 in
    record { in_range = search rules; same_length = search rules; bytes = subst (Consumes _ _) joined (Consumes-trans _ _ _ _ _ kept.bytes c.in_ok-n.ensures.bytes.0) }
