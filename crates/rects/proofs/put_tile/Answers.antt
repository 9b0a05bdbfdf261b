use Rattle.std.proofs.Common.{arith, length-append}
use Rattle.rectangles.proofs.Four.{four}
use Rattle.rects.proofs.Tiles.{in_parts}
use Rattle.rects.proofs.put_tile.Goals as goal

pub returns-clause-size : goal.returns-clause-size
returns-clause-size g c =
    rw (four c.args.xs.now c.args.i c.requires, ← c.from.ensures, ← c.from-2.ensures, ← c.from-3.ensures, ← c.from-4.ensures, ← in_parts, length-append) (omega (arith, c.push_number.ensures.size, c.push_line.ensures.size))
