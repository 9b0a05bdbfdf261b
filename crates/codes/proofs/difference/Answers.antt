use Prim.Native.Nat.{◌^◌}
use lib.IntN.{pos, ◌-ℤ◌}
use mir.ValLaws.{to_z_pos}
use mir.Syntax.{w32}
use Rattle.codes.proofs.Integers.{difference_lt}
use Rattle.getbits.proofs.Widths.{back}
use Rattle.codes.proofs.difference.Goals as goal

pub overflow_sub_result : goal.overflow_sub_result
overflow_sub_result c =
    let a = c.args in
    rw (to_z_pos w32 a.a c.requires.0, to_z_pos w32 a.b c.requires.1) (record { sfits = difference_lt a.a a.b (2 ^ 31) c.requires.0 c.requires.1 })

pub returns : goal.returns
returns c =
    let a = c.args in
    rw (to_z_pos w32 a.a c.requires.0, to_z_pos w32 a.b c.requires.1) (back (pos a.a -ℤ pos a.b) (difference_lt a.a a.b (2 ^ 31) c.requires.0 c.requires.1))
