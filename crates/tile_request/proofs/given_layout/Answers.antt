use Rattle.tile_request.specs.Layout.{given_layout}
use Rattle.tile_request.proofs.given_layout.Goals as goal

pub returns : goal.returns
unfolding given_layout
returns c =
    rw (c.is_set.ensures, c.byte_at.ensures, c.byte_at-2.ensures, c.byte_at-3.ensures, c.byte_at-4.ensures, c.byte_at-5.ensures, c.byte_at-6.ensures, c.byte_at-7.ensures, c.byte_at-8.ensures, c.byte_at-9.ensures, c.starts_at-row_start_sb.ensures, c.starts_at-col_start_sb.ensures)
