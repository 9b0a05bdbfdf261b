use mathlib.Core.Bool.{true}
use mathlib.Core.List.{List}
use mathlib.Core.Path.{◌≡◌, refl, sym, ap, subst, ◌∙◌}
use Prim.Native.Nat.{ℕ}
use mir.Facts.{to_z-of_z}
use Rattle.answers.proofs.Numbers.{accepted_by_0}
use Rattle.answers.specs.declared.Answer.TheVariants.{ShortBuffer}
use Rattle.getbits.proofs.Chain.{contrary, through, taken}
use Rattle.lent.specs.Lent.{place_of}
use Rattle.tile_layout.specs.Demand3.{AcceptedLayout}
use Rattle.tile_layout.specs.Limits.{args_of}
use Rattle.tile_layout.specs.declared.TileArgs.{TileArgs}
use Rattle.tile_layout.specs.declared.TileRead.{TileRead}
use Rattle.flat.specs.Layout.{Buffers, buffers, has_room, layout_in}
use Rattle.lent_tiles.specs.Calls.{handed_tiles, lent_tiles, lent_tile_info}
use Rattle.lent_tiles.proofs.Left.{tiles_short, tiles_number, tiles_kept, cleared_left}
use Rattle.tile_limit.specs.Promises.{LimitedTiles}
use Rattle.tile_limit.specs.Within.{wall, parse_tile_info_within}
use Rattle.tile_limit.specs.declared.TileLimit.{TileLimit}
use Rattle.tile_limit.proofs.Limited.{limited_tiles}
use Rattle.capi_within.specs.Calls.{limit_given, lent_tile_info_within}
use Rattle.capi_within.proofs.Left.{limited_left, tiles_alike}
use Rattle.capi_within.proofs.mubanlig_parse_tile_info_within.Goals as goal

module _ (s : List ℕ) (position error : ℕ) (b : Buffers) (a : TileArgs) (m : TileLimit) where
  -- with the wall's limit the definition is the wall's
  on_wall : m ≡ wall → lent_tile_info_within s position error b a m ≡ lent_tile_info s position error b a
  on_wall e = tiles_alike _ _ position error b ((limited_tiles s (place_of position error) (layout_in b) a m).as_on_wall e)

  -- what the definition says, once the layout is read
  meaning : (r : TileRead) → has_room b ≡ true → r ≡ parse_tile_info_within s (place_of position error) (layout_in b) a m
      → lent_tile_info_within s position error b a m ≡ handed_tiles r error b
  unfolding lent_tiles
  meaning r has e = taken _ _ _ has ∙ through _ _ e

  promised : (r : TileRead) → r ≡ parse_tile_info_within s (place_of position error) (layout_in b) a m → LimitedTiles s (place_of position error) (layout_in b) a m r
  promised r e = subst (LimitedTiles s (place_of position error) (layout_in b) a m) (sym e) (limited_tiles s (place_of position error) (layout_in b) a m)

pub returns-then-not-has_room : goal.returns-then-not-has_room
returns-then-not-has_room c =
    let a = c.args in
    let given = buffers a.info.now a.col_start_sb.now a.row_start_sb.now in
    let asked = args_of a.sbmul a.sb128 a.seq_sb128 a.w a.h a.level a.tier in
    let lacks = sym c.has_room.ensures ∙ c.if-not-has_room.true in
    let e = tiles_short _ a.position.now a.error.now given lacks in
    record {
      outcome = e;
      info_unchanged = λ _. refl;
      col_start_sb_unchanged = λ _. refl;
      row_start_sb_unchanged = λ _. refl;
      limited = λ h. contrary h lacks;
      accepted_layout = λ h. contrary refl (accepted_by_0 ShortBuffer h);
      on_wall = λ w. e ∙ on_wall a.s.now a.position.now a.error.now given asked (limit_given a.max_cols a.max_rows) w;
      cleared = λ h. contrary refl (accepted_by_0 ShortBuffer h);
    }

pub returns : goal.returns
returns c =
    let a = c.args in
    let f = c.ranges in
    -- the buffers lent, the place, the arguments and the limit
    let given = buffers a.info.now a.col_start_sb.now a.row_start_sb.now in
    let place = place_of a.position.now a.error.now in
    let asked = args_of a.sbmul a.sb128 a.seq_sb128 a.w a.h a.level a.tier in
    let limit = limit_given a.max_cols a.max_rows in
    let has : has_room given ≡ true = sym c.has_room.ensures ∙ c.if-not-has_room.false in
    let x = c.parse_tile_info_within-r.result in
    let read : x ≡ parse_tile_info_within a.s.now place (layout_in given) asked limit =
    rw (to_z-of_z f.sbmul, to_z-of_z f.w, to_z-of_z f.h, c.place_of-p.ensures, c.tile_info_of-thdr.ensures) at c.parse_tile_info_within-r.ensures.value in
    let promise = promised a.s.now a.position.now a.error.now given asked limit x read in
    let back = c.hand_back_tiles.ensures.outcome in
    let info = c.hand_back_tiles.ensures.layout_put has in
    let number = tiles_number x a.error.now given back in
    let kept = tiles_kept x a.error.now given back in
    let e = back ∙ sym (meaning a.s.now a.position.now a.error.now given asked limit x has read) in
    record {
      outcome = e;
      info_unchanged = λ n. ap (λ (b : Buffers). b.bytes) (kept n);
      col_start_sb_unchanged = λ n. ap (λ (b : Buffers). b.col_starts) (kept n);
      row_start_sb_unchanged = λ n. ap (λ (b : Buffers). b.row_starts) (kept n);
      limited = λ _. limited_left x _ _ number info promise.limited;
      accepted_layout = λ n. let h = accepted_by_0 x.answer (sym number ∙ n) in subst (AcceptedLayout a.s.now place asked) (sym (info h)) (promise.accepted h);
      on_wall = λ w. e ∙ on_wall a.s.now a.position.now a.error.now given asked limit w;
      cleared = cleared_left x _ _ number info promise.over;
    }
