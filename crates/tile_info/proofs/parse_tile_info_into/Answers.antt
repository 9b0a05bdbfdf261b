use borrow.Author.Rules.{rules}
use mathlib.Core.Path.{◌≡◌, refl, sym, ◌∙◌, ap}
use mir.Facts.{to_z-of_z}
use Rattle.getbits.proofs.Chain.{taken, left}
use Rattle.flat.specs.Layout.{buffers, layout_in}
use Rattle.tile_layout.specs.Layout.{parse_tile_info}
use Rattle.tile_layout.specs.Limits.{args_of, in_domain}
use Rattle.tile_layout.specs.declared.TileArgs.{TileArgs}
use Rattle.tile_layout.specs.declared.TileRead.{TileRead}
use Rattle.tile_info.specs.Into.{read_into, parse_tile_info_into}
use Rattle.tile_info.proofs.Into.{what-is-left}
use Rattle.tile_info.proofs.parse_tile_info_into.Goals as goal

pub returns-then-not-has_room : goal.returns-then-not-has_room
unfolding parse_tile_info_into
returns-then-not-has_room c =
    let a = c.args in
    let b = buffers a.info.now a.cols.now a.rows.now in
    let lacks = sym c.has_room.ensures ∙ c.if-not-has_room.true in
    let w = what-is-left a.s.now a.p b (args_of a.sbmul a.sb128 a.seq_sb128 a.w a.h a.level a.tier) (sym (left _ _ _ lacks)) refl refl in
    record { outcome = w.0; as_by_value = w.1.0; demand3 = w.1.1.0; read_over = w.1.1.1 }

pub read_layout-requires : goal.read_layout-requires
read_layout-requires c =
    record { in_the_domain = sym c.in_domain.ensures ∙ c.if-in_domain.true; room = sym c.has_room.ensures ∙ c.if-not-has_room.false }

pub returns-then-in_domain : goal.returns-then-in_domain
unfolding parse_tile_info_into
returns-then-in_domain c =
    let a = c.args in
    let b = buffers a.info.now a.cols.now a.rows.now in
    let asked = args_of a.sbmul a.sb128 a.seq_sb128 a.w a.h a.level a.tier in
    let f = c.ranges in
    let made : c.tile_args-a.result ≡ asked = rw (to_z-of_z f.sbmul, to_z-of_z f.w, to_z-of_z f.h) at c.tile_args-a.ensures in
    let has = sym c.has_room.ensures ∙ c.if-not-has_room.false in
    let put = c.read_layout.ensures ∙ ap (λ (a' : TileArgs). read_into (parse_tile_info a.s.now a.p (layout_in b) a') b) made in
    let w = what-is-left a.s.now a.p b asked (put ∙ sym (taken _ _ _ has)) (search rules) (search rules) in
    record { outcome = w.0; as_by_value = w.1.0; demand3 = w.1.1.0; read_over = w.1.1.1 }

pub returns : goal.returns
unfolding parse_tile_info_into parse_tile_info
returns c =
    let a = c.args in
    let b = buffers a.info.now a.cols.now a.rows.now in
    let asked = args_of a.sbmul a.sb128 a.seq_sb128 a.w a.h a.level a.tier in
    let f = c.ranges in
    let made : c.tile_args-a.result ≡ asked = rw (to_z-of_z f.sbmul, to_z-of_z f.w, to_z-of_z f.h) at c.tile_args-a.ensures in
    let has = sym c.has_room.ensures ∙ c.if-not-has_room.false in
    let out = ap in_domain (sym made) ∙ sym c.in_domain.ensures ∙ c.if-in_domain.false in
    let w = what-is-left a.s.now a.p b asked
    (rw c.unread.ensures (sym (taken _ _ _ has ∙ ap (λ (z : TileRead). read_into z b) (left _ _ _ out)))) refl refl in
    record { outcome = w.0; as_by_value = w.1.0; demand3 = w.1.1.0; read_over = w.1.1.1 }
