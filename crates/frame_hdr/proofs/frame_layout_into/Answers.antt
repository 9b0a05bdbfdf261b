use mathlib.Core.Bool.{Bool, true, false, ◌&&◌}
use mathlib.Core.Path.{◌≡◌, refl, sym, ◌∙◌, ap, subst}
use mir.Facts.{to_z-of_z}
use Rattle.getbits.specs.declared.Read.{Read}
use Rattle.getbits.proofs.Chain.{through, taken, left, both_hold}
use Rattle.lent.proofs.Calls.{pair, first_fails, second_fails}
use Rattle.flat.specs.Layout.{Buffers, buffers, has_room, layout_in}
use Rattle.tile_layout.specs.Limits.{unsigned, is_size, in_domain}
use Rattle.tile_layout.specs.declared.TileArgs.{TileArgs}
use Rattle.frame_layout.specs.Frame.{in_frame_domain, usable, frame_args, read_reuse, reuse_allowed, parse_tile_info_frmhdr}
use Rattle.frame_hdr.specs.Into.{frame_in, seq_in, frame_into, parse_tile_info_frmhdr_into}
use Rattle.frame_layout.specs.declared.FrameHeader.{FrameHeader}
use Rattle.frame_layout.specs.declared.FrameRead.{FrameRead}
use Rattle.frame_layout.specs.declared.SeqLayout.{SeqLayout}
use Rattle.frame_hdr.proofs.Into.{Held, held, allowed_in, fresh_into, what-is-left}
use Rattle.frame_layout.proofs.Usable.{Tiled, known, usable_tiles_lem, frame_usable, frame_in_domain, allowed_only, reused_tiled}
use Rattle.frame_hdr.proofs.frame_layout_into.Goals as goal

-- the question of the domain
asked : (h : FrameHeader) (q : SeqLayout) {x y z t : Bool} → x ≡ is_size (unsigned h.width) → y ≡ is_size (unsigned h.height) → z ≡ usable q
    → x && y && z ≡ t → in_frame_domain h q ≡ t
unfolding in_frame_domain
asked h q e f g k = rw (← e, ← f, ← g) k

-- a layout whose counts and starts are small, in its buffers
in_buffers : (q : SeqLayout) (b : Buffers) → has_room b ≡ true → q.t ≡ layout_in b → Tiled q.t → Tiled (Held b)
in_buffers q b r e = subst Tiled (e ∙ held b r)

pub returns-then-not-has_room-clause-outcome : goal.returns-then-not-has_room-clause-outcome
unfolding parse_tile_info_frmhdr_into
returns-then-not-has_room-clause-outcome c =
    let a = c.args in
    -- the buffers lent, and the records in them
    let own = buffers a.info.now a.cols.now a.rows.now in
    let theirs = buffers a.seq_info.now a.seq_cols.now a.seq_rows.now in
    let h = frame_in a.frame_type a.width a.height a.sb128 own in
    let q = seq_in a.seq_sb128 a.max_width a.max_height a.level a.tier a.present theirs in
    let lacks = sym c.has_room.ensures ∙ c.if-not-has_room.true in
    sym (left _ _ _ (first_fails (has_room own) (has_room theirs) lacks))

pub returns-then-not-has_room-2-clause-outcome : goal.returns-then-not-has_room-2-clause-outcome
unfolding parse_tile_info_frmhdr_into
returns-then-not-has_room-2-clause-outcome c =
    let a = c.args in
    -- the buffers lent, and the records in them
    let own = buffers a.info.now a.cols.now a.rows.now in
    let theirs = buffers a.seq_info.now a.seq_cols.now a.seq_rows.now in
    let h = frame_in a.frame_type a.width a.height a.sb128 own in
    let q = seq_in a.seq_sb128 a.max_width a.max_height a.level a.tier a.present theirs in
    let lacks = sym c.has_room-2.ensures ∙ c.if-not-has_room-2.true in
    sym (left _ _ _ (second_fails (has_room own) (has_room theirs) lacks))

pub returns-then-not-sized-usable : goal.returns-then-not-sized-usable
unfolding parse_tile_info_frmhdr_into parse_tile_info_frmhdr
returns-then-not-sized-usable c =
    let a = c.args in
    -- the buffers lent, and the records in them
    let own = buffers a.info.now a.cols.now a.rows.now in
    let theirs = buffers a.seq_info.now a.seq_cols.now a.seq_rows.now in
    let h = frame_in a.frame_type a.width a.height a.sb128 own in
    let q = seq_in a.seq_sb128 a.max_width a.max_height a.level a.tier a.present theirs in
    let own_room : has_room own ≡ true = sym c.has_room.ensures ∙ c.if-not-has_room.false in
    let their_room : has_room theirs ≡ true = sym c.has_room-2.ensures ∙ c.if-not-has_room-2.false in
    let inside : in_frame_domain h q ≡ false =
    asked h q (rw (to_z-of_z c.ranges.width) at c.is_extent.ensures) (rw (to_z-of_z c.ranges.height) at c.is_extent-2.ensures)
    (rw (to_z-of_z c.ranges.max_width, to_z-of_z c.ranges.max_height) at c.is_usable-usable.ensures)
    c.if-not-sized-usable.true in
    let w = what-is-left a.s.now a.p own theirs h q refl
    (rw c.unread.ensures (sym (taken _ _ _ (both_hold own_room their_room) ∙ ap (λ (z : FrameRead). frame_into z own) (left _ _ _ inside)))) refl refl in
    record { outcome = w.0; as_by_value = w.1.0; frame_layout = w.1.1 }

pub reuse_allowed-allowed-requires-clause-in_the_domain : goal.reuse_allowed-allowed-requires-clause-in_the_domain
reuse_allowed-allowed-requires-clause-in_the_domain c =
    let a = c.args in
    -- the buffers lent, and the records in them
    let own = buffers a.info.now a.cols.now a.rows.now in
    let theirs = buffers a.seq_info.now a.seq_cols.now a.seq_rows.now in
    let h = frame_in a.frame_type a.width a.height a.sb128 own in
    let q = seq_in a.seq_sb128 a.max_width a.max_height a.level a.tier a.present theirs in
    let inside : in_frame_domain h q ≡ true =
    asked h q (rw (to_z-of_z c.ranges.width) at c.is_extent.ensures) (rw (to_z-of_z c.ranges.height) at c.is_extent-2.ensures)
    (rw (to_z-of_z c.ranges.max_width, to_z-of_z c.ranges.max_height) at c.is_usable-usable.ensures)
    c.if-not-sized-usable.false in
    let made : c.frame_args-a.result ≡ frame_args h q = rw (to_z-of_z c.ranges.width, to_z-of_z c.ranges.height) at c.frame_args-a.ensures in
    ap in_domain made ∙ frame_in_domain h q inside

pub reuse_allowed-allowed-requires-clause-log2_cols_bound : goal.reuse_allowed-allowed-requires-clause-log2_cols_bound
reuse_allowed-allowed-requires-clause-log2_cols_bound c =
    let a = c.args in
    -- the buffers lent, and the records in them
    let own = buffers a.info.now a.cols.now a.rows.now in
    let theirs = buffers a.seq_info.now a.seq_cols.now a.seq_rows.now in
    let h = frame_in a.frame_type a.width a.height a.sb128 own in
    let q = seq_in a.seq_sb128 a.max_width a.max_height a.level a.tier a.present theirs in
    let their_room : has_room theirs ≡ true = sym c.has_room-2.ensures ∙ c.if-not-has_room-2.false in
    let inside : in_frame_domain h q ≡ true =
    asked h q (rw (to_z-of_z c.ranges.width) at c.is_extent.ensures) (rw (to_z-of_z c.ranges.height) at c.is_extent-2.ensures)
    (rw (to_z-of_z c.ranges.max_width, to_z-of_z c.ranges.max_height) at c.is_usable-usable.ensures)
    c.if-not-sized-usable.false in
    λ on.
    let t = in_buffers q theirs their_room refl ((known q (frame_usable h q inside)).tiled on) in
    ((usable_tiles_lem _ _ _ t.cols).small, (usable_tiles_lem _ _ _ t.rows).small)

pub reused_layout-requires-clause-in_the_domain : goal.reused_layout-requires-clause-in_the_domain
reused_layout-requires-clause-in_the_domain c =
    let a = c.args in
    -- the buffers lent, and the records in them
    let own = buffers a.info.now a.cols.now a.rows.now in
    let theirs = buffers a.seq_info.now a.seq_cols.now a.seq_rows.now in
    let h = frame_in a.frame_type a.width a.height a.sb128 own in
    let q = seq_in a.seq_sb128 a.max_width a.max_height a.level a.tier a.present theirs in
    let inside : in_frame_domain h q ≡ true =
    asked h q (rw (to_z-of_z c.ranges.width) at c.is_extent.ensures) (rw (to_z-of_z c.ranges.height) at c.is_extent-2.ensures)
    (rw (to_z-of_z c.ranges.max_width, to_z-of_z c.ranges.max_height) at c.is_usable-usable.ensures)
    c.if-not-sized-usable.false in
    let made : c.frame_args-a.result ≡ frame_args h q = rw (to_z-of_z c.ranges.width, to_z-of_z c.ranges.height) at c.frame_args-a.ensures in
    ap in_domain made ∙ frame_in_domain h q inside

pub reused_layout-requires-clause-seq_cols_value : goal.reused_layout-requires-clause-seq_cols_value
reused_layout-requires-clause-seq_cols_value c =
    let a = c.args in
    -- the buffers lent, and the records in them
    let own = buffers a.info.now a.cols.now a.rows.now in
    let theirs = buffers a.seq_info.now a.seq_cols.now a.seq_rows.now in
    let h = frame_in a.frame_type a.width a.height a.sb128 own in
    let q = seq_in a.seq_sb128 a.max_width a.max_height a.level a.tier a.present theirs in
    let their_room : has_room theirs ≡ true = sym c.has_room-2.ensures ∙ c.if-not-has_room-2.false in
    let inside : in_frame_domain h q ≡ true =
    asked h q (rw (to_z-of_z c.ranges.width) at c.is_extent.ensures) (rw (to_z-of_z c.ranges.height) at c.is_extent-2.ensures)
    (rw (to_z-of_z c.ranges.max_width, to_z-of_z c.ranges.max_height) at c.is_usable-usable.ensures)
    c.if-not-sized-usable.false in
    let made : c.frame_args-a.result ≡ frame_args h q = rw (to_z-of_z c.ranges.width, to_z-of_z c.ranges.height) at c.frame_args-a.ensures in
    let allowed : c.reuse_allowed-allowed.result ≡ reuse_allowed c.frame_args-a.result q =
    rw (c.is_set.ensures, to_z-of_z c.ranges.max_width, to_z-of_z c.ranges.max_height) at c.reuse_allowed-allowed.ensures
    ∙ allowed_in c.frame_args-a.result q theirs their_room refl (ap (λ (x : TileArgs). x.seq_code) made) in
    let only : c.reuse_allowed-allowed.result ≡ true =
    allowed_only c.reuse_allowed-allowed.result a.s.now a.p _ (sym (ap (λ (x : Read Bool). x.value) c.read_reuse-reuse.ensures) ∙ c.if-reuse.true) in
    let tiled = in_buffers q theirs their_room refl (reused_tiled c.frame_args-a.result q (frame_usable h q inside) (sym allowed ∙ only)) in
    tiled.cols

pub reused_layout-requires-clause-seq_rows_value : goal.reused_layout-requires-clause-seq_rows_value
reused_layout-requires-clause-seq_rows_value c =
    let a = c.args in
    -- the buffers lent, and the records in them
    let own = buffers a.info.now a.cols.now a.rows.now in
    let theirs = buffers a.seq_info.now a.seq_cols.now a.seq_rows.now in
    let h = frame_in a.frame_type a.width a.height a.sb128 own in
    let q = seq_in a.seq_sb128 a.max_width a.max_height a.level a.tier a.present theirs in
    let their_room : has_room theirs ≡ true = sym c.has_room-2.ensures ∙ c.if-not-has_room-2.false in
    let inside : in_frame_domain h q ≡ true =
    asked h q (rw (to_z-of_z c.ranges.width) at c.is_extent.ensures) (rw (to_z-of_z c.ranges.height) at c.is_extent-2.ensures)
    (rw (to_z-of_z c.ranges.max_width, to_z-of_z c.ranges.max_height) at c.is_usable-usable.ensures)
    c.if-not-sized-usable.false in
    let made : c.frame_args-a.result ≡ frame_args h q = rw (to_z-of_z c.ranges.width, to_z-of_z c.ranges.height) at c.frame_args-a.ensures in
    let allowed : c.reuse_allowed-allowed.result ≡ reuse_allowed c.frame_args-a.result q =
    rw (c.is_set.ensures, to_z-of_z c.ranges.max_width, to_z-of_z c.ranges.max_height) at c.reuse_allowed-allowed.ensures
    ∙ allowed_in c.frame_args-a.result q theirs their_room refl (ap (λ (x : TileArgs). x.seq_code) made) in
    let only : c.reuse_allowed-allowed.result ≡ true =
    allowed_only c.reuse_allowed-allowed.result a.s.now a.p _ (sym (ap (λ (x : Read Bool). x.value) c.read_reuse-reuse.ensures) ∙ c.if-reuse.true) in
    let tiled = in_buffers q theirs their_room refl (reused_tiled c.frame_args-a.result q (frame_usable h q inside) (sym allowed ∙ only)) in
    tiled.rows

pub returns-then-reuse : goal.returns-then-reuse
unfolding parse_tile_info_frmhdr_into parse_tile_info_frmhdr read_reuse
returns-then-reuse c =
    let a = c.args in
    -- the buffers lent, and the records in them
    let own = buffers a.info.now a.cols.now a.rows.now in
    let theirs = buffers a.seq_info.now a.seq_cols.now a.seq_rows.now in
    let h = frame_in a.frame_type a.width a.height a.sb128 own in
    let q = seq_in a.seq_sb128 a.max_width a.max_height a.level a.tier a.present theirs in
    let own_room : has_room own ≡ true = sym c.has_room.ensures ∙ c.if-not-has_room.false in
    let their_room : has_room theirs ≡ true = sym c.has_room-2.ensures ∙ c.if-not-has_room-2.false in
    let inside : in_frame_domain h q ≡ true =
    asked h q (rw (to_z-of_z c.ranges.width) at c.is_extent.ensures) (rw (to_z-of_z c.ranges.height) at c.is_extent-2.ensures)
    (rw (to_z-of_z c.ranges.max_width, to_z-of_z c.ranges.max_height) at c.is_usable-usable.ensures)
    c.if-not-sized-usable.false in
    let made : c.frame_args-a.result ≡ frame_args h q = rw (to_z-of_z c.ranges.width, to_z-of_z c.ranges.height) at c.frame_args-a.ensures in
    let allowed : c.reuse_allowed-allowed.result ≡ reuse_allowed c.frame_args-a.result q =
    rw (c.is_set.ensures, to_z-of_z c.ranges.max_width, to_z-of_z c.ranges.max_height) at c.reuse_allowed-allowed.ensures
    ∙ allowed_in c.frame_args-a.result q theirs their_room refl (ap (λ (x : TileArgs). x.seq_code) made) in
    let answered : c.read_reuse-reuse.result ≡ read_reuse a.s.now a.p c.frame_args-a.result q = rw allowed at c.read_reuse-reuse.ensures in
    let read = taken _ _ _ inside ∙ through _ _ made ∙ through _ _ answered ∙ taken _ _ _ c.if-reuse.true in
    let put = pair refl c.reused_layout.ensures ∙ ap (λ (z : FrameRead). frame_into z own) (sym read) in
    let w = what-is-left a.s.now a.p own theirs h q refl (put ∙ sym (taken _ _ _ (both_hold own_room their_room))) c.reused_layout.auto.cols c.reused_layout.auto.rows in
    record { outcome = w.0; as_by_value = w.1.0; frame_layout = w.1.1 }

pub fresh_layout-requires-clause-in_the_domain : goal.fresh_layout-requires-clause-in_the_domain
fresh_layout-requires-clause-in_the_domain c =
    let a = c.args in
    -- the buffers lent, and the records in them
    let own = buffers a.info.now a.cols.now a.rows.now in
    let theirs = buffers a.seq_info.now a.seq_cols.now a.seq_rows.now in
    let h = frame_in a.frame_type a.width a.height a.sb128 own in
    let q = seq_in a.seq_sb128 a.max_width a.max_height a.level a.tier a.present theirs in
    let inside : in_frame_domain h q ≡ true =
    asked h q (rw (to_z-of_z c.ranges.width) at c.is_extent.ensures) (rw (to_z-of_z c.ranges.height) at c.is_extent-2.ensures)
    (rw (to_z-of_z c.ranges.max_width, to_z-of_z c.ranges.max_height) at c.is_usable-usable.ensures)
    c.if-not-sized-usable.false in
    let made : c.frame_args-a.result ≡ frame_args h q = rw (to_z-of_z c.ranges.width, to_z-of_z c.ranges.height) at c.frame_args-a.ensures in
    ap in_domain made ∙ frame_in_domain h q inside

pub returns : goal.returns
unfolding parse_tile_info_frmhdr_into parse_tile_info_frmhdr read_reuse
returns c =
    let a = c.args in
    -- the buffers lent, and the records in them
    let own = buffers a.info.now a.cols.now a.rows.now in
    let theirs = buffers a.seq_info.now a.seq_cols.now a.seq_rows.now in
    let h = frame_in a.frame_type a.width a.height a.sb128 own in
    let q = seq_in a.seq_sb128 a.max_width a.max_height a.level a.tier a.present theirs in
    let own_room : has_room own ≡ true = sym c.has_room.ensures ∙ c.if-not-has_room.false in
    let their_room : has_room theirs ≡ true = sym c.has_room-2.ensures ∙ c.if-not-has_room-2.false in
    let inside : in_frame_domain h q ≡ true =
    asked h q (rw (to_z-of_z c.ranges.width) at c.is_extent.ensures) (rw (to_z-of_z c.ranges.height) at c.is_extent-2.ensures)
    (rw (to_z-of_z c.ranges.max_width, to_z-of_z c.ranges.max_height) at c.is_usable-usable.ensures)
    c.if-not-sized-usable.false in
    let made : c.frame_args-a.result ≡ frame_args h q = rw (to_z-of_z c.ranges.width, to_z-of_z c.ranges.height) at c.frame_args-a.ensures in
    let allowed : c.reuse_allowed-allowed.result ≡ reuse_allowed c.frame_args-a.result q =
    rw (c.is_set.ensures, to_z-of_z c.ranges.max_width, to_z-of_z c.ranges.max_height) at c.reuse_allowed-allowed.ensures
    ∙ allowed_in c.frame_args-a.result q theirs their_room refl (ap (λ (x : TileArgs). x.seq_code) made) in
    let answered : c.read_reuse-reuse.result ≡ read_reuse a.s.now a.p c.frame_args-a.result q = rw allowed at c.read_reuse-reuse.ensures in
    let read = taken _ _ _ inside ∙ through _ _ made ∙ through _ _ answered ∙ left _ _ _ c.if-reuse.false in
    let put = fresh_into a.s.now c.read_reuse-reuse.result.next h c.frame_args-a.result own refl _ _ c.fresh_layout.ensures ∙ ap (λ (z : FrameRead). frame_into z own) (sym read) in
    let w = what-is-left a.s.now a.p own theirs h q refl (put ∙ sym (taken _ _ _ (both_hold own_room their_room))) c.fresh_layout.auto.cols c.fresh_layout.auto.rows in
    record { outcome = w.0; as_by_value = w.1.0; frame_layout = w.1.1 }
