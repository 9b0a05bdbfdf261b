-- DEMAND 3 of the definition. Assumes nothing.
use mathlib.Core.Path.{◌≡◌, refl, sym, ap, subst}
use mathlib.Core.Logic.{◌⊎◌, inl, inr, ⊎_elim}
use mathlib.Core.Bool.{Bool, true, false}
use mathlib.Core.List.{List}
use Prim.Native.Nat.{ℕ, ◌-◌, ◌*◌, ◌≤◌, ◌<◌}
use native.Mathlib.Nat.{le-mul_of_pos_right, le_trans, mul-le-mul}
use native.Mathlib.Omega.{arith}
use borrow.Author.Tests.{ltb-true, ltb-false, eqb-true, eqb-false}
use lib.Dec.{ltb, eqb}
use lib.ListN.{get_or}
use lib.Pow.{pow_pos}
use Rattle.answers.specs.Numbers.{is_refusal}
use Rattle.getbits.specs.Bits.{get_bit, get_flag}
use Rattle.getbits.specs.Chain.{pick, then}
use Rattle.getbits.specs.declared.Place.{Place}
use Rattle.getbits.proofs.Callers.{bit_lt}
use Rattle.getbits.proofs.Chain.{contrary, picked, taken, left}
use Rattle.tile_layout.specs.declared.TileArgs.{TileArgs}
use Rattle.tile_layout.specs.declared.TileInfo.{TileInfo}
use Rattle.tile_layout.specs.declared.TileRead.{TileRead}
use Rattle.tile_layout.specs.Limits.{in_domain, sbw, sbh, width_limit, area_limit, tile_log2, min_log2_cols, max_log2_cols, max_log2_rows, min_log2_tiles}
use Rattle.tile_layout.specs.Layout.{sum, widest, read_log2, uniform_info, uniform_layout, row_limit, read_cols, read_rows, non_uniform_info, non_uniform_layout, parse_tile_info}
use Rattle.tile_layout.specs.Demand3.{Uniform, NonUniform, cols_read, rows_read, col_size, row_size, AcceptedLayout, Demand3}
use Rattle.tile_layout.proofs.Laws.{start_at_lem, closing_at}
use Rattle.tile_layout.proofs.Domain.{InDomain, domain, across, down, limits}
use Rattle.tile_layout.proofs.Logs.{least, log_read}
use Rattle.tile_layout.proofs.Cuts.{Cut, Balanced, sized_cut, even_cut}
use Rattle.tile_layout.proofs.Sized.{Sized, sizes_read, below_widest, widest_below, gap}
use Rattle.tile_layout.proofs.Area.{min_cols, max_cols, max_rows, covers, min_rows, tile_area}

-- a layout's first column and first row start at 0
abbrev pub FromZero : TileInfo → Type 0
FromZero t = (get_or t.col_start_sb 0 0 ≡ 0) × (get_or t.row_start_sb 0 0 ≡ 0)

-- its logarithms are at most 6
abbrev pub LowLogs : TileInfo → Type 0
LowLogs t = (t.log2_cols ≤ 6) × (t.log2_rows ≤ 6)

-- demand 3 of an answer, and where an accepted layout begins, with its logarithms
record Met (s : List ℕ) (p : Place) (a : TileArgs) (z : TileRead) : Type 0 where
  demand : Demand3 s p a z
  begins : is_refusal z.answer ≡ false → FromZero z.info
  logs : is_refusal z.answer ≡ false → LowLogs z.info

module _ (s : List ℕ) (p : Place) (old : TileInfo) (a : TileArgs) (d : InDomain a) where
  -- what the two rules have in common
  accepted : (t : TileInfo) (most : ℕ)
      → Cut t.cols (sbw a) (width_limit a) (λ k. get_or t.col_start_sb k 0)
      → Cut t.rows (sbh a) most (λ k. get_or t.row_start_sb k 0)
      → ((get_bit s p).value ≡ 0 → (i j : ℕ) → i < t.cols → j < t.rows → col_size t i * row_size t j ≤ area_limit a)
      → ((get_bit s p).value ≡ 1 → a.frame_code ≡ a.seq_code → Balanced t.cols (λ k. get_or t.col_start_sb k 0))
      → ((get_bit s p).value ≡ 1 → a.frame_code ≡ a.seq_code → Balanced t.rows (λ k. get_or t.row_start_sb k 0))
      → AcceptedLayout s p a t × FromZero t
  accepted t most c r area cols rows = (
    record {
      some_cols = omega (arith, c.some);
      most_cols = omega (arith, c.few);
      some_rows = omega (arith, r.some);
      most_rows = omega (arith, r.few);
      col_not_empty = λ i h. omega (arith, c.filled i h);
      row_not_empty = λ j h. omega (arith, r.filled j h);
      width_limit_lem = λ i h. omega (arith, c.narrow i h);
      cols_add_up = c.adds;
      rows_add_up = r.adds;
      area_limit_lem = λ flag i j h k. omega (arith, area (omega (arith, flag)) i j h k);
      cols_even = λ flag one i k h l. omega (arith, cols (omega (arith, flag)) (omega (arith, one)) i k h l);
      rows_even = λ flag one j k h l. omega (arith, rows (omega (arith, flag)) (omega (arith, one)) j k h l);
    },
    (c.first, r.first),
  )

  uniform_accepted : Uniform s p → (log log-rows : ℕ) → min_log2_cols a ≤ log → log ≤ 6 → log-rows ≤ 6 → AcceptedLayout s p a (uniform_info a log log-rows) × FromZero (uniform_info a log log-rows)
  unfolding uniform_info
  uniform_accepted flag log log-rows lo hi hr =
      let c =
      even_cut _ _ _ d.pair _ _ log (width_limit a) (sbw a) (across a d) hi (omega (arith, (limits a d).some)) (limits a d).half
      (covers a d log lo) _ (start_at_lem _ _ _) (closing_at _ _ _) in
      let r =
      even_cut _ _ _ d.pair _ _ log-rows (2 * sbh a) (sbh a) (down a d) hr (omega (arith, (down a d).some)) (omega arith)
      (omega (arith, le-mul_of_pos_right (2 * sbh a) (pow_pos log-rows))) _ (start_at_lem _ _ _) (closing_at _ _ _) in
      accepted (uniform_info a log log-rows) (2 * sbh a) c.0 r.0 (λ f. absurd (omega arith)) (λ _. c.1) (λ _. r.1)

  -- sizes that fill the frame, the rows' within the limit that the widest column leaves them
  sized_accepted : NonUniform s p → (widths heights : List ℕ) → sum widths ≡ sbw a → sum heights ≡ sbh a
      → Sized 64 (sbw a) (width_limit a) widths → Sized 64 (sbh a) (row_limit a (widest widths)) heights
      → AcceptedLayout s p a (non_uniform_info a old widths heights) × FromZero (non_uniform_info a old widths heights)
  unfolding non_uniform_info
  sized_accepted flag widths heights ws hs w h =
      let col = gap widths (sbw a) ws in
      let row = gap heights (sbh a) hs in
      accepted (non_uniform_info a old widths heights) (row_limit a (widest widths))
      (sized_cut widths (sbw a) (width_limit a) w ws (across a d).some)
      (sized_cut heights (sbh a) (row_limit a (widest widths)) h hs (down a d).some)
      (λ _ i j l m.
      le_trans
      (mul-le-mul {n₂ = widest widths} {m₂ = row_limit a (widest widths)}
      (omega (arith, col i l, below_widest widths i l)) (omega (arith, row j m, h.each j m)))
      (tile_area a d (widest widths) (widest_below widths (width_limit a) (λ k l. (w.each k l).1))))
      (λ f. absurd (omega arith)) (λ f. absurd (omega arith))

  cols_sized : Sized 64 (sbw a) (width_limit a) (cols_read s p a).sizes
  unfolding read_cols
  cols_sized = sizes_read 64 s _ (sbw a) (width_limit a) (omega (arith, (limits a d).some))

  rows_sized : Sized 64 (sbh a) (row_limit a (widest (cols_read s p a).sizes)) (rows_read s p a).sizes
  unfolding read_rows row_limit
  rows_sized = sizes_read 64 s _ (sbh a) _ (omega arith)

  uniform_meets : Uniform s p → Met s p a (uniform_layout s (get_bit s p).next a)
  unfolding uniform_layout uniform_info then
  uniform_meets flag =
      let q = (get_bit s p).next in
      let c = read_log2 s q (min_log2_cols a) (max_log2_cols a) in
      let c≤ = log_read s q (min_log2_cols a) (max_log2_cols a) in
      let least = min_log2_tiles a - c.value in
      let r = read_log2 s c.next least (max_log2_rows a) in
      let r≤ = log_read s c.next least (max_log2_rows a) in
      let c≤6 : c.value ≤ 6 = omega (arith, c≤, min_cols a d, max_cols a d) in
      let r≤6 : r.value ≤ 6 = omega (arith, r≤, min_rows a d c.value c≤.0, max_rows a d) in
      let layout = uniform_accepted flag c.value r.value c≤.0 c≤6 r≤6 in
      record {
        demand = record {
          uniform_never_refused = λ _. refl;
          refused_with_2 = λ f. absurd (omega arith);
          refused_only_then = λ f. absurd (omega arith);
          accepted = λ _. layout.0;
        };
        begins = λ _. layout.1;
        logs = λ _. (c≤6, r≤6);
      }

  -- 64 columns have the logarithm 6
  few_log : (n : ℕ) → n ≤ 64 → tile_log2 1 n ≤ 6
  few_log n h = least 20 1 n 6 (omega arith)

  sized_meets : NonUniform s p → Met s p a (non_uniform_layout s (get_bit s p).next old a)
  unfolding non_uniform_layout non_uniform_info then
  sized_meets flag =
      picked (Met s p a) (ltb (sum (cols_read s p a).sizes) (sbw a)) _ _
      (λ e.
      record {
        demand = record {
          uniform_never_refused = λ f. absurd (omega arith);
          refused_with_2 = λ _ _. refl;
          refused_only_then = λ _ _. inl (ltb-true _ _ e);
          accepted = λ z. contrary refl z;
        };
        begins = λ z. contrary refl z;
        logs = λ z. contrary refl z;
      })
      (λ e.
      let full : sum (cols_read s p a).sizes ≡ sbw a = omega (arith, cols_sized.inside, ltb-false (sum (cols_read s p a).sizes) (sbw a) e) in
      picked (Met s p a) (ltb (sum (rows_read s p a).sizes) (sbh a)) _ _
      (λ g.
      record {
        demand = record {
          uniform_never_refused = λ f. absurd (omega arith);
          refused_with_2 = λ _ _. refl;
          refused_only_then = λ _ _. inr (λ over. omega arith, ltb-true _ _ g);
          accepted = λ z. contrary refl z;
        };
        begins = λ z. contrary refl z;
        logs = λ z. contrary refl z;
      })
      (λ g.
      let layout =
      sized_accepted flag (cols_read s p a).sizes (rows_read s p a).sizes full (omega (arith, rows_sized.inside, ltb-false (sum (rows_read s p a).sizes) (sbh a) g)) cols_sized rows_sized in
      record {
        demand = record {
          uniform_never_refused = λ _. refl;
          refused_with_2 = λ _. ⊎_elim (λ over. absurd (omega arith)) (λ over. absurd (omega (arith, ltb-false (sum (rows_read s p a).sizes) (sbh a) g)));
          refused_only_then = λ _ z. contrary z refl;
          accepted = λ _. layout.0;
        };
        begins = λ _. layout.1;
        logs = λ _. (few_log _ cols_sized.few, few_log _ rows_sized.few);
      }))

  read_meets : Met s p a (pick (eqb (get_bit s p).value 1) (uniform_layout s (get_bit s p).next a) (non_uniform_layout s (get_bit s p).next old a))
  read_meets =
      picked (Met s p a) (eqb (get_bit s p).value 1) _ _
      (λ e. uniform_meets (eqb-true _ _ e))
      (λ e. sized_meets (omega (arith, bit_lt s p, eqb-false (get_bit s p).value 1 e)))

-- whatever the bytes, wherever the reader stands and whatever the record given holds
module _ (s : List ℕ) (p : Place) (old : TileInfo) (a : TileArgs) where
  -- for all arguments in the domain
  met : in_domain a ≡ true → Met s p a (parse_tile_info s p old a)
  unfolding parse_tile_info get_flag then
  met e = subst (Met s p a) (sym (taken (in_domain a) _ _ e)) (read_meets s p old a (domain a e))

  pub demand_3 : in_domain a ≡ true → Demand3 s p a (parse_tile_info s p old a)
  demand_3 e = (met e).demand

  -- an accepted layout was read for arguments in the domain
  pub accepted_in : is_refusal (parse_tile_info s p old a).answer ≡ false → in_domain a ≡ true
  unfolding parse_tile_info
  accepted_in e = by (in_domain a) refl
    where
      by : (d : Bool) → in_domain a ≡ d → in_domain a ≡ true
      by true d = d
      by false d = contrary (ap (λ (z : TileRead). is_refusal z.answer) (left _ _ _ d)) e

  -- so all that is said of one holds of it
  pub all_accepted : is_refusal (parse_tile_info s p old a).answer ≡ false → AcceptedLayout s p a (parse_tile_info s p old a).info
  all_accepted e = (demand_3 (accepted_in e)).accepted e

  pub from_zero : is_refusal (parse_tile_info s p old a).answer ≡ false → FromZero (parse_tile_info s p old a).info
  from_zero e = (met (accepted_in e)).begins e

  pub low_logs : is_refusal (parse_tile_info s p old a).answer ≡ false → LowLogs (parse_tile_info s p old a).info
  low_logs e = (met (accepted_in e)).logs e
