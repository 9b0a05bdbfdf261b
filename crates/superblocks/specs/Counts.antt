-- What a pair of codes and counts of superblocks say: document 01, "Domain", parse_tile_info and parse_tile_info_frmhdr.
use Rattle.std.specs.Prelude.{ℕ, ◌+◌, ◌-◌, ◌*◌, ◌/◌, ◌^◌, min, Bool, ◌&&◌, ◌==◌, nat_lt}
use Rattle.getbits.specs.Chain.{pick}
use Rattle.tile_layout.specs.Limits.{size}

-- the multiplier: 2 for the pair (1,2), else 1
unfoldable pub multiplier_of : ℕ → ℕ → ℕ
multiplier_of frame_code_lem seq_code = pick (frame_code_lem == 1 && seq_code == 2) 2 1

-- the size of a superblock for every code: one above 2, outside the domain, counts as 2
abbrev pub size_of : ℕ → ℕ
size_of code = size (min code 2)

-- a uniform layout fits along n of the frame's superblocks if, with cols = 2^log2 and tile_w = ceil(n / cols), tile_w * (cols - 1) is below n
unfoldable pub fits_uniform : ℕ → ℕ → Bool
fits_uniform log2 n = nat_lt ((n + (2 ^ log2 - 1)) / 2 ^ log2 * (2 ^ log2 - 1)) n
