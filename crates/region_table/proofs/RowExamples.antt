-- Tables of small packings: their rows, and what they leave of the lent numbers.
-- Assumes nothing.
use Prim.Native.Nat.{ℕ, ◌+◌}
use mathlib.Core.Path.{◌≡◌, refl}
use mathlib.Core.List.{List, [], ◌∷◌}
use lib.ListN.{replicate}
use Rattle.bits.specs.Refusals.{by_table, by_rows}
use Rattle.format.specs.Syntax.{padded}
use Rattle.format.specs.Format.{zeros}
use Rattle.kind_region_wise.specs.RegionWise.{most, region_table}
use Rattle.kind_region_wise.specs.declared.region.Region.{Region}
use Rattle.kind_region_wise.specs.declared.RegionWise.{RegionWise}
use Rattle.region_table.specs.declared.rows.Split.TheVariants.{Whole, Beside, Below}
use Rattle.std.specs.Prelude.{Ok, Err}
use Rattle.region_table.specs.Rows.{rows_of, row_count, table_of, refuses, wrote}
use Rattle.lent.specs.Lent.{left}

abbrev packing : (count width height : ℕ) → List Region → RegionWise
packing count width height rs =
    record {
      rwp_cancel_flag = 0;
      rwp_persistence_flag = 1;
      rwp_constituent_picture_matching_flag = 1;
      rwp_num_packed_regions = count;
      rwp_proj_picture_width = width;
      rwp_proj_picture_height = height;
      rwp_packed_picture_width = 1;
      rwp_packed_picture_height = 7;
      regions = padded most (zeros region_table) rs;
    }

-- every number of it is told from the others
abbrev told : Region
told =
    record {
      rwp_transform_type = 5;
      rwp_guard_band_flag = 0;
      projected = record { rwp_proj_region_width = 30; rwp_proj_region_height = 40; rwp_proj_region_top = 20; rwp_proj_region_left = 10 };
      packed = record { rwp_packed_region_width = 3; rwp_packed_region_height = 4; rwp_packed_region_top = 2; rwp_packed_region_left = 1 };
      guard = (zeros region_table).guard;
    }

-- at the right edge of what 32 bits say
abbrev last : Region
last =
    record {
      rwp_transform_type = 0;
      rwp_guard_band_flag = 0;
      projected = record { rwp_proj_region_width = 1; rwp_proj_region_height = 1; rwp_proj_region_top = 0; rwp_proj_region_left = 4294967295 };
      packed = record { rwp_packed_region_width = 1; rwp_packed_region_height = 1; rwp_packed_region_top = 0; rwp_packed_region_left = 0 };
      guard = (zeros region_table).guard;
    }

abbrev marks : List ℕ
marks = replicate 20 99

-- one region, no second half: nine numbers are written, and the eleven past them stay
once : wrote (table_of (packing 1 100 50 (told ∷ [])) Whole 20) marks ≡ left (Ok 1) (10 ∷ 20 ∷ 30 ∷ 40 ∷ 1 ∷ 2 ∷ 3 ∷ 4 ∷ 5 ∷ replicate 11 99)
unfolding table_of rows_of row_count
once = refl

-- the second row is lower by half of 51 and half of 7
under : wrote (table_of (packing 1 100 51 (told ∷ [])) Below 20) marks
    ≡ left (Ok 2) (10 ∷ 20 ∷ 30 ∷ 40 ∷ 1 ∷ 2 ∷ 3 ∷ 4 ∷ 5 ∷ 10 ∷ 45 ∷ 30 ∷ 40 ∷ 1 ∷ 5 ∷ 3 ∷ 4 ∷ 5 ∷ 99 ∷ 99 ∷ [])
unfolding table_of rows_of row_count
under = refl

-- half a picture of 2 ^ 32 - 1 takes a left of 2 ^ 32 - 1 past 32 bits; half a picture of 1 is 0
wide : rows_of (packing 2 4294967295 50 (told ∷ last ∷ [])) Beside
    ≡ 10 ∷ 20 ∷ 30 ∷ 40 ∷ 1 ∷ 2 ∷ 3 ∷ 4 ∷ 5
    ∷ 4294967295 ∷ 0 ∷ 1 ∷ 1 ∷ 0 ∷ 0 ∷ 1 ∷ 1 ∷ 0
    ∷ 2147483657 ∷ 20 ∷ 30 ∷ 40 ∷ 1 ∷ 2 ∷ 3 ∷ 4 ∷ 5
    ∷ 6442450942 ∷ 0 ∷ 1 ∷ 1 ∷ 0 ∷ 0 ∷ 1 ∷ 1 ∷ 0
    ∷ []
unfolding rows_of
wide = refl

-- two rows are 18 numbers: 17 are too few, and none is written
short : wrote (table_of (packing 1 100 50 (told ∷ [])) Beside 17) (replicate 17 99) ≡ left (Err by_rows) (replicate 17 99)
unfolding table_of rows_of row_count
short = refl

-- no region, and one more than a record holds
none : table_of (packing 0 100 50 []) Whole 20 ≡ refuses by_table
unfolding table_of
none = refl

one-too-many : table_of (packing (most + 1) 100 50 (replicate most told)) Whole 1000 ≡ refuses by_table
unfolding table_of
one-too-many = refl
