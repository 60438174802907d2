-- Tables at their edges, as closed computations.
-- Assumes nothing.
use Prim.Native.Nat.{ℕ}
use mathlib.Core.Path.{◌≡◌, refl}
use mathlib.Core.List.{[], ◌∷◌}
use Rattle.bits.specs.Refusals.{by_slot, by_table}
use Rattle.format.specs.Syntax.{padded}
use Rattle.kind_frame_packing.specs.FramePacking as frame-packing
use Rattle.format.specs.Format.{zeros}
use Rattle.kind_region_wise.specs.RegionWise.{most, region_table}
use Rattle.kind_region_wise.specs.declared.RegionWise.{RegionWise}
use Rattle.region_table.specs.Rows.{rows_of, row_count, table_of, refuses}
use Rattle.std.specs.Prelude.{Ok}
use Rattle.held.specs.Lasting.{orientation, equirectangular, rotation}
use Rattle.held.specs.Held.{nothing, none_of}
use Rattle.held.specs.declared.Held.{Held}
use Rattle.slots.specs.Slots.{start, slot_at, is_open, closed_slot, lifted}
use Rattle.region_table.specs.Table.{split_of, table_of_held, table_in}

-- 8 for a slot that is closed
shut-table : table_in start 0 1000 ≡ refuses by_slot
unfolding lifted start slot_at is_open closed_slot
shut-table = refl

-- one region, in pictures of 100 by 50 and 31 by 7
abbrev packing : ℕ → RegionWise
packing matching =
    record {
      rwp_cancel_flag = 0;
      rwp_persistence_flag = 1;
      rwp_constituent_picture_matching_flag = matching;
      rwp_num_packed_regions = 1;
      rwp_proj_picture_width = 100;
      rwp_proj_picture_height = 50;
      rwp_packed_picture_width = 31;
      rwp_packed_picture_height = 7;
      regions =
          padded most (zeros region_table)
          (record {
            rwp_transform_type = 9;
            rwp_guard_band_flag = 0;
            projected = record { rwp_proj_region_width = 3; rwp_proj_region_height = 4; rwp_proj_region_top = 2; rwp_proj_region_left = 1 };
            packed = record { rwp_packed_region_width = 7; rwp_packed_region_height = 8; rwp_packed_region_top = 6; rwp_packed_region_left = 5 };
            guard = (zeros region_table).guard;
          }
          ∷ []);
    }

abbrev with45 : ℕ → ℕ → ℕ → Held
with45 on type matching =
    record {
      frame_packing =
          record {
            on = on;
            value =
                record {
                  fp_arrangement_id = 0;
                  fp_arrangement_cancel_flag = 0;
                  layout = record { fp_arrangement_type = type; fp_quincunx_sampling_flag = 1; fp_content_interpretation_type = 1; flags = (zeros frame-packing.table).layout.flags; grid = (zeros frame-packing.table).layout.grid; fp_arrangement_persistence_flag = 1 };
                  fp_upsampled_aspect_ratio_flag = 0;
                };
          };
      orientation = none_of orientation;
      equirectangular = none_of equirectangular;
      rotation = none_of rotation;
      region_wise = record { on = 1; value = packing matching };
    }

-- type 3: the second row is to the right by half of 100 and half of 31; quincunx is not looked at
beside : table_of_held (with45 1 3 1) 18 ≡ record { answer = Ok 2; rows = 1 ∷ 2 ∷ 3 ∷ 4 ∷ 5 ∷ 6 ∷ 7 ∷ 8 ∷ 9 ∷ 51 ∷ 2 ∷ 3 ∷ 4 ∷ 20 ∷ 6 ∷ 7 ∷ 8 ∷ 9 ∷ [] }
unfolding table_of_held split_of table_of rows_of row_count
beside = refl

-- type 4: lower by half of 50 and half of 7
below : table_of_held (with45 1 4 1) 18 ≡ record { answer = Ok 2; rows = 1 ∷ 2 ∷ 3 ∷ 4 ∷ 5 ∷ 6 ∷ 7 ∷ 8 ∷ 9 ∷ 1 ∷ 27 ∷ 3 ∷ 4 ∷ 5 ∷ 9 ∷ 7 ∷ 8 ∷ 9 ∷ [] }
unfolding table_of_held split_of table_of rows_of row_count
below = refl

-- with the flag, 9 for type 5 and where no kind 45 is held; without it, neither is looked at
type-5 : table_of_held (with45 1 5 1) 18 ≡ refuses by_table
unfolding table_of_held split_of
type-5 = refl

no-45 : table_of_held (with45 0 3 1) 18 ≡ refuses by_table
unfolding table_of_held split_of
no-45 = refl

unflagged : table_of_held (with45 0 5 0) 9 ≡ record { answer = Ok 1; rows = 1 ∷ 2 ∷ 3 ∷ 4 ∷ 5 ∷ 6 ∷ 7 ∷ 8 ∷ 9 ∷ [] }
unfolding table_of_held split_of table_of rows_of row_count
unflagged = refl

-- nothing of kind 155
no-155 : table_of_held nothing 1000 ≡ refuses by_table
unfolding table_of_held nothing none_of
no-155 = refl
