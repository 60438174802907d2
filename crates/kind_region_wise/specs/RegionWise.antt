-- Kind 155: H.274 8.15.5.1, regionwise_packing( payloadSize ).
use Rattle.std.specs.Prelude.{ℕ, ◌≡◌, ◌≢◌, leb, eqb}
use Rattle.bits.specs.Refusals.{Verdict, too_many}
use Rattle.format.specs.Format.{Format, done, ◌>>=◌, ◌of◌, zeros}
use Rattle.format.specs.Syntax.{u, guard_type, ◌at◌, ignored, ◌must◌, ◌unless◌, ◌also◌, at_least, usable, when, listed}
use Rattle.kind_region_wise.specs.declared.RegionWise.{RegionWise}
use Rattle.kind_region_wise.specs.declared.region.Region.{Region}

-- the most regions that a message may have
abbrev pub most : ℕ
most = 16

-- a count of regions: 5 where it is 0, 6 above the limit
abbrev pub countable : ℕ → Verdict
countable count = at_least 1 count also (too_many unless leb count most)

-- one region: what stands in the loop over them
abbrev pub region_table : Format Region Region
region_table = do
  rwp_reserved_zero_4bits ← ignored 4
  rwp_transform_type ← u 3 at (λ r. r.rwp_transform_type)
  rwp_guard_band_flag ← u 1 at (λ r. r.rwp_guard_band_flag)
  rwp_proj_region_width ← u 32 at (λ r. r.projected.rwp_proj_region_width)
  rwp_proj_region_height ← u 32 at (λ r. r.projected.rwp_proj_region_height)
  rwp_proj_region_top ← u 32 at (λ r. r.projected.rwp_proj_region_top)
  rwp_proj_region_left ← u 32 at (λ r. r.projected.rwp_proj_region_left)
  rwp_packed_region_width ← u 16 at (λ r. r.packed.rwp_packed_region_width)
  rwp_packed_region_height ← u 16 at (λ r. r.packed.rwp_packed_region_height)
  rwp_packed_region_top ← u 16 at (λ r. r.packed.rwp_packed_region_top)
  rwp_packed_region_left ← u 16 at (λ r. r.packed.rwp_packed_region_left)
  when (eqb rwp_guard_band_flag 1) (do
    rwp_left_guard_band_width ← u 8 at (λ r. r.guard.rwp_left_guard_band_width)
    rwp_right_guard_band_width ← u 8 at (λ r. r.guard.rwp_right_guard_band_width)
    rwp_top_guard_band_height ← u 8 at (λ r. r.guard.rwp_top_guard_band_height)
    rwp_bottom_guard_band_height ← u 8 at (λ r. r.guard.rwp_bottom_guard_band_height)
    rwp_guard_band_not_used_for_pred_flag ← u 1 at (λ r. r.guard.rwp_guard_band_not_used_for_pred_flag)
    -- rwp_guard_band_type[ i ][ j ] for j = 0, 1, 2, 3
    left ← guard_type must usable rwp_guard_band_not_used_for_pred_flag at (λ r. r.guard.types.left)
    right ← guard_type must usable rwp_guard_band_not_used_for_pred_flag at (λ r. r.guard.types.right)
    top ← guard_type must usable rwp_guard_band_not_used_for_pred_flag at (λ r. r.guard.types.top)
    bottom ← guard_type must usable rwp_guard_band_not_used_for_pred_flag at (λ r. r.guard.types.bottom)
    rwp_guard_band_reserved_zero_3bits ← ignored 3
    done
        (record {
          rwp_transform_type = rwp_transform_type;
          rwp_guard_band_flag = rwp_guard_band_flag;
          projected =
              record {
                rwp_proj_region_width = rwp_proj_region_width;
                rwp_proj_region_height = rwp_proj_region_height;
                rwp_proj_region_top = rwp_proj_region_top;
                rwp_proj_region_left = rwp_proj_region_left;
              };
          packed =
              record {
                rwp_packed_region_width = rwp_packed_region_width;
                rwp_packed_region_height = rwp_packed_region_height;
                rwp_packed_region_top = rwp_packed_region_top;
                rwp_packed_region_left = rwp_packed_region_left;
              };
          guard =
              record {
                rwp_left_guard_band_width = rwp_left_guard_band_width;
                rwp_right_guard_band_width = rwp_right_guard_band_width;
                rwp_top_guard_band_height = rwp_top_guard_band_height;
                rwp_bottom_guard_band_height = rwp_bottom_guard_band_height;
                rwp_guard_band_not_used_for_pred_flag = rwp_guard_band_not_used_for_pred_flag;
                types = record { left = left; right = right; top = top; bottom = bottom };
              };
        }))

-- a table under a name that stays shut: callers go by laws
unfoldable pub region : Format Region Region
region = region_table

abbrev pub table : Format RegionWise RegionWise
table = do
  rwp_cancel_flag ← u 1 at (λ r. r.rwp_cancel_flag)
  when (eqb rwp_cancel_flag 0) (do
    rwp_persistence_flag ← u 1 at (λ r. r.rwp_persistence_flag)
    rwp_constituent_picture_matching_flag ← u 1 at (λ r. r.rwp_constituent_picture_matching_flag)
    rwp_reserved_zero_5bits ← ignored 5
    rwp_num_packed_regions ← u 8 must countable at (λ r. r.rwp_num_packed_regions)
    rwp_proj_picture_width ← u 32 must at_least 1 at (λ r. r.rwp_proj_picture_width)
    rwp_proj_picture_height ← u 32 must at_least 1 at (λ r. r.rwp_proj_picture_height)
    rwp_packed_picture_width ← u 16 must at_least 1 at (λ r. r.rwp_packed_picture_width)
    rwp_packed_picture_height ← u 16 must at_least 1 at (λ r. r.rwp_packed_picture_height)
    regions ← listed most rwp_num_packed_regions region of (λ r. r.regions)
    done
        (record {
          rwp_cancel_flag = rwp_cancel_flag;
          rwp_persistence_flag = rwp_persistence_flag;
          rwp_constituent_picture_matching_flag = rwp_constituent_picture_matching_flag;
          rwp_num_packed_regions = rwp_num_packed_regions;
          rwp_proj_picture_width = rwp_proj_picture_width;
          rwp_proj_picture_height = rwp_proj_picture_height;
          rwp_packed_picture_width = rwp_packed_picture_width;
          rwp_packed_picture_height = rwp_packed_picture_height;
          regions = regions;
        }))

unfoldable pub region_wise : Format RegionWise RegionWise
region_wise = table

-- ---- a cancel is its flag and nothing else

-- a record, but for that flag
abbrev pub uncancelled : RegionWise → RegionWise
uncancelled a =
    record {
      rwp_cancel_flag = 0;
      rwp_persistence_flag = a.rwp_persistence_flag;
      rwp_constituent_picture_matching_flag = a.rwp_constituent_picture_matching_flag;
      rwp_num_packed_regions = a.rwp_num_packed_regions;
      rwp_proj_picture_width = a.rwp_proj_picture_width;
      rwp_proj_picture_height = a.rwp_proj_picture_height;
      rwp_packed_picture_width = a.rwp_packed_picture_width;
      rwp_packed_picture_height = a.rwp_packed_picture_height;
      regions = a.regions;
    }

abbrev pub BareCancel : RegionWise → Type 0
BareCancel a = a.rwp_cancel_flag ≢ 0 → uncancelled a ≡ zeros table
