-- Kind 45: H.274 8.6.1, frame_packing_arrangement( payloadSize ).
use Rattle.std.specs.Prelude.{not, ◌&&◌, eqb}
use Rattle.format.specs.Format.{Format, done, ◌>>=◌}
use Rattle.format.specs.Syntax.{u, ue, ◌at◌, ignored, when}
use Rattle.kind_frame_packing.specs.declared.FramePacking.{FramePacking}
use Rattle.kind_frame_packing.specs.declared.grid.Grid.{Grid}
use Rattle.kind_frame_packing.specs.declared.layout.Layout.{Layout}

-- the grid positions
abbrev pub positions : Format FramePacking Grid
positions = do
  fp_frame0_grid_position_x ← u 4 at (λ r. r.layout.grid.fp_frame0_grid_position_x)
  fp_frame0_grid_position_y ← u 4 at (λ r. r.layout.grid.fp_frame0_grid_position_y)
  fp_frame1_grid_position_x ← u 4 at (λ r. r.layout.grid.fp_frame1_grid_position_x)
  fp_frame1_grid_position_y ← u 4 at (λ r. r.layout.grid.fp_frame1_grid_position_y)
  done
      (record {
        fp_frame0_grid_position_x = fp_frame0_grid_position_x;
        fp_frame0_grid_position_y = fp_frame0_grid_position_y;
        fp_frame1_grid_position_x = fp_frame1_grid_position_x;
        fp_frame1_grid_position_y = fp_frame1_grid_position_y;
      })

-- what a message carries unless it cancels
abbrev pub carried : Format FramePacking Layout
carried = do
  fp_arrangement_type ← u 7 at (λ r. r.layout.fp_arrangement_type)
  fp_quincunx_sampling_flag ← u 1 at (λ r. r.layout.fp_quincunx_sampling_flag)
  fp_content_interpretation_type ← u 6 at (λ r. r.layout.fp_content_interpretation_type)
  fp_spatial_flipping_flag ← u 1 at (λ r. r.layout.flags.fp_spatial_flipping_flag)
  fp_frame0_flipped_flag ← u 1 at (λ r. r.layout.flags.fp_frame0_flipped_flag)
  fp_field_views_flag ← u 1 at (λ r. r.layout.flags.fp_field_views_flag)
  fp_current_frame_is_frame0_flag ← u 1 at (λ r. r.layout.flags.fp_current_frame_is_frame0_flag)
  fp_frame0_self_contained_flag ← u 1 at (λ r. r.layout.flags.fp_frame0_self_contained_flag)
  fp_frame1_self_contained_flag ← u 1 at (λ r. r.layout.flags.fp_frame1_self_contained_flag)
  grid ← when (eqb fp_quincunx_sampling_flag 0 && not (eqb fp_arrangement_type 5)) positions
  fp_arrangement_reserved_byte ← ignored 8
  fp_arrangement_persistence_flag ← u 1 at (λ r. r.layout.fp_arrangement_persistence_flag)
  done
      (record {
        fp_arrangement_type = fp_arrangement_type;
        fp_quincunx_sampling_flag = fp_quincunx_sampling_flag;
        fp_content_interpretation_type = fp_content_interpretation_type;
        flags =
            record {
              fp_spatial_flipping_flag = fp_spatial_flipping_flag;
              fp_frame0_flipped_flag = fp_frame0_flipped_flag;
              fp_field_views_flag = fp_field_views_flag;
              fp_current_frame_is_frame0_flag = fp_current_frame_is_frame0_flag;
              fp_frame0_self_contained_flag = fp_frame0_self_contained_flag;
              fp_frame1_self_contained_flag = fp_frame1_self_contained_flag;
            };
        grid = grid;
        fp_arrangement_persistence_flag = fp_arrangement_persistence_flag;
      })

abbrev pub table : Format FramePacking FramePacking
table = do
  fp_arrangement_id ← ue at (λ r. r.fp_arrangement_id)
  fp_arrangement_cancel_flag ← u 1 at (λ r. r.fp_arrangement_cancel_flag)
  layout ← when (eqb fp_arrangement_cancel_flag 0) carried
  fp_upsampled_aspect_ratio_flag ← u 1 at (λ r. r.fp_upsampled_aspect_ratio_flag)
  done
      (record {
        fp_arrangement_id = fp_arrangement_id;
        fp_arrangement_cancel_flag = fp_arrangement_cancel_flag;
        layout = layout;
        fp_upsampled_aspect_ratio_flag = fp_upsampled_aspect_ratio_flag;
      })

-- the table under a name that stays shut: callers go by laws
unfoldable pub frame_packing : Format FramePacking FramePacking
frame_packing = table
