-- The fields of a record as numbers, one layout a kind.
use Rattle.std.specs.Prelude.{ℕ, ◌+◌, ◌^◌, Bool, ◌&&◌, List, [], ◌∷◌, ◌++◌, ltb, if◌then◌else◌}
use Rattle.bits.specs.Signed.{twos_of}
use Rattle.kind_frame_packing.specs.declared.FramePacking.{FramePacking}
use Rattle.kind_orientation.specs.declared.Orientation.{Orientation}
use Rattle.kind_equirectangular.specs.declared.Equirectangular.{Equirectangular}
use Rattle.kind_rotation.specs.declared.Rotation.{Rotation}
use Rattle.kind_region_wise.specs.declared.RegionWise.{RegionWise}
use Rattle.kind_region_wise.specs.declared.region.Region.{Region}
use Rattle.kind_alpha.specs.declared.Alpha.{Alpha}
use Rattle.kind_depth.specs.declared.Depth.{Depth}
use Rattle.kind_depth.specs.declared.element.DepthValue.{DepthValue}
use Rattle.kind_user_data.specs.declared.registered.Registered.{Registered}
use Rattle.kind_user_data.specs.declared.unregistered.Unregistered.{Unregistered}
use Rattle.answers.specs.declared.Beside.{Beside}
use Rattle.answers.specs.declared.kind.LastingMessage.{LastingMessage}
use Rattle.answers.specs.declared.kind.LastingMessage.TheVariants as lasting
use Rattle.answers.specs.declared.kind.PassingMessage.{PassingMessage}
use Rattle.answers.specs.declared.kind.PassingMessage.TheVariants as passing
use Rattle.answers.specs.declared.kind.Message.{Message}
use Rattle.answers.specs.declared.kind.Message.TheVariants.{Nothing, Lasting, Passing}
use Rattle.numbers.specs.Degrees.{degree_bits}
use Rattle.numbers.specs.Depth.{coded_bits}
use Rattle.numbers.specs.declared.depth.DepthNumber.{DepthNumber}
use Rattle.numbers.specs.declared.depth.DepthNumber.TheVariants.{Absent, Unspecified, Number}

abbrev pub frame_packing_fields : FramePacking → List ℕ
frame_packing_fields a =
    a.fp_arrangement_id
    ∷ a.fp_arrangement_cancel_flag
    ∷ a.layout.fp_arrangement_type
    ∷ a.layout.fp_quincunx_sampling_flag
    ∷ a.layout.fp_content_interpretation_type
    ∷ a.layout.flags.fp_spatial_flipping_flag
    ∷ a.layout.flags.fp_frame0_flipped_flag
    ∷ a.layout.flags.fp_field_views_flag
    ∷ a.layout.flags.fp_current_frame_is_frame0_flag
    ∷ a.layout.flags.fp_frame0_self_contained_flag
    ∷ a.layout.flags.fp_frame1_self_contained_flag
    ∷ a.layout.grid.fp_frame0_grid_position_x
    ∷ a.layout.grid.fp_frame0_grid_position_y
    ∷ a.layout.grid.fp_frame1_grid_position_x
    ∷ a.layout.grid.fp_frame1_grid_position_y
    ∷ a.layout.fp_arrangement_persistence_flag
    ∷ a.fp_upsampled_aspect_ratio_flag
    ∷ []

abbrev pub orientation_fields : Orientation → List ℕ
orientation_fields a = a.display_orientation_cancel_flag ∷ a.display_orientation_persistence_flag ∷ a.display_orientation_transform_type ∷ []

abbrev pub equirectangular_fields : Equirectangular → List ℕ
equirectangular_fields a = a.erp_cancel_flag ∷ a.erp_persistence_flag ∷ a.erp_guard_band_flag ∷ a.erp_guard_band_type ∷ a.erp_left_guard_band_width ∷ a.erp_right_guard_band_width ∷ []

-- the angles as coded, in two's complement, and the bits of their degrees
abbrev pub rotation_fields : Rotation → List ℕ
rotation_fields a =
    a.sphere_rotation_cancel_flag
    ∷ a.sphere_rotation_persistence_flag
    ∷ twos_of a.yaw_rotation
    ∷ twos_of a.pitch_rotation
    ∷ twos_of a.roll_rotation
    ∷ degree_bits a.yaw_rotation
    ∷ degree_bits a.pitch_rotation
    ∷ degree_bits a.roll_rotation
    ∷ []

abbrev pub region_fields : Region → List ℕ
region_fields a =
    a.rwp_transform_type
    ∷ a.rwp_guard_band_flag
    ∷ a.projected.rwp_proj_region_width
    ∷ a.projected.rwp_proj_region_height
    ∷ a.projected.rwp_proj_region_top
    ∷ a.projected.rwp_proj_region_left
    ∷ a.packed.rwp_packed_region_width
    ∷ a.packed.rwp_packed_region_height
    ∷ a.packed.rwp_packed_region_top
    ∷ a.packed.rwp_packed_region_left
    ∷ a.guard.rwp_left_guard_band_width
    ∷ a.guard.rwp_right_guard_band_width
    ∷ a.guard.rwp_top_guard_band_height
    ∷ a.guard.rwp_bottom_guard_band_height
    ∷ a.guard.rwp_guard_band_not_used_for_pred_flag
    ∷ a.guard.types.left
    ∷ a.guard.types.right
    ∷ a.guard.types.top
    ∷ a.guard.types.bottom
    ∷ []

abbrev pub regions_fields : List Region → List ℕ
regions_fields [] = []
regions_fields (r ∷ rs) = region_fields r ++ regions_fields rs

-- what stands before the regions
abbrev pub head_fields : RegionWise → List ℕ
head_fields a =
    a.rwp_cancel_flag
    ∷ a.rwp_persistence_flag
    ∷ a.rwp_constituent_picture_matching_flag
    ∷ a.rwp_num_packed_regions
    ∷ a.rwp_proj_picture_width
    ∷ a.rwp_proj_picture_height
    ∷ a.rwp_packed_picture_width
    ∷ a.rwp_packed_picture_height
    ∷ []

-- every entry of the regions, whatever the count
abbrev pub region_wise_fields : RegionWise → List ℕ
region_wise_fields a = head_fields a ++ regions_fields a.regions

abbrev pub alpha_fields : Alpha → List ℕ
alpha_fields a =
    a.alpha_channel_cancel_flag
    ∷ a.alpha_channel_use_idc
    ∷ a.alpha_channel_bit_depth_minus8
    ∷ a.alpha_transparent_value
    ∷ a.alpha_opaque_value
    ∷ a.alpha_channel_incr_flag
    ∷ a.alpha_channel_clip_flag
    ∷ a.alpha_channel_clip_type_flag
    ∷ []

abbrev pub state_of : DepthNumber → ℕ
state_of Absent = 0
state_of Unspecified = 1
state_of (Number x) = 2

-- the parts are of the widths that an element codes; every record that a reader hands out has such parts
abbrev pub coded : ℕ → ℕ → ℕ → ℕ → Bool
coded sign exponent length-minus1 mantissa =
    ltb sign 2 && (ltb exponent 128 && (ltb length-minus1 32 && ltb mantissa (2 ^ (length-minus1 + 1))))

-- the 64 bits of the number that the parts stand for, and 0 where they stand for none
abbrev pub depth_bits_of : ℕ → ℕ → ℕ → ℕ → ℕ
depth_bits_of sign exponent length-minus1 mantissa =
    if coded sign exponent length-minus1 mantissa then coded_bits sign exponent length-minus1 mantissa else 0

abbrev pub value_fields : DepthValue → List ℕ
value_fields a =
    a.da_sign_flag
    ∷ a.da_exponent
    ∷ a.da_mantissa_len_minus1
    ∷ a.da_mantissa
    ∷ state_of a.number
    ∷ depth_bits_of a.da_sign_flag a.da_exponent a.da_mantissa_len_minus1 a.da_mantissa
    ∷ []

-- what stands before the four numbers
abbrev pub presence_fields : Depth → List ℕ
presence_fields a =
    a.z_near_flag
    ∷ a.z_far_flag
    ∷ a.d_min_flag
    ∷ a.d_max_flag
    ∷ a.depth_representation_type
    ∷ a.disparity_ref_view_id
    ∷ []

-- every entry of the list, whatever the count
abbrev pub depth_fields : Depth → List ℕ
depth_fields a =
    presence_fields a
    ++ (value_fields a.z_near
    ++ (value_fields a.z_far
    ++ (value_fields a.d_min
    ++ (value_fields a.d_max
    ++ (a.count ∷ a.depth_nonlinear_representation_model)))))

abbrev pub registered_fields : Registered → List ℕ
registered_fields a = a.itu_t_t35_country_code ∷ a.itu_t_t35_country_code_extension_byte ∷ []

abbrev pub unregistered_fields : Unregistered → List ℕ
unregistered_fields a = a.uuid_iso_iec_11578

-- ---- of a message, and of the record that stands beside it

abbrev pub lasting_fields : Beside → LastingMessage → List ℕ
lasting_fields b (lasting.FramePacking m) = frame_packing_fields m
lasting_fields b (lasting.Orientation m) = orientation_fields m
lasting_fields b (lasting.Equirectangular m) = equirectangular_fields m
lasting_fields b (lasting.Rotation m) = rotation_fields m
lasting_fields b lasting.RegionWise = region_wise_fields b.region_wise

abbrev pub passing_fields : Beside → PassingMessage → List ℕ
passing_fields b (passing.Alpha m) = alpha_fields m
passing_fields b passing.Depth = depth_fields b.depth
passing_fields b (passing.Registered m) = registered_fields m
passing_fields b passing.Unregistered = unregistered_fields b.unregistered

abbrev pub record_fields : Beside → Message → List ℕ
record_fields b Nothing = []
record_fields b (Lasting m) = lasting_fields b m
record_fields b (Passing m) = passing_fields b m
