-- The payloads of RULES 14 marked *, each with the whole answer that the rules give it.
use Rattle.std.specs.Prelude.{ℕ, ◌≡◌, List, [], ◌∷◌, ◌++◌, ℤ, pos, length, replicate}
use Rattle.std.specs.Float.{binary64}
use Rattle.std.specs.Float.Ieee.{of_bits}
use Rattle.bits.specs.declared.refusal.Refusal.TheVariants.{Short, Rule, Tail}
use Rattle.numbers.specs.declared.depth.DepthNumber.TheVariants.{Absent, Number}
use Rattle.kind_frame_packing.specs.declared.FramePacking.{FramePacking}
use Rattle.kind_equirectangular.specs.declared.Equirectangular.{Equirectangular}
use Rattle.kind_rotation.specs.declared.Rotation.{Rotation}
use Rattle.kind_alpha.specs.declared.Alpha.{Alpha}
use Rattle.kind_depth.specs.declared.Depth.{Depth}
use Rattle.kind_depth.specs.Depth.{most}
use Rattle.kind_depth.specs.declared.element.DepthValue.{DepthValue}
use Rattle.answers.specs.declared.kind.Kind.TheVariants as kinds
use Rattle.answers.specs.declared.Answer.{Answer}
use Rattle.answers.specs.declared.Outcome.TheVariants.{Taken}
use Rattle.answers.specs.Answer.{made, refused_as}
use Rattle.reader.specs.Reader.{answer_to}

pub record Row : Type 0 where
  pub kind : ℕ
  pub bytes : List ℕ
  pub answer : Answer

-- the answer to the row's bytes, all of them the payload, is the row's
abbrev pub Answered : Row → Type 0
Answered row = answer_to row.kind (length row.bytes) row.bytes ≡ row.answer

infixr 20 ◌and◌
pub data All {A : Type 0} (P : A → Type 0) : List A → Type 0 where
  end : All P []
  ◌and◌ : {x : A} {xs : List A} → P x → All P xs → All P (x ∷ xs)

-- ---- 154

-- a rotation with no yaw and no roll; the pitch's degrees by their bits
abbrev pub pitched : (cancel persistence : ℕ) → ℤ → ℕ → Rotation
pitched cancel persistence pitch bits =
    record {
      sphere_rotation_cancel_flag = cancel;
      sphere_rotation_persistence_flag = persistence;
      yaw_rotation = pos 0;
      pitch_rotation = pitch;
      roll_rotation = pos 0;
      degrees = record { yaw = of_bits binary64 0; pitch = of_bits binary64 bits; roll = of_bits binary64 0 };
    }

-- 90 degrees are 5,898,240 parts of 1/65,536, and 1.40625 × 2 ^ 6
abbrev pub rotations : List Row
rotations =
    record { kind = 154; bytes = 0xc0 ∷ []; answer = made kinds.Rotation Taken (pitched 1 0 (pos 0) 0) 0 }
    ∷ record { kind = 154; bytes = 0x80 ∷ []; answer = refused_as kinds.Rotation Tail }
    ∷ record { kind = 154; bytes = 0xff ∷ []; answer = made kinds.Rotation Taken (pitched 1 0 (pos 0) 0) 6 }
    ∷ record { kind = 154; bytes = []; answer = refused_as kinds.Rotation Short }
    ∷ record {
      kind = 154;
      bytes = 0x40 ∷ 0x00 ∷ 0x00 ∷ 0x00 ∷ 0x00 ∷ 0x00 ∷ 0x5a ∷ 0x00 ∷ 0x00 ∷ 0x00 ∷ 0x00 ∷ 0x00 ∷ 0x00 ∷ [];
      answer = made kinds.Rotation Taken (pitched 0 1 (pos 5_898_240) 0x4056_8000_0000_0000) 0;
    }
    ∷ record {
      kind = 154;
      bytes = 0x40 ∷ 0x00 ∷ 0x00 ∷ 0x00 ∷ 0x00 ∷ 0x00 ∷ 0x5a ∷ 0x00 ∷ 0x01 ∷ 0x00 ∷ 0x00 ∷ 0x00 ∷ 0x00 ∷ [];
      answer = refused_as kinds.Rotation Rule;
    }
    ∷ []

-- ---- 45

-- with id 0, no flag of the six, no quincunx sampling, grid positions of 0 and no upsampled aspect ratio
abbrev pub packed : (cancel type interpretation persistence : ℕ) → FramePacking
packed cancel type interpretation persistence =
    record {
      fp_arrangement_id = 0;
      fp_arrangement_cancel_flag = cancel;
      layout =
          record {
            fp_arrangement_type = type;
            fp_quincunx_sampling_flag = 0;
            fp_content_interpretation_type = interpretation;
            flags =
                record {
                  fp_spatial_flipping_flag = 0;
                  fp_frame0_flipped_flag = 0;
                  fp_field_views_flag = 0;
                  fp_current_frame_is_frame0_flag = 0;
                  fp_frame0_self_contained_flag = 0;
                  fp_frame1_self_contained_flag = 0;
                };
            grid = record { fp_frame0_grid_position_x = 0; fp_frame0_grid_position_y = 0; fp_frame1_grid_position_x = 0; fp_frame1_grid_position_y = 0 };
            fp_arrangement_persistence_flag = persistence;
          };
      fp_upsampled_aspect_ratio_flag = 0;
    }

abbrev pub packings : List Row
packings =
    record { kind = 45; bytes = 0xd0 ∷ []; answer = made kinds.FramePacking Taken (packed 1 0 0 0) 0 }
    ∷ record { kind = 45; bytes = 0x81 ∷ 0x81 ∷ 0x00 ∷ 0x00 ∷ 0x00 ∷ 0x02 ∷ []; answer = made kinds.FramePacking Taken (packed 0 3 1 1) 0 }
    ∷ []

-- ---- 150

-- persists, with this guard flag, type and widths
abbrev pub projected : (guarded type width : ℕ) → Equirectangular
projected guarded type width =
    record { erp_cancel_flag = 0; erp_persistence_flag = 1; erp_guard_band_flag = guarded; erp_guard_band_type = type; erp_left_guard_band_width = width; erp_right_guard_band_width = width }

abbrev pub projections : List Row
projections =
    record { kind = 150; bytes = 0x44 ∷ []; answer = made kinds.Equirectangular Taken (projected 0 0 0) 0 }
    ∷ record { kind = 150; bytes = 0x5c ∷ []; answer = made kinds.Equirectangular Taken (projected 0 0 0) 0 }
    ∷ record { kind = 150; bytes = 0x63 ∷ 0x08 ∷ 0x08 ∷ []; answer = made kinds.Equirectangular Taken (projected 1 3 8) 0 }
    ∷ record { kind = 150; bytes = 0x67 ∷ 0x08 ∷ 0x08 ∷ []; answer = made kinds.Equirectangular Taken (projected 1 0 8) 0 }
    ∷ record { kind = 150; bytes = 0x44 ∷ 0x80 ∷ []; answer = made kinds.Equirectangular Taken (projected 0 0 0) 3 }
    ∷ record { kind = 150; bytes = 0x44 ∷ 0x00 ∷ []; answer = refused_as kinds.Equirectangular Tail }
    ∷ []

-- ---- 165 and 177

abbrev pub opaque : Alpha
opaque =
    record {
      alpha_channel_cancel_flag = 0;
      alpha_channel_use_idc = 1;
      alpha_channel_bit_depth_minus8 = 0;
      alpha_transparent_value = 0;
      alpha_opaque_value = 255;
      alpha_channel_incr_flag = 0;
      alpha_channel_clip_flag = 0;
      alpha_channel_clip_type_flag = 0;
    }

abbrev pub nothing : DepthValue
nothing = record { da_sign_flag = 0; da_exponent = 0; da_mantissa_len_minus1 = 0; da_mantissa = 0; number = Absent }

-- z near is 1.5: exponent 31 and a mantissa of one bit, 1
abbrev pub near : Depth
near =
    record {
      z_near_flag = 1;
      z_far_flag = 0;
      d_min_flag = 0;
      d_max_flag = 0;
      depth_representation_type = 0;
      disparity_ref_view_id = 0;
      z_near = record { da_sign_flag = 0; da_exponent = 31; da_mantissa_len_minus1 = 0; da_mantissa = 1; number = Number (of_bits binary64 0x3ff8_0000_0000_0000) };
      z_far = nothing;
      d_min = nothing;
      d_max = nothing;
      count = 0;
      depth_nonlinear_representation_model = replicate most 0;
    }

abbrev pub others : List Row
others =
    record { kind = 165; bytes = 0x10 ∷ 0x00 ∷ 0x7f ∷ 0x90 ∷ []; answer = made kinds.Alpha Taken opaque 0 }
    ∷ record { kind = 177; bytes = 0x88 ∷ 0xf8 ∷ 0x30 ∷ []; answer = made kinds.Depth Taken near 0 }
    ∷ []

-- ---- the table

unfoldable pub rows : List Row
rows = rotations ++ packings ++ projections ++ others
