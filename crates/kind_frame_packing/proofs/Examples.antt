-- Payloads of kind 45 at its edges, over which no two elements of one width agree in all rows. Those of RULES 14 are the reader's.
-- Assumes nothing.
use Prim.Native.Nat.{ℕ}
use mathlib.Core.Path.{refl}
use mathlib.Core.List.{[], ◌∷◌}
use Rattle.bits.specs.Bits.{bit_at, part, from, unsigned_of}
use Rattle.bits.specs.Elements.{u_front, ue_after}
use Rattle.bits.specs.Out.{taken, refused}
use Rattle.bits.specs.declared.refusal.Refusal.TheVariants.{Short}
use Rattle.format.specs.Format.{zeros}
use Rattle.format.specs.Reading.{element_front, run, run_at}
use Rattle.format.proofs.Worked.{Worked, row}
use Rattle.kind_frame_packing.specs.FramePacking.{table, frame_packing}
use Rattle.kind_frame_packing.specs.declared.FramePacking.{FramePacking}
use Rattle.kind_frame_packing.specs.declared.flags.Flags.{Flags}
use Rattle.kind_frame_packing.specs.declared.grid.Grid.{Grid}

-- a cancel: its id and its upsampled flag
abbrev cancel-of : ℕ → ℕ → FramePacking
cancel-of id upsampled =
    record {
      fp_arrangement_id = id;
      fp_arrangement_cancel_flag = 1;
      layout = (zeros table).layout;
      fp_upsampled_aspect_ratio_flag = upsampled;
    }

-- a message of id 0: type, quincunx, content interpretation, flags, grid, persistence, upsampled flag
abbrev message-of : ℕ → ℕ → ℕ → Flags → Grid → ℕ → ℕ → FramePacking
message-of t quincunx n flags grid persistence upsampled =
    record {
      fp_arrangement_id = 0;
      fp_arrangement_cancel_flag = 0;
      layout =
          record {
            fp_arrangement_type = t;
            fp_quincunx_sampling_flag = quincunx;
            fp_content_interpretation_type = n;
            flags = flags;
            grid = grid;
            fp_arrangement_persistence_flag = persistence;
          };
      fp_upsampled_aspect_ratio_flag = upsampled;
    }

abbrev flags_of : ℕ → ℕ → ℕ → ℕ → ℕ → ℕ → Flags
flags_of a b c d e f =
    record {
      fp_spatial_flipping_flag = a;
      fp_frame0_flipped_flag = b;
      fp_field_views_flag = c;
      fp_current_frame_is_frame0_flag = d;
      fp_frame0_self_contained_flag = e;
      fp_frame1_self_contained_flag = f;
    }

-- x and y of frame 0, then of frame 1
abbrev grid-of : ℕ → ℕ → ℕ → ℕ → Grid
grid-of a b c d =
    record {
      fp_frame0_grid_position_x = a;
      fp_frame0_grid_position_y = b;
      fp_frame1_grid_position_x = c;
      fp_frame1_grid_position_y = d;
    }

-- The largest id, whose code is 31 zeros, a one and 31 ones. Of id 7 and a cancel the upsampled flag lacks.
cancels :
    Worked frame_packing
    (row (0x00 ∷ 0x00 ∷ 0x00 ∷ 0x01 ∷ 0xff ∷ 0xff ∷ 0xff ∷ 0xff ∷ 0x80 ∷ []) (taken (cancel-of 4294967294 1) 65)
    ∷ row (0x11 ∷ []) (refused Short)
    ∷ [])
unfolding frame_packing run_at run element_front ue_after u_front from part unsigned_of bit_at
cancels = refl

-- Type 5 has no grid positions, nor has quincunx sampling, with flags that H.274 forbids to encoders; a reserved type has them, and type 4. The
-- bits, in the order of 8.6.1: id, cancel, type, quincunx, content interpretation, the six flags, the grid, the reserved byte, persistence, upsampled.
--   82 81 1c 01        1 0 0000101 0 000001 0 0 0 1 1 1                     00000000 0 1
--   81 c2 66 97        1 0 0000011 1 000010 0 1 1 0 0 1                     10100101 1 1
--   a6 80 a8 48 d0 02  1 0 1001101 0 000000 1 0 1 0 1 0 0001 0010 0011 0100 00000000 1 0
--   82 01 c3 0d 2c 03  1 0 0000100 0 000001 1 1 0 0 0 0 1100 0011 0100 1011 00000000 1 1
messages :
    Worked frame_packing
    (row (0x82 ∷ 0x81 ∷ 0x1c ∷ 0x01 ∷ []) (taken (message-of 5 0 1 (flags_of 0 0 0 1 1 1) (grid-of 0 0 0 0) 0 1) 32)
    ∷ row (0x81 ∷ 0xc2 ∷ 0x66 ∷ 0x97 ∷ []) (taken (message-of 3 1 2 (flags_of 0 1 1 0 0 1) (grid-of 0 0 0 0) 1 1) 32)
    ∷ row (0xa6 ∷ 0x80 ∷ 0xa8 ∷ 0x48 ∷ 0xd0 ∷ 0x02 ∷ []) (taken (message-of 77 0 0 (flags_of 1 0 1 0 1 0) (grid-of 1 2 3 4) 1 0) 48)
    ∷ row (0x82 ∷ 0x01 ∷ 0xc3 ∷ 0x0d ∷ 0x2c ∷ 0x03 ∷ []) (taken (message-of 4 0 1 (flags_of 1 1 0 0 0 0) (grid-of 12 3 4 11) 1 1) 48)
    ∷ [])
unfolding frame_packing run_at run element_front ue_after u_front from part unsigned_of bit_at
messages = refl
