-- The edges of what is set aside.
-- Assumes nothing.
use Prim.Native.Nat.{ℕ}
use mathlib.Core.Path.{◌≡◌, refl}
use mathlib.Core.Bool.{true, false}
use Rattle.format.specs.Format.{zeros}
use Rattle.kind_frame_packing.specs.FramePacking.{table}
use Rattle.kind_frame_packing.specs.declared.FramePacking.{FramePacking}
use Rattle.kind_frame_packing.specs.SetAside.{reserved_id, reserved_type, reserved_interpretation, set_aside}

-- a cancel of an id
abbrev cancel : ℕ → FramePacking
cancel id =
    record {
      fp_arrangement_id = id;
      fp_arrangement_cancel_flag = 1;
      layout = (zeros table).layout;
      fp_upsampled_aspect_ratio_flag = 0;
    }

-- a message of id 0, of a type and a content interpretation
abbrev message : ℕ → ℕ → FramePacking
message t n =
    record {
      fp_arrangement_id = 0;
      fp_arrangement_cancel_flag = 0;
      layout =
          record {
            fp_arrangement_type = t;
            fp_quincunx_sampling_flag = 0;
            fp_content_interpretation_type = n;
            flags = (zeros table).layout.flags;
            grid = (zeros table).layout.grid;
            fp_arrangement_persistence_flag = 0;
          };
      fp_upsampled_aspect_ratio_flag = 0;
    }

ids-kept : (set_aside (cancel 0) ≡ false) × (set_aside (cancel 255) ≡ false) × (set_aside (cancel 512) ≡ false) × (set_aside (cancel 2147483647) ≡ false)
unfolding set_aside reserved_id
ids-kept = (refl, refl, refl, refl)

ids-aside : (set_aside (cancel 256) ≡ true) × (set_aside (cancel 511) ≡ true) × (set_aside (cancel 2147483648) ≡ true) × (set_aside (cancel 4294967294) ≡ true)
unfolding set_aside reserved_id
ids-aside = (refl, refl, refl, refl)

messages-kept : (set_aside (message 3 0) ≡ false) × (set_aside (message 4 1) ≡ false) × (set_aside (message 5 2) ≡ false)
unfolding set_aside reserved_id reserved_type reserved_interpretation
messages-kept = (refl, refl, refl)

messages-aside : (set_aside (message 2 0) ≡ true) × (set_aside (message 6 0) ≡ true) × (set_aside (message 3 3) ≡ true)
unfolding set_aside reserved_id reserved_type reserved_interpretation
messages-aside = (refl, refl, refl)
