-- One region of kind 155, and payloads, with every field of their records, or with the refusal and nothing after the element that earns it; no two
-- elements of one width agree in all rows.
-- Assumes nothing.
use Prim.Native.Nat.{ℕ, ◌+◌, ◌*◌}
use mathlib.Core.Path.{refl}
use mathlib.Core.List.{List, [], ◌∷◌, ◌++◌}
use Rattle.bits.specs.Bits.{bit_at, part, from, unsigned_of}
use Rattle.bits.specs.Elements.{u_front}
use Rattle.bits.specs.Out.{taken, refused}
use Rattle.bits.specs.declared.refusal.Refusal.TheVariants.{Short, Rule, Regions}
use Rattle.format.specs.Format.{zeros}
use Rattle.format.specs.Reading.{element_front, run, run_at}
use Rattle.format.specs.Syntax.{padded, times}
use Rattle.format.proofs.Worked.{Worked, row}
use Rattle.kind_region_wise.specs.RegionWise.{most, region_table, region, region_wise}
use Rattle.kind_region_wise.specs.declared.RegionWise.{RegionWise}
use Rattle.kind_region_wise.specs.declared.region.GuardBands.{GuardBands}
use Rattle.kind_region_wise.specs.declared.region.Region.{Region}

-- ---- one region

-- the two areas: width, height, top and left of four bytes each, and again of two bytes each
abbrev areas : List ℕ
areas = 0 ∷ 0 ∷ 1 ∷ 2 ∷ 0 ∷ 0 ∷ 3 ∷ 4 ∷ 0 ∷ 0 ∷ 5 ∷ 6 ∷ 0xff ∷ 0 ∷ 7 ∷ 8 ∷ 0 ∷ 9 ∷ 0 ∷ 10 ∷ 0 ∷ 11 ∷ 0xff ∷ 12 ∷ []

-- a region of these areas
abbrev region-of : ℕ → ℕ → GuardBands → Region
region-of transform guarded bands =
    record {
      rwp_transform_type = transform;
      rwp_guard_band_flag = guarded;
      projected = record { rwp_proj_region_width = 0x0102; rwp_proj_region_height = 0x0304; rwp_proj_region_top = 0x0506; rwp_proj_region_left = 0xff000708 };
      packed = record { rwp_packed_region_width = 9; rwp_packed_region_height = 10; rwp_packed_region_top = 11; rwp_packed_region_left = 0xff0c };
      guard = bands;
    }

-- the guard bands of a region that has none
abbrev none : GuardBands
none = (zeros region_table).guard

-- the sizes of guard bands: left, right, top and bottom
abbrev sizes : List ℕ
sizes = 8 ∷ 4 ∷ 2 ∷ 1 ∷ []

-- guard bands of these sizes: their not-used flag and four types
abbrev bands-of : ℕ → ℕ → ℕ → ℕ → ℕ → GuardBands
bands-of unused a b c d =
    record {
      rwp_left_guard_band_width = 8;
      rwp_right_guard_band_width = 4;
      rwp_top_guard_band_height = 2;
      rwp_bottom_guard_band_height = 1;
      rwp_guard_band_not_used_for_pred_flag = unused;
      types = record { left = a; right = b; top = c; bottom = d };
    }

-- No guard bands: 25 bytes. Types 3, 6, 1 and 2, used for prediction: 6 is fine, and is handed out as 0; a coded 0 there breaks the rule, unless the
-- guard bands are not used for prediction. The bits, in the order of 8.15.5.1: reserved, transform and guard flag before the areas; not used, the
-- four types and reserved after the sizes.
--   0a         0000 101 0
--   fb, 3c 57  1111 101 1, 0 011 110 001 010 111
--   0d, 84 cc  0000 110 1, 1 000 010 011 001 100
one-region :
    Worked region
    (row (0x0a ∷ areas) (taken (region-of 5 0 none) (8 * 25))
    ∷ row (0xfb ∷ areas ++ sizes ++ 0x3c ∷ 0x57 ∷ []) (taken (region-of 5 1 (bands-of 0 3 0 1 2)) (8 * 31))
    ∷ row (0xfb ∷ areas ++ sizes ++ 0x30 ∷ []) (refused Rule)
    ∷ row (0x0d ∷ areas ++ sizes ++ 0x84 ∷ 0xcc ∷ []) (taken (region-of 6 1 (bands-of 1 0 2 3 1)) (8 * 31))
    ∷ [])
unfolding region run_at run element_front u_front from part unsigned_of bit_at
one-region = refl

-- ---- messages

-- 14 bytes before the regions: the first ends with five reserved bits, the second is how many regions there are, and the rest are the sizes of the
-- projected picture, of four bytes each, and of the packed one, of two
abbrev front : ℕ → ℕ → List ℕ
front first count = first ∷ count ∷ 0 ∷ 0 ∷ 0x0f ∷ 0 ∷ 0 ∷ 0 ∷ 0x07 ∷ 0x80 ∷ 0x0a ∷ 0 ∷ 0x05 ∷ 0 ∷ []

-- a message of these sizes: persistence, matching flag, count, regions
abbrev message-of : ℕ → ℕ → ℕ → List Region → RegionWise
message-of persistence matching count rs =
    record {
      rwp_cancel_flag = 0;
      rwp_persistence_flag = persistence;
      rwp_constituent_picture_matching_flag = matching;
      rwp_num_packed_regions = count;
      rwp_proj_picture_width = 3840;
      rwp_proj_picture_height = 1920;
      rwp_packed_picture_width = 2560;
      rwp_packed_picture_height = 1280;
      regions = padded most (zeros region_table) rs;
    }

-- No guard bands: 39 bytes; the same with other reserved bits. Guard bands, of types 3, 6, 1 and 2 that are used for prediction; a coded 0 there
-- breaks the rule. Two regions, with guard bands and without; and two without. The first byte's bits, in the order of 8.15.5.1: cancel, persistence, matching, reserved.
--   60  0 1 1 00000
--   7f  0 1 1 11111
--   20  0 0 1 00000
--   40  0 1 0 00000
messages :
    Worked region_wise
    (row (front 0x60 1 ++ 0x0a ∷ areas) (taken (message-of 1 1 1 (region-of 5 0 none ∷ [])) (8 * 39))
    ∷ row (front 0x7f 1 ++ 0xfa ∷ areas) (taken (message-of 1 1 1 (region-of 5 0 none ∷ [])) (8 * 39))
    ∷ row (front 0x60 1 ++ 0x01 ∷ areas ++ sizes ++ 0x3c ∷ 0x57 ∷ []) (taken (message-of 1 1 1 (region-of 0 1 (bands-of 0 3 0 1 2) ∷ [])) (8 * 45))
    ∷ row (front 0x60 1 ++ 0x01 ∷ areas ++ sizes ++ 0x30 ∷ []) (refused Rule)
    ∷ row (front 0x20 2 ++ 0x0d ∷ areas ++ sizes ++ 0x84 ∷ 0xcc ∷ 0x0a ∷ areas)
    (taken (message-of 0 1 2 (region-of 6 1 (bands-of 1 0 2 3 1) ∷ region-of 5 0 none ∷ [])) (8 * 70))
    ∷ row (front 0x40 2 ++ 0x0a ∷ areas ++ 0x0c ∷ areas) (taken (message-of 1 0 2 (region-of 5 0 none ∷ region-of 6 0 none ∷ [])) (8 * 64))
    ∷ [])
unfolding region_wise region times run_at run element_front u_front from part unsigned_of bit_at
messages = refl

-- a cancel alone
abbrev cancel : RegionWise
cancel =
    record {
      rwp_cancel_flag = 1;
      rwp_persistence_flag = 0;
      rwp_constituent_picture_matching_flag = 0;
      rwp_num_packed_regions = 0;
      rwp_proj_picture_width = 0;
      rwp_proj_picture_height = 0;
      rwp_packed_picture_width = 0;
      rwp_packed_picture_height = 0;
      regions = padded most (zeros region_table) [];
    }

-- A cancel is one bit. A count of 0, of the most and of one more, with nothing after it. A projected width of 0, and a packed height of 0.
heads :
    Worked region_wise
    (row (0x80 ∷ []) (taken cancel 1)
    ∷ row (0x40 ∷ 0 ∷ []) (refused Rule)
    ∷ row (0x40 ∷ most ∷ []) (refused Short)
    ∷ row (0x40 ∷ (most + 1) ∷ []) (refused Regions)
    ∷ row (0x40 ∷ 1 ∷ 0 ∷ 0 ∷ 0 ∷ 0 ∷ []) (refused Rule)
    ∷ row (0x40 ∷ 1 ∷ 0 ∷ 0 ∷ 0 ∷ 1 ∷ 0 ∷ 0 ∷ 0 ∷ 1 ∷ 0 ∷ 1 ∷ 0 ∷ 0 ∷ []) (refused Rule)
    ∷ [])
unfolding region_wise region times run_at run element_front u_front from part unsigned_of bit_at
heads = refl
