-- Kind 150 at its edges; no two elements of one width agree in all rows. The payloads of RULES 14 are the reader's.
-- Assumes nothing.
use Prim.Native.Nat.{ℕ}
use mathlib.Core.Path.{refl}
use mathlib.Core.List.{[], ◌∷◌}
use Rattle.bits.specs.Bits.{bit_at, part, from, unsigned_of}
use Rattle.bits.specs.Elements.{u_front}
use Rattle.bits.specs.Out.{Out, taken, refused}
use Rattle.bits.specs.declared.refusal.Refusal.TheVariants.{Short}
use Rattle.format.specs.Reading.{element_front, run, run_at}
use Rattle.format.proofs.Worked.{Worked, row}
use Rattle.kind_equirectangular.specs.Equirectangular.{equirectangular}
use Rattle.kind_equirectangular.specs.declared.Equirectangular.{Equirectangular}

-- a message of these fields that ends at a bit: cancel, persistence, guard flag, guard type, left and right width
abbrev fields : ℕ → ℕ → ℕ → ℕ → ℕ → ℕ → ℕ → Out Equirectangular
fields cancel persistence guarded type left right end =
    taken (record { erp_cancel_flag = cancel; erp_persistence_flag = persistence; erp_guard_band_flag = guarded; erp_guard_band_type = type; erp_left_guard_band_width = left; erp_right_guard_band_width = right }) end

-- A cancel is one bit. Nothing.
bare :
    Worked equirectangular
    (row (0xc0 ∷ []) (fields 1 0 0 0 0 0 1) ∷ row [] (refused Short) ∷ [])
unfolding equirectangular run_at run element_front u_front from part unsigned_of bit_at
bare = refl

-- A coded type of 0 breaks no rule, and 4 is handed out as 0; left stands before right. The right width lacks. The bits, in the order of 8.15.2.1:
-- cancel, persistence, guard flag, reserved, guard type, left and right width.
--   60 08 09  0 1 1 00 000 00001000 00001001
--   64 ff 01  0 1 1 00 100 11111111 00000001
--   3a 03 07  0 0 1 11 010 00000011 00000111
guarded :
    Worked equirectangular
    (row (0x60 ∷ 8 ∷ 9 ∷ []) (fields 0 1 1 0 8 9 24)
    ∷ row (0x64 ∷ 255 ∷ 1 ∷ []) (fields 0 1 1 0 255 1 24)
    ∷ row (0x3a ∷ 3 ∷ 7 ∷ []) (fields 0 0 1 2 3 7 24)
    ∷ row (0x63 ∷ 8 ∷ []) (refused Short)
    ∷ [])
unfolding equirectangular run_at run element_front u_front from part unsigned_of bit_at
guarded = refl
