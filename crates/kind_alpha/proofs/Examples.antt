-- Kind 165: a cancel, values of 16 bits and of 9, and a payload that breaks off before the clip type flag; no two elements of one width agree in all
-- rows. The payload of RULES 14 is the reader's.
-- Assumes nothing.
use Prim.Native.Nat.{ℕ}
use mathlib.Core.Path.{refl}
use mathlib.Core.List.{[], ◌∷◌}
use Rattle.bits.specs.Bits.{bit_at, part, from, unsigned_of}
use Rattle.bits.specs.Elements.{u_front}
use Rattle.bits.specs.Out.{taken, refused}
use Rattle.bits.specs.declared.refusal.Refusal.TheVariants.{Short}
use Rattle.format.specs.Reading.{element_front, run, run_at}
use Rattle.format.proofs.Worked.{Worked, row, row_at}
use Rattle.kind_alpha.specs.Alpha.{alpha}
use Rattle.kind_alpha.specs.declared.Alpha.{Alpha}

-- cancel, use, depth, transparent and opaque value, and the three flags
abbrev fields : ℕ → ℕ → ℕ → ℕ → ℕ → ℕ → ℕ → ℕ → Alpha
fields cancel use-idc depth transparent opaque incr clip clip-type =
    record {
      alpha_channel_cancel_flag = cancel;
      alpha_channel_use_idc = use-idc;
      alpha_channel_bit_depth_minus8 = depth;
      alpha_transparent_value = transparent;
      alpha_opaque_value = opaque;
      alpha_channel_incr_flag = incr;
      alpha_channel_clip_flag = clip;
      alpha_channel_clip_type_flag = clip-type;
    }

-- A cancel is one bit. The widest values, with a reserved use, which is handed out as coded; the narrowest. From bit 5 on, a clip flag of 1 is the
-- payload's last bit. The bits, in the order of 8.23.1: cancel, use, depth, transparent and opaque value, increment, clip and clip type flag.
--   5f ff ff 00 03 80  0 101 111 1111111111111111 1000000000000001 1 1 0
--   20 ff 00 30        0 010 000 011111111 000000000 0 1 1
payloads :
    Worked alpha
    (row (0xff ∷ []) (taken (fields 1 0 0 0 0 0 0 0) 1)
    ∷ row (0x5f ∷ 0xff ∷ 0xff ∷ 0x00 ∷ 0x03 ∷ 0x80 ∷ []) (taken (fields 0 5 7 65535 32769 1 1 0) 42)
    ∷ row (0x20 ∷ 0xff ∷ 0x00 ∷ 0x30 ∷ []) (taken (fields 0 2 0 255 0 0 1 1) 28)
    ∷ row_at 5 (0x00 ∷ 0x00 ∷ 0x00 ∷ 0x01 ∷ []) (refused Short)
    ∷ [])
unfolding alpha run_at run element_front u_front from part unsigned_of bit_at
payloads = refl
