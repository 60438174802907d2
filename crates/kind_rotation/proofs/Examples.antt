-- Kind 154: the ends of its ranges, reserved bits, and payloads that break off; no two elements of one width agree in all rows. The payloads of
-- RULES 14 are the reader's.
-- Assumes nothing.
use Prim.Native.Nat.{ℕ}
use mathlib.Core.Path.{refl}
use mathlib.Core.List.{List, [], ◌∷◌}
use lib.IntN.{ℤ, pos, negsuc}
use lib.Ieee.{binary64, of_bits}
use Rattle.bits.specs.Bits.{bit_at, part, from, unsigned_of}
use Rattle.bits.specs.Elements.{u_front}
use Rattle.bits.specs.Out.{Out, taken, refused}
use Rattle.bits.specs.Signed.{signed_of}
use Rattle.bits.specs.declared.refusal.Refusal.TheVariants.{Short, Rule}
use Rattle.format.specs.Reading.{element_front, run, run_at}
use Rattle.format.specs.Syntax.{i32}
use Rattle.format.proofs.Worked.{Worked, row}
use Rattle.numbers.specs.Degrees.{degree_bits}
use Rattle.kind_rotation.specs.Rotation.{rotation}
use Rattle.kind_rotation.specs.declared.Rotation.{Rotation}

-- the bytes of a message: its first, and those of yaw, pitch and roll
abbrev message : ℕ → (yaw pitch roll : List ℕ → List ℕ) → List ℕ
message first yaw pitch roll = first ∷ yaw (pitch (roll []))

abbrev four : ℕ → ℕ → ℕ → ℕ → List ℕ → List ℕ
four a b c d rest = a ∷ b ∷ c ∷ d ∷ rest

abbrev none : List ℕ → List ℕ
none = four 0 0 0 0

-- these angles, with the bits of their degrees, of a message that persists
abbrev rotated : ℤ → ℕ → ℤ → ℕ → ℤ → ℕ → Rotation
rotated yaw y pitch p roll r =
    record {
      sphere_rotation_cancel_flag = 0;
      sphere_rotation_persistence_flag = 1;
      yaw_rotation = yaw;
      pitch_rotation = pitch;
      roll_rotation = roll;
      degrees = record { yaw = of_bits binary64 y; pitch = of_bits binary64 p; roll = of_bits binary64 r };
    }

-- a message that persists, of 13 bytes, with one angle that is not 0
abbrev yawed : ℤ → ℕ → Out Rotation
yawed z d = taken (rotated z d (pos 0) 0 (pos 0) 0) 104

abbrev pitched : ℤ → ℕ → Out Rotation
pitched z d = taken (rotated (pos 0) 0 z d (pos 0) 0) 104

abbrev rolled : ℤ → ℕ → Out Rotation
rolled z d = taken (rotated (pos 0) 0 (pos 0) 0 z d) 104

-- the least pitch, -90 degrees, and one past it
pitches :
    Worked rotation
    (row (message 0x40 none (four 0xff 0xa6 0x00 0x00) none) (pitched (negsuc 5_898_239) 0xc056_8000_0000_0000)
    ∷ row (message 0x40 none (four 0xff 0xa5 0xff 0xff) none) (refused Rule)
    ∷ [])
unfolding rotation i32 run_at run element_front u_front from part unsigned_of bit_at signed_of degree_bits
pitches = refl

-- yaw just below -180 degrees and just below 180; roll from -180 degrees to just below 180, and one past each
turns :
    Worked rotation
    (row (message 0x40 (four 0xff 0x4b 0xff 0xff) none none) (refused Rule)
    ∷ row (message 0x40 (four 0x00 0xb3 0xff 0xff) none none) (yawed (pos 11_796_479) 0x4066_7fff_e000_0000)
    ∷ row (message 0x40 none none (four 0xff 0x4c 0x00 0x00)) (rolled (negsuc 11_796_479) 0xc066_8000_0000_0000)
    ∷ row (message 0x40 none none (four 0xff 0x4b 0xff 0xff)) (refused Rule)
    ∷ row (message 0x40 none none (four 0x00 0xb3 0xff 0xff)) (rolled (pos 11_796_479) 0x4066_7fff_e000_0000)
    ∷ row (message 0x40 none none (four 0x00 0xb4 0x00 0x00)) (refused Rule)
    ∷ [])
unfolding rotation i32 run_at run element_front u_front from part unsigned_of bit_at signed_of degree_bits
turns = refl

-- Reserved bits say nothing: 7f is 0 1 111111, not cancelled and persistent. After it yaw, pitch and roll of 1, 2 and -3 degrees, of 65,536 each, in
-- the order of 8.15.4.1. A rule is judged at its element, before a later one lacks; a roll that lacks a byte.
others :
    Worked rotation
    (row (message 0x7f (four 0x00 0x01 0x00 0x00) (four 0x00 0x02 0x00 0x00) (four 0xff 0xfd 0x00 0x00))
    (taken (rotated (pos 65_536) 0x3ff0_0000_0000_0000 (pos 131_072) 0x4000_0000_0000_0000 (negsuc 196_607) 0xc008_0000_0000_0000) 104)
    ∷ row (message 0x40 (four 0x00 0xb4 0x00 0x00) (λ rest. rest) (λ rest. rest)) (refused Rule)
    ∷ row (message 0x40 none none (λ rest. 0 ∷ 0 ∷ 0 ∷ rest)) (refused Short)
    ∷ [])
unfolding rotation i32 run_at run element_front u_front from part unsigned_of bit_at signed_of degree_bits
others = refl
