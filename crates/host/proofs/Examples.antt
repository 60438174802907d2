-- Rows of some payloads of RULES 14, and a part of user data, computed.
-- Assumes nothing.
use Prim.Native.Nat.{ℕ}
use mathlib.Core.Path.{◌≡◌, refl}
use mathlib.Core.List.{List, [], ◌∷◌}
use lib.ListN.{length, replicate}
use Rattle.bits.specs.Bits.{bit_at, part, from, unsigned_of}
use Rattle.bits.specs.Elements.{u_front, ue_after}
use Rattle.bits.specs.Signed.{signed_of, twos_of}
use Rattle.bits.specs.Tail.{last_one, tail_of}
use Rattle.format.specs.Reading.{element_front, run}
use Rattle.format.specs.Syntax.{i32}
use Rattle.format.specs.Whole.{whole}
use Rattle.numbers.specs.Degrees.{degree_bits}
use Rattle.kind_frame_packing.specs.FramePacking.{frame_packing}
use Rattle.kind_frame_packing.specs.SetAside.{reserved_id, reserved_type, reserved_interpretation, set_aside}
use Rattle.kind_orientation.specs.Orientation.{orientation}
use Rattle.kind_rotation.specs.Rotation.{rotation}
use Rattle.kind_user_data.specs.Registered.{registered}
use Rattle.answers.specs.Listed.{named, reading_of}
use Rattle.reader.specs.Entry.{entry_to}
use Rattle.reader.specs.Reader.{answer_to}
use Rattle.lent.specs.Lent.{Left, left}
use Rattle.record_row.specs.Handing.{wrote_fields, wrote_by, handed_over, fields_of}
use Rattle.host.specs.Part.{part_of}

-- a payload of a kind, and a row of n numbers 7
abbrev call : ℕ → List ℕ → ℕ → Left ℕ
call kind bytes n = wrote_fields (answer_to kind (length bytes) bytes) (replicate n 7)

-- "50 80": transform 2, extension 0. The number past the four stays, and three are too few
pub orientation-row : call 47 (0x50 ∷ 0x80 ∷ []) 5 ≡ left 0 (0 ∷ 0 ∷ 1 ∷ 2 ∷ 7 ∷ [])
unfolding wrote_fields wrote_by handed_over fields_of answer_to entry_to reading_of named whole run element_front u_front from part unsigned_of bit_at last_one tail_of orientation
orientation-row = refl

pub orientation-few : call 47 (0x50 ∷ 0x80 ∷ []) 3 ≡ left 10 (7 ∷ 7 ∷ 7 ∷ [])
unfolding wrote_fields wrote_by handed_over fields_of answer_to entry_to reading_of named whole run element_front u_front from part unsigned_of bit_at last_one tail_of orientation
orientation-few = refl

-- persists, pitch 90 degrees, roll -180
pub rotation-row : call 154 (0x40 ∷ 0 ∷ 0 ∷ 0 ∷ 0 ∷ 0 ∷ 0x5A ∷ 0 ∷ 0 ∷ 0xFF ∷ 0x4C ∷ 0 ∷ 0 ∷ []) 9
    ≡ left 0 (0 ∷ 0 ∷ 1 ∷ 0 ∷ 0x5A0000 ∷ 0xFF4C0000 ∷ 0 ∷ 0x4056800000000000 ∷ 0xC066800000000000 ∷ [])
unfolding wrote_fields wrote_by handed_over fields_of answer_to entry_to reading_of named whole run element_front u_front from part unsigned_of bit_at last_one tail_of signed_of twos_of degree_bits rotation i32
rotation-row = refl

-- a refusal writes nothing
pub rotation-tail : call 154 (0x80 ∷ []) 9 ≡ left 7 (replicate 9 7)
unfolding wrote_fields wrote_by handed_over fields_of answer_to entry_to reading_of named whole run element_front u_front from part unsigned_of bit_at last_one tail_of rotation i32
rotation-tail = refl

-- type 2 is set aside, and handed out
pub aside-row : call 45 (0x81 ∷ 0x01 ∷ 0 ∷ 0 ∷ 0 ∷ 0x02 ∷ []) 18
    ≡ left 20 (0 ∷ 0 ∷ 0 ∷ 2 ∷ 0 ∷ 1 ∷ 0 ∷ 0 ∷ 0 ∷ 0 ∷ 0 ∷ 0 ∷ 0 ∷ 0 ∷ 0 ∷ 0 ∷ 1 ∷ 0 ∷ [])
unfolding wrote_fields wrote_by handed_over fields_of answer_to entry_to reading_of named whole run element_front u_front ue_after from part unsigned_of bit_at last_one tail_of
    frame_packing set_aside reserved_id reserved_type reserved_interpretation
aside-row = refl

-- the country code 255 has one more byte
pub registered-part : part_of 4 4 (255 ∷ 1 ∷ 2 ∷ 3 ∷ []) ≡ record { offset = 2; length = 2 }
unfolding part_of answer_to entry_to reading_of named whole run element_front u_front from part unsigned_of bit_at registered
registered-part = refl
