-- The payloads of RULES 14 marked *: each is answered as the table says.
-- Assumes nothing.
use mathlib.Core.Path.{refl}
use Rattle.bits.specs.Bits.{bit_at, part, from, unsigned_of}
use Rattle.bits.specs.Elements.{u_front, ue_after}
use Rattle.bits.specs.Signed.{signed_of}
use Rattle.bits.specs.Tail.{last_one, tail_of}
use Rattle.format.specs.Reading.{element_front, run}
use Rattle.format.specs.Syntax.{i32}
use Rattle.format.specs.Whole.{whole}
use Rattle.numbers.specs.Degrees.{degree_bits}
use Rattle.numbers.specs.Depth.{depth_bits}
use Rattle.kind_frame_packing.specs.FramePacking.{frame_packing}
use Rattle.kind_frame_packing.specs.SetAside.{reserved_id, reserved_type, reserved_interpretation, set_aside}
use Rattle.kind_equirectangular.specs.Equirectangular.{equirectangular}
use Rattle.kind_rotation.specs.Rotation.{rotation}
use Rattle.kind_alpha.specs.Alpha.{alpha}
use Rattle.kind_depth.specs.Depth.{depth, element}
use Rattle.answers.specs.Listed.{named, reading_of}
use Rattle.reader.specs.Entry.{entry_to}
use Rattle.reader.specs.Reader.{answer_to}
use Rattle.reader.specs.Payloads.{Answered, All, end, ◌and◌, rows}

pub payloads-hold : All Answered rows
unfolding rows answer_to entry_to reading_of named whole run element_front u_front ue_after from part unsigned_of bit_at last_one tail_of signed_of degree_bits depth_bits
    rotation i32 frame_packing set_aside reserved_id reserved_type reserved_interpretation equirectangular alpha depth element
payloads-hold =
    refl and refl and refl and refl and refl and refl
    and refl and refl
    and refl and refl and refl and refl and refl and refl
    and refl and refl
    and end
