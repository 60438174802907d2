-- Kind 47: a message with reserved bits, which say nothing, and a cancel; no two elements of one width agree in both. The payloads of RULES 14 are run.
-- Assumes nothing.
use mathlib.Core.Path.{refl}
use mathlib.Core.List.{[], ◌∷◌}
use Rattle.bits.specs.Bits.{bit_at, part, from, unsigned_of}
use Rattle.bits.specs.Elements.{u_front}
use Rattle.bits.specs.Out.{taken}
use Rattle.format.specs.Reading.{element_front, run, run_at}
use Rattle.format.proofs.Worked.{Worked, row}
use Rattle.kind_orientation.specs.Orientation.{orientation}

-- Transform 2, and all of its eight bits are the message; and a cancel, of one bit. The bits, in the order of 8.25.1: cancel, persistence, transform,
-- reserved.
--   57  0 1 010 111
--   c0  1
payloads :
    Worked orientation
    (row (0x57 ∷ []) (taken (record { display_orientation_cancel_flag = 0; display_orientation_persistence_flag = 1; display_orientation_transform_type = 2 }) 8)
    ∷ row (0xc0 ∷ []) (taken (record { display_orientation_cancel_flag = 1; display_orientation_persistence_flag = 0; display_orientation_transform_type = 0 }) 1)
    ∷ [])
unfolding orientation run_at run element_front u_front from part unsigned_of bit_at
payloads = refl
