-- The contract of each public function determines its result: `of` and `zero` of degrees, `degree_bits`, `depth_number` and `depth_bits`.
-- Assumes nothing.
use mathlib.Core.Path.{sym, ◌∙◌}
use Rattle.bits.proofs.Determined.{Determines}
use Rattle.numbers.proofs.degrees.Degrees.of.Kinds as of-kinds
use Rattle.numbers.proofs.degrees.Degrees.of.Reads as of-reads
use Rattle.numbers.proofs.degrees.Degrees.zero.Kinds as zero-kinds
use Rattle.numbers.proofs.degrees.Degrees.zero.Reads as zero-reads
use Rattle.numbers.proofs.degrees.degree_bits.Kinds as degree-bits-kinds
use Rattle.numbers.proofs.degrees.degree_bits.Reads as degree-bits-reads
use Rattle.numbers.proofs.depth.depth_number.Kinds as depth-number-kinds
use Rattle.numbers.proofs.depth.depth_number.Reads as depth-number-reads
use Rattle.numbers.proofs.depth.depth_bits.Kinds as depth-bits-kinds
use Rattle.numbers.proofs.depth.depth_bits.Reads as depth-bits-reads

-- three coded numbers have one rotation in degrees
pub of-determined : Determines 0 of-kinds.ps of-kinds.r of-reads.Post
of-determined κs a x y s t p q = p ∙ sym q

-- there is one rotation that is none
pub zero-determined : Determines 0 zero-kinds.ps zero-kinds.r zero-reads.Post
zero-determined κs a x y s t p q = p ∙ sym q

-- a coded number's degrees have one pattern of 64 bits
pub degree-bits-determined : Determines 0 degree-bits-kinds.ps degree-bits-kinds.r degree-bits-reads.Post
degree-bits-determined κs a x y s t p q = p ∙ sym q

-- the parts of an element stand for one depth number
pub depth-number-determined : Determines 0 depth-number-kinds.ps depth-number-kinds.r depth-number-reads.Post
depth-number-determined κs a x y s t p q = p ∙ sym q

-- and have one pattern of 64 bits
pub depth-bits-determined : Determines 0 depth-bits-kinds.ps depth-bits-kinds.r depth-bits-reads.Post
depth-bits-determined κs a x y s t p q = p ∙ sym q
