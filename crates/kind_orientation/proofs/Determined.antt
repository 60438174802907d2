-- The contract of each public function determines its result: `zero` and `read`.
-- Assumes nothing.
use mathlib.Core.Path.{sym, ◌∙◌}
use Rattle.bits.proofs.Determined.{Determines, told}
use Rattle.kind_orientation.proofs.Orientation.zero.Kinds as zero-kinds
use Rattle.kind_orientation.proofs.Orientation.zero.Reads as zero-reads
use Rattle.kind_orientation.proofs.read.Kinds as read-kinds
use Rattle.kind_orientation.proofs.read.Reads as read-reads

pub zero-determined : Determines 0 zero-kinds.ps zero-kinds.r zero-reads.Post
zero-determined κs a x y s t p q = p ∙ sym q

pub read-determined : Determines 1 read-kinds.ps read-kinds.r read-reads.Post
read-determined κs a x y s t p q = told x y (p ∙ sym q)
