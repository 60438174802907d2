-- The contract of each public function determines its result: `zero`, `read` and `set_aside`.
-- Assumes nothing.
use mathlib.Core.Path.{sym, ◌∙◌}
use Rattle.bits.proofs.Determined.{Determines, told}
use Rattle.kind_frame_packing.proofs.FramePacking.zero.Kinds as zero-kinds
use Rattle.kind_frame_packing.proofs.FramePacking.zero.Reads as zero-reads
use Rattle.kind_frame_packing.proofs.read.Kinds as read-kinds
use Rattle.kind_frame_packing.proofs.read.Reads as read-reads
use Rattle.kind_frame_packing.proofs.aside.set_aside.Kinds as set-aside-kinds
use Rattle.kind_frame_packing.proofs.aside.set_aside.Reads as set-aside-reads

pub zero-determined : Determines 0 zero-kinds.ps zero-kinds.r zero-reads.Post
zero-determined κs a x y s t p q = p ∙ sym q

pub read-determined : Determines 1 read-kinds.ps read-kinds.r read-reads.Post
read-determined κs a x y s t p q = told x y (p ∙ sym q)

pub set-aside-determined : Determines 0 set-aside-kinds.ps set-aside-kinds.r set-aside-reads.Post
set-aside-determined κs a x y s t p q = p ∙ sym q
