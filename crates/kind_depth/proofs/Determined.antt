-- The contract of each public function determines its result, `zero` and `read`; and so does that of each function that reads a part.
-- Assumes nothing.
use mathlib.Core.Path.{sym, ◌∙◌}
use Rattle.bits.proofs.Determined.{Determines, told}
use Rattle.kind_depth.proofs.Depth.zero.Kinds as zero-kinds
use Rattle.kind_depth.proofs.Depth.zero.Reads as zero-reads
use Rattle.kind_depth.proofs.read.Kinds as read-kinds
use Rattle.kind_depth.proofs.read.Reads as read-reads
use Rattle.kind_depth.proofs.element.DepthValue.absent.Kinds as absent-kinds
use Rattle.kind_depth.proofs.element.DepthValue.absent.Reads as absent-reads
use Rattle.kind_depth.proofs.element.read_element_if.Kinds as element-kinds
use Rattle.kind_depth.proofs.element.read_element_if.Reads as element-reads
use Rattle.kind_depth.proofs.model.read_model.Kinds as model-kinds
use Rattle.kind_depth.proofs.model.read_model.Reads as model-reads

pub zero-determined : Determines 0 zero-kinds.ps zero-kinds.r zero-reads.Post
zero-determined κs a x y s t p q = p ∙ sym q

pub read-determined : Determines 1 read-kinds.ps read-kinds.r read-reads.Post
read-determined κs a x y s t p q = told x y (p ∙ sym q)

pub absent-determined : Determines 0 absent-kinds.ps absent-kinds.r absent-reads.Post
absent-determined κs a x y s t p q = p ∙ sym q

pub element-determined : Determines 1 element-kinds.ps element-kinds.r element-reads.Post
element-determined κs a x y s t p q = told x y (p ∙ sym q)

pub model-determined : Determines 1 model-kinds.ps model-kinds.r model-reads.Post
model-determined κs a x y s t p q = told x y (p ∙ sym q)
