-- The contract of each public function determines its result, `zero` and `read`; and so does that of each function that reads one region.
-- Assumes nothing.
use mathlib.Core.Path.{sym, ◌∙◌}
use Rattle.bits.proofs.Determined.{Determines, told}
use Rattle.kind_region_wise.proofs.RegionWise.zero.Kinds as zero-kinds
use Rattle.kind_region_wise.proofs.RegionWise.zero.Reads as zero-reads
use Rattle.kind_region_wise.proofs.read.Kinds as read-kinds
use Rattle.kind_region_wise.proofs.read.Reads as read-reads
use Rattle.kind_region_wise.proofs.region.Region.zero.Kinds as region-zero-kinds
use Rattle.kind_region_wise.proofs.region.Region.zero.Reads as region-zero-reads
use Rattle.kind_region_wise.proofs.region.read.Kinds as region-read-kinds
use Rattle.kind_region_wise.proofs.region.read.Reads as region-read-reads

pub zero-determined : Determines 0 zero-kinds.ps zero-kinds.r zero-reads.Post
zero-determined κs a x y s t p q = p ∙ sym q

pub read-determined : Determines 1 read-kinds.ps read-kinds.r read-reads.Post
read-determined κs a x y s t p q = told x y (p ∙ sym q)

pub region-zero-determined : Determines 0 region-zero-kinds.ps region-zero-kinds.r region-zero-reads.Post
region-zero-determined κs a x y s t p q = p ∙ sym q

pub region-read-determined : Determines 1 region-read-kinds.ps region-read-kinds.r region-read-reads.Post
region-read-determined κs a x y s t p q = told x y (p ∙ sym q)
