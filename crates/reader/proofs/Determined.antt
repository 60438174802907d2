-- Each public contract determines its result.
-- Assumes nothing.
use mathlib.Core.Path.{sym, ◌∙◌}
use Rattle.bits.proofs.Determined.{Determines, DeterminesPart}
use Rattle.reader.proofs.payload.read.Kinds as read-kinds
use Rattle.reader.proofs.payload.read.Reads as read-reads
use Rattle.reader.proofs.brief.brief.Kinds as brief-kinds
use Rattle.reader.proofs.brief.brief.Reads as brief-reads
use Rattle.reader.proofs.regions.region_wise.Kinds as region-wise-kinds
use Rattle.reader.proofs.regions.region_wise.Reads as region-wise-reads
use Rattle.reader.proofs.user.user_part.Kinds as user-part-kinds
use Rattle.reader.proofs.user.user_part.Reads as user-part-reads
use Rattle.reader.proofs.entry.judged.Kinds as judged-kinds
use Rattle.reader.proofs.entry.judged.Reads as judged-reads
use Rattle.reader.proofs.verdict.number.Kinds as number-kinds
use Rattle.reader.proofs.verdict.number.Reads as number-reads

pub read-determined : Determines 1 read-kinds.ps read-kinds.r read-reads.Post
read-determined κs a x y s t p q = p ∙ sym q

pub brief-determined : Determines 1 brief-kinds.ps brief-kinds.r brief-reads.Post
brief-determined κs a x y s t p q = p ∙ sym q

pub region-wise-determined : Determines 1 region-wise-kinds.ps region-wise-kinds.r region-wise-reads.Post
region-wise-determined κs a x y s t p q = p ∙ sym q

-- of the part that is handed back, the bytes; where an empty one lies is not said
pub user-part-determined : DeterminesPart 1 user-part-kinds.ps user-part-kinds.r (λ κs x. x.now) user-part-reads.Post
user-part-determined κs a x y s t p q = p ∙ sym q

pub judged-determined : Determines 0 judged-kinds.ps judged-kinds.r judged-reads.Post
judged-determined κs a x y s t p q = p ∙ sym q

pub number-determined : Determines 1 number-kinds.ps number-kinds.r number-reads.Post
number-determined κs a x y s t p q = p ∙ sym q
