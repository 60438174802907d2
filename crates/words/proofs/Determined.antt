-- Each public contract determines its result: that of `bytes` the lent bytes too as it leaves them, and that of `content` the characters that it hands back.
-- Assumes nothing.
use mathlib.Core.Path.{sym, ◌∙◌}
use Rattle.bits.proofs.Determined.{Determines, DeterminesAll, DeterminesPart}
use Rattle.lent.proofs.Stores.{same_left}
use Rattle.words.proofs.hex.bytes.Kinds as bytes-kinds
use Rattle.words.proofs.hex.bytes.Reads as bytes-reads
use Rattle.words.proofs.number.number.Kinds as number-kinds
use Rattle.words.proofs.number.number.Reads as number-reads
use Rattle.words.proofs.place.find.Kinds as find-kinds
use Rattle.words.proofs.place.find.Reads as find-reads
use Rattle.words.proofs.place.skip.Kinds as skip-kinds
use Rattle.words.proofs.place.skip.Reads as skip-reads
use Rattle.words.proofs.place.content.Kinds as content-kinds
use Rattle.words.proofs.place.content.Reads as content-reads

pub bytes-determined : DeterminesAll 2 bytes-kinds.ps bytes-kinds.r (λ κs s. s.1.0.now) bytes-reads.Post
bytes-determined κs a x y s t p q = same_left (p ∙ sym q)

pub number-determined : Determines 1 number-kinds.ps number-kinds.r number-reads.Post
number-determined κs a x y s t p q = p ∙ sym q

pub find-determined : Determines 1 find-kinds.ps find-kinds.r find-reads.Post
find-determined κs a x y s t p q = p.0 ∙ sym q.0

pub skip-determined : Determines 1 skip-kinds.ps skip-kinds.r skip-reads.Post
skip-determined κs a x y s t p q = p.0 ∙ sym q.0

pub content-determined : DeterminesPart 1 content-kinds.ps content-kinds.r (λ κs x. x.now) content-reads.Post
content-determined κs a x y s t p q = p ∙ sym q
