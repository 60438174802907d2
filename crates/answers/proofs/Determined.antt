-- Each public contract determines its result.
-- Assumes nothing.
use mathlib.Core.Path.{sym, ◌∙◌}
use Rattle.bits.proofs.Determined.{Determines}
use Rattle.answers.proofs.kind.KindTryFromU64.try_from.Kinds as named-kinds
use Rattle.answers.proofs.kind.KindTryFromU64.try_from.Reads as named-reads
use Rattle.answers.proofs.Outcome.number.Kinds as number-kinds
use Rattle.answers.proofs.Outcome.number.Reads as number-reads
use Rattle.answers.proofs.Beside.nothing.Kinds as nothing-kinds
use Rattle.answers.proofs.Beside.nothing.Reads as nothing-reads
use Rattle.answers.proofs.Brief.refused.Kinds as brief-refused-kinds
use Rattle.answers.proofs.Brief.refused.Reads as brief-refused-reads
use Rattle.answers.proofs.Brief.unknown.Kinds as unknown-kinds
use Rattle.answers.proofs.Brief.unknown.Reads as unknown-reads
use Rattle.answers.proofs.Brief.finished.Kinds as finished-kinds
use Rattle.answers.proofs.Brief.finished.Reads as finished-reads
use Rattle.answers.proofs.Brief.registered.Kinds as registered-kinds
use Rattle.answers.proofs.Brief.registered.Reads as registered-reads
use Rattle.answers.proofs.Answer.of.Kinds as of-kinds
use Rattle.answers.proofs.Answer.of.Reads as of-reads
use Rattle.answers.proofs.Answer.plain.Kinds as plain-kinds
use Rattle.answers.proofs.Answer.plain.Reads as plain-reads
use Rattle.answers.proofs.Answer.refused.Kinds as refused-kinds
use Rattle.answers.proofs.Answer.refused.Reads as refused-reads

pub named-determined : Determines 0 named-kinds.ps named-kinds.r named-reads.Post
named-determined κs a x y s t p q = p ∙ sym q

pub number-determined : Determines 0 number-kinds.ps number-kinds.r number-reads.Post
number-determined κs a x y s t p q = p ∙ sym q

pub nothing-determined : Determines 0 nothing-kinds.ps nothing-kinds.r nothing-reads.Post
nothing-determined κs a x y s t p q = p ∙ sym q

pub brief-refused-determined : Determines 0 brief-refused-kinds.ps brief-refused-kinds.r brief-refused-reads.Post
brief-refused-determined κs a x y s t p q = p ∙ sym q

pub unknown-determined : Determines 0 unknown-kinds.ps unknown-kinds.r unknown-reads.Post
unknown-determined κs a x y s t p q = p ∙ sym q

pub finished-determined : Determines 0 finished-kinds.ps finished-kinds.r finished-reads.Post
finished-determined κs a x y s t p q = p ∙ sym q

pub registered-determined : Determines 0 registered-kinds.ps registered-kinds.r registered-reads.Post
registered-determined κs a x y s t p q = p ∙ sym q

pub of-determined : Determines 0 of-kinds.ps of-kinds.r of-reads.Post
of-determined κs a x y s t p q = p ∙ sym q

pub plain-determined : Determines 0 plain-kinds.ps plain-kinds.r plain-reads.Post
plain-determined κs a x y s t p q = p ∙ sym q

pub refused-determined : Determines 0 refused-kinds.ps refused-kinds.r refused-reads.Post
refused-determined κs a x y s t p q = p ∙ sym q
