-- Each public contract determines its result.
-- Assumes nothing.
use mathlib.Core.Path.{sym, ◌∙◌}
use denote.RattleType.{RattleType}
use denote.Param.Laws.{Laws, IsCopy}
use mir.Syntax.{Dict}
use Rattle.std.specs.declared.clone.Clone
use Rattle.messages.specs.declared.recorded.Recorded.{Ghosts}
use Rattle.messages.proofs.Alone.{both}
use Rattle.bits.proofs.Determined.{Determines}
use Rattle.messages.proofs.Full.refused.Kinds as refused-kinds
use Rattle.messages.proofs.Full.refused.Reads as refused-reads
use Rattle.messages.proofs.region_wise.Kinds as region-wise-kinds
use Rattle.messages.proofs.region_wise.Reads as region-wise-reads
use Rattle.messages.proofs.depth.Kinds as depth-kinds
use Rattle.messages.proofs.depth.Reads as depth-reads
use Rattle.messages.proofs.unregistered.Kinds as unregistered-kinds
use Rattle.messages.proofs.unregistered.Reads as unregistered-reads
use Rattle.messages.proofs.brief_of.Kinds as brief-of-kinds
use Rattle.messages.proofs.brief_of.Reads as brief-of-reads
use Rattle.messages.proofs.outcome_of.Kinds as outcome-of-kinds
use Rattle.messages.proofs.outcome_of.Reads as outcome-of-reads
use Rattle.messages.proofs.of_kind.Kinds as of-kind-kinds
use Rattle.messages.proofs.of_kind.Reads as of-kind-reads

-- at any record that may stand beside a message
module _ (R : RattleType) (L : Laws R) (C : IsCopy R) (N : Ghosts R.Denot) (N-dict : Dict) (K : Clone.Ghosts R.Denot) (K-dict : Dict) where
  pub refused-determined : Determines 1 (refused-kinds.ps R L C) (refused-kinds.r R L C) (refused-reads.Post R L C N N-dict K K-dict)
  refused-determined κs a x y s t p q = both x y (p.0 ∙ sym q.0) (p.1 ∙ sym q.1)

pub region-wise-determined : Determines 1 region-wise-kinds.ps region-wise-kinds.r region-wise-reads.Post
region-wise-determined κs a x y s t p q = p ∙ sym q

pub depth-determined : Determines 1 depth-kinds.ps depth-kinds.r depth-reads.Post
depth-determined κs a x y s t p q = p ∙ sym q

pub unregistered-determined : Determines 1 unregistered-kinds.ps unregistered-kinds.r unregistered-reads.Post
unregistered-determined κs a x y s t p q = p ∙ sym q

pub brief-of-determined : Determines 1 brief-of-kinds.ps brief-of-kinds.r brief-of-reads.Post
brief-of-determined κs a x y s t p q = p ∙ sym q

pub outcome-of-determined : Determines 1 outcome-of-kinds.ps outcome-of-kinds.r outcome-of-reads.Post
outcome-of-determined κs a x y s t p q = p ∙ sym q

pub of-kind-determined : Determines 1 of-kind-kinds.ps of-kind-kinds.r of-kind-reads.Post
of-kind-determined κs a x y s t p q = p ∙ sym q
