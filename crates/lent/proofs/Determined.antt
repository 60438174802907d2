-- Each public contract determines its result: that of `front` the bytes that it hands back, that of `put` the lent numbers as it leaves them.
-- Assumes nothing.
use mathlib.Core.Path.{refl, sym, ◌∙◌}
use denote.RattleType.{RattleType}
use denote.Param.Laws.{Laws, IsCopy}
use mir.Syntax.{Dict}
use Rattle.std.specs.declared.clone.Clone
use Rattle.lent.specs.declared.number.Number.{Ghosts}
use Rattle.bits.proofs.Determined.{Determines, DeterminesAll, DeterminesPart}
use Rattle.lent.proofs.front.Kinds as front-kinds
use Rattle.lent.proofs.front.Reads as front_reads
use Rattle.lent.proofs.put.Kinds as put-kinds
use Rattle.lent.proofs.put.Reads as put_reads
use Rattle.lent.proofs.number.U8Number.number.Kinds as u8-number-kinds
use Rattle.lent.proofs.number.U8Number.number.Reads as u8-number-reads
use Rattle.lent.proofs.number.U16Number.number.Kinds as u16-number-kinds
use Rattle.lent.proofs.number.U16Number.number.Reads as u16-number-reads
use Rattle.lent.proofs.number.U64Number.number.Kinds as u64-number-kinds
use Rattle.lent.proofs.number.U64Number.number.Reads as u64-number-reads

pub front-determined : DeterminesPart 1 front-kinds.ps front-kinds.r (λ κs x. x.now) front_reads.Post
front-determined κs a x y s t p q = p ∙ sym q

-- at any type of number
module _ (T : RattleType) (L : Laws T) (C : IsCopy T) (N : Ghosts T.Denot) (N-dict : Dict) (K : Clone.Ghosts T.Denot) (K-dict : Dict) where
  pub put-determined : DeterminesAll 3 (put-kinds.ps T L C) (put-kinds.r T L C) (λ κs s. s.0.now) (put_reads.Post T L C N N-dict K K-dict)
  put-determined κs a x y s t p q = (refl, p ∙ sym q)

pub u8-number-determined : Determines 0 u8-number-kinds.ps u8-number-kinds.r u8-number-reads.Post
u8-number-determined κs a x y s t p q = p ∙ sym q

pub u16-number-determined : Determines 0 u16-number-kinds.ps u16-number-kinds.r u16-number-reads.Post
u16-number-determined κs a x y s t p q = p ∙ sym q

pub u64-number-determined : Determines 0 u64-number-kinds.ps u64-number-kinds.r u64-number-reads.Post
u64-number-determined κs a x y s t p q = p ∙ sym q
