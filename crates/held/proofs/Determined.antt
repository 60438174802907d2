-- Each public contract determines its result.
-- Assumes nothing.
use mathlib.Core.Path.{refl, sym, ◌∙◌}
use contract.Lifetimes.{Lfts}
use denote.Triple.Clauses.{AtExit}
use borrow.Fn.Kinds.{ended_of}
use Rattle.bits.proofs.Determined.{Determines, DeterminesAll, DeterminesPart}
use mir.Syntax.{Dict}
use denote.RattleType.{RattleType}
use denote.Param.Laws.{Laws, IsCopy}
use Rattle.std.specs.declared.clone.Clone as clone
use Rattle.held.specs.declared.Held.{Held}
use Rattle.held.specs.declared.HeldRecord as held-record
use Rattle.held.proofs.Held.«with».Kinds as with-kinds
use Rattle.held.proofs.Held.«with».Reads as with-reads
use Rattle.held.proofs.Held.nothing.Kinds as nothing-kinds
use Rattle.held.proofs.Held.nothing.Reads as nothing-reads
use Rattle.held.proofs.Held.lapse.Kinds as lapse-kinds
use Rattle.held.proofs.Held.lapse.Reads as lapse-reads
use Rattle.held.proofs.HeldFramePackingHeldRecord.marked.Kinds as frame-packing-marked-kinds
use Rattle.held.proofs.HeldFramePackingHeldRecord.marked.Reads as frame-packing-marked-reads
use Rattle.held.proofs.HeldFramePackingHeldRecord.zero.Kinds as frame-packing-zero-kinds
use Rattle.held.proofs.HeldFramePackingHeldRecord.zero.Reads as frame-packing-zero-reads
use Rattle.held.proofs.HeldFramePackingHeldRecord.cancel_flag.Kinds as frame-packing-cancel-flag-kinds
use Rattle.held.proofs.HeldFramePackingHeldRecord.cancel_flag.Reads as frame-packing-cancel-flag-reads
use Rattle.held.proofs.HeldFramePackingHeldRecord.persistence_flag.Kinds as frame-packing-persistence-flag-kinds
use Rattle.held.proofs.HeldFramePackingHeldRecord.persistence_flag.Reads as frame-packing-persistence-flag-reads
use Rattle.held.proofs.HeldFramePackingHeldRecord.among.Kinds as frame-packing-among-kinds
use Rattle.held.proofs.HeldFramePackingHeldRecord.among.Reads as frame-packing-among-reads
use Rattle.held.proofs.HeldFramePackingHeldRecord.put.Kinds as frame-packing-put-kinds
use Rattle.held.proofs.HeldFramePackingHeldRecord.put.Reads as frame-packing-put-reads
use Rattle.held.proofs.HeldFramePackingHeldRecord.lapse.Kinds as frame-packing-lapse-kinds
use Rattle.held.proofs.HeldFramePackingHeldRecord.lapse.Reads as frame-packing-lapse-reads
use Rattle.held.proofs.HeldFramePackingHeldRecord.nothing.Kinds as frame-packing-nothing-kinds
use Rattle.held.proofs.HeldFramePackingHeldRecord.nothing.Reads as frame-packing-nothing-reads
use Rattle.held.proofs.HeldFramePackingHeldRecord.taken.Kinds as frame-packing-taken-kinds
use Rattle.held.proofs.HeldFramePackingHeldRecord.taken.Reads as frame-packing-taken-reads
use Rattle.held.proofs.HeldOrientationHeldRecord.marked.Kinds as orientation-marked-kinds
use Rattle.held.proofs.HeldOrientationHeldRecord.marked.Reads as orientation-marked-reads
use Rattle.held.proofs.HeldOrientationHeldRecord.zero.Kinds as orientation-zero-kinds
use Rattle.held.proofs.HeldOrientationHeldRecord.zero.Reads as orientation-zero-reads
use Rattle.held.proofs.HeldOrientationHeldRecord.cancel_flag.Kinds as orientation-cancel-flag-kinds
use Rattle.held.proofs.HeldOrientationHeldRecord.cancel_flag.Reads as orientation-cancel-flag-reads
use Rattle.held.proofs.HeldOrientationHeldRecord.persistence_flag.Kinds as orientation-persistence-flag-kinds
use Rattle.held.proofs.HeldOrientationHeldRecord.persistence_flag.Reads as orientation-persistence-flag-reads
use Rattle.held.proofs.HeldOrientationHeldRecord.among.Kinds as orientation-among-kinds
use Rattle.held.proofs.HeldOrientationHeldRecord.among.Reads as orientation-among-reads
use Rattle.held.proofs.HeldOrientationHeldRecord.put.Kinds as orientation-put-kinds
use Rattle.held.proofs.HeldOrientationHeldRecord.put.Reads as orientation-put-reads
use Rattle.held.proofs.HeldOrientationHeldRecord.lapse.Kinds as orientation-lapse-kinds
use Rattle.held.proofs.HeldOrientationHeldRecord.lapse.Reads as orientation-lapse-reads
use Rattle.held.proofs.HeldOrientationHeldRecord.nothing.Kinds as orientation-nothing-kinds
use Rattle.held.proofs.HeldOrientationHeldRecord.nothing.Reads as orientation-nothing-reads
use Rattle.held.proofs.HeldOrientationHeldRecord.taken.Kinds as orientation-taken-kinds
use Rattle.held.proofs.HeldOrientationHeldRecord.taken.Reads as orientation-taken-reads
use Rattle.held.proofs.HeldEquirectangularHeldRecord.marked.Kinds as equirectangular-marked-kinds
use Rattle.held.proofs.HeldEquirectangularHeldRecord.marked.Reads as equirectangular-marked-reads
use Rattle.held.proofs.HeldEquirectangularHeldRecord.zero.Kinds as equirectangular-zero-kinds
use Rattle.held.proofs.HeldEquirectangularHeldRecord.zero.Reads as equirectangular-zero-reads
use Rattle.held.proofs.HeldEquirectangularHeldRecord.cancel_flag.Kinds as equirectangular-cancel-flag-kinds
use Rattle.held.proofs.HeldEquirectangularHeldRecord.cancel_flag.Reads as equirectangular-cancel-flag-reads
use Rattle.held.proofs.HeldEquirectangularHeldRecord.persistence_flag.Kinds as equirectangular-persistence-flag-kinds
use Rattle.held.proofs.HeldEquirectangularHeldRecord.persistence_flag.Reads as equirectangular-persistence-flag-reads
use Rattle.held.proofs.HeldEquirectangularHeldRecord.among.Kinds as equirectangular-among-kinds
use Rattle.held.proofs.HeldEquirectangularHeldRecord.among.Reads as equirectangular-among-reads
use Rattle.held.proofs.HeldEquirectangularHeldRecord.put.Kinds as equirectangular-put-kinds
use Rattle.held.proofs.HeldEquirectangularHeldRecord.put.Reads as equirectangular-put-reads
use Rattle.held.proofs.HeldEquirectangularHeldRecord.lapse.Kinds as equirectangular-lapse-kinds
use Rattle.held.proofs.HeldEquirectangularHeldRecord.lapse.Reads as equirectangular-lapse-reads
use Rattle.held.proofs.HeldEquirectangularHeldRecord.nothing.Kinds as equirectangular-nothing-kinds
use Rattle.held.proofs.HeldEquirectangularHeldRecord.nothing.Reads as equirectangular-nothing-reads
use Rattle.held.proofs.HeldEquirectangularHeldRecord.taken.Kinds as equirectangular-taken-kinds
use Rattle.held.proofs.HeldEquirectangularHeldRecord.taken.Reads as equirectangular-taken-reads
use Rattle.held.proofs.HeldRotationHeldRecord.marked.Kinds as rotation-marked-kinds
use Rattle.held.proofs.HeldRotationHeldRecord.marked.Reads as rotation-marked-reads
use Rattle.held.proofs.HeldRotationHeldRecord.zero.Kinds as rotation-zero-kinds
use Rattle.held.proofs.HeldRotationHeldRecord.zero.Reads as rotation-zero-reads
use Rattle.held.proofs.HeldRotationHeldRecord.cancel_flag.Kinds as rotation-cancel-flag-kinds
use Rattle.held.proofs.HeldRotationHeldRecord.cancel_flag.Reads as rotation-cancel-flag-reads
use Rattle.held.proofs.HeldRotationHeldRecord.persistence_flag.Kinds as rotation-persistence-flag-kinds
use Rattle.held.proofs.HeldRotationHeldRecord.persistence_flag.Reads as rotation-persistence-flag-reads
use Rattle.held.proofs.HeldRotationHeldRecord.among.Kinds as rotation-among-kinds
use Rattle.held.proofs.HeldRotationHeldRecord.among.Reads as rotation-among-reads
use Rattle.held.proofs.HeldRotationHeldRecord.put.Kinds as rotation-put-kinds
use Rattle.held.proofs.HeldRotationHeldRecord.put.Reads as rotation-put-reads
use Rattle.held.proofs.HeldRotationHeldRecord.lapse.Kinds as rotation-lapse-kinds
use Rattle.held.proofs.HeldRotationHeldRecord.lapse.Reads as rotation-lapse-reads
use Rattle.held.proofs.HeldRotationHeldRecord.nothing.Kinds as rotation-nothing-kinds
use Rattle.held.proofs.HeldRotationHeldRecord.nothing.Reads as rotation-nothing-reads
use Rattle.held.proofs.HeldRotationHeldRecord.taken.Kinds as rotation-taken-kinds
use Rattle.held.proofs.HeldRotationHeldRecord.taken.Reads as rotation-taken-reads
use Rattle.held.proofs.HeldRegionWiseHeldRecord.marked.Kinds as region-wise-marked-kinds
use Rattle.held.proofs.HeldRegionWiseHeldRecord.marked.Reads as region-wise-marked-reads
use Rattle.held.proofs.HeldRegionWiseHeldRecord.zero.Kinds as region-wise-zero-kinds
use Rattle.held.proofs.HeldRegionWiseHeldRecord.zero.Reads as region-wise-zero-reads
use Rattle.held.proofs.HeldRegionWiseHeldRecord.cancel_flag.Kinds as region-wise-cancel-flag-kinds
use Rattle.held.proofs.HeldRegionWiseHeldRecord.cancel_flag.Reads as region-wise-cancel-flag-reads
use Rattle.held.proofs.HeldRegionWiseHeldRecord.persistence_flag.Kinds as region-wise-persistence-flag-kinds
use Rattle.held.proofs.HeldRegionWiseHeldRecord.persistence_flag.Reads as region-wise-persistence-flag-reads
use Rattle.held.proofs.HeldRegionWiseHeldRecord.among.Kinds as region-wise-among-kinds
use Rattle.held.proofs.HeldRegionWiseHeldRecord.among.Reads as region-wise-among-reads
use Rattle.held.proofs.HeldRegionWiseHeldRecord.put.Kinds as region-wise-put-kinds
use Rattle.held.proofs.HeldRegionWiseHeldRecord.put.Reads as region-wise-put-reads
use Rattle.held.proofs.HeldRegionWiseHeldRecord.lapse.Kinds as region-wise-lapse-kinds
use Rattle.held.proofs.HeldRegionWiseHeldRecord.lapse.Reads as region-wise-lapse-reads
use Rattle.held.proofs.HeldRegionWiseHeldRecord.nothing.Kinds as region-wise-nothing-kinds
use Rattle.held.proofs.HeldRegionWiseHeldRecord.nothing.Reads as region-wise-nothing-reads
use Rattle.held.proofs.HeldRegionWiseHeldRecord.taken.Kinds as region-wise-taken-kinds
use Rattle.held.proofs.HeldRegionWiseHeldRecord.taken.Reads as region-wise-taken-reads
use Rattle.held.proofs.HeldRegionWise.coded.Kinds as region-wise-coded-kinds
use Rattle.held.proofs.HeldRegionWise.coded.Reads as region-wise-coded-reads

pub nothing-determined : Determines 0 nothing-kinds.ps nothing-kinds.r nothing-reads.Post
nothing-determined κs a x y s t p q = p ∙ sym q

-- the first parameter, at exit
abbrev left : (κs : Lfts 1) → AtExit (ended_of 1 lapse-kinds.ps lapse-kinds.r) κs → Held
left κs s = s.0.now

pub lapse-determined : DeterminesAll 1 lapse-kinds.ps lapse-kinds.r left lapse-reads.Post
lapse-determined κs a x y s t p q = (refl, p ∙ sym q)

pub frame-packing-marked-determined : Determines 0 frame-packing-marked-kinds.ps frame-packing-marked-kinds.r frame-packing-marked-reads.Post
frame-packing-marked-determined κs a x y s t p q = p ∙ sym q

pub frame-packing-zero-determined : Determines 0 frame-packing-zero-kinds.ps frame-packing-zero-kinds.r frame-packing-zero-reads.Post
frame-packing-zero-determined κs a x y s t p q = p ∙ sym q

pub frame-packing-cancel-flag-determined : Determines 1 frame-packing-cancel-flag-kinds.ps frame-packing-cancel-flag-kinds.r frame-packing-cancel-flag-reads.Post
frame-packing-cancel-flag-determined κs a x y s t p q = p ∙ sym q

pub frame-packing-persistence-flag-determined : Determines 1 frame-packing-persistence-flag-kinds.ps frame-packing-persistence-flag-kinds.r frame-packing-persistence-flag-reads.Post
frame-packing-persistence-flag-determined κs a x y s t p q = p ∙ sym q

pub frame-packing-among-determined : DeterminesPart 1 frame-packing-among-kinds.ps frame-packing-among-kinds.r (λ κs x. x.now) frame-packing-among-reads.Post
frame-packing-among-determined κs a x y s t p q = p ∙ sym q

pub frame-packing-put-determined : DeterminesAll 1 frame-packing-put-kinds.ps frame-packing-put-kinds.r (λ κs s. s.1.0.now) frame-packing-put-reads.Post
frame-packing-put-determined κs a x y s t p q = (refl, p ∙ sym q)

pub frame-packing-lapse-determined : DeterminesAll 1 frame-packing-lapse-kinds.ps frame-packing-lapse-kinds.r (λ κs s. s.0.now) frame-packing-lapse-reads.Post
frame-packing-lapse-determined κs a x y s t p q = (refl, p ∙ sym q)

pub frame-packing-nothing-determined : Determines 0 frame-packing-nothing-kinds.ps frame-packing-nothing-kinds.r frame-packing-nothing-reads.Post
frame-packing-nothing-determined κs a x y s t p q = p ∙ sym q

pub frame-packing-taken-determined : Determines 0 frame-packing-taken-kinds.ps frame-packing-taken-kinds.r frame-packing-taken-reads.Post
frame-packing-taken-determined κs a x y s t p q = p ∙ sym q

pub orientation-marked-determined : Determines 0 orientation-marked-kinds.ps orientation-marked-kinds.r orientation-marked-reads.Post
orientation-marked-determined κs a x y s t p q = p ∙ sym q

pub orientation-zero-determined : Determines 0 orientation-zero-kinds.ps orientation-zero-kinds.r orientation-zero-reads.Post
orientation-zero-determined κs a x y s t p q = p ∙ sym q

pub orientation-cancel-flag-determined : Determines 1 orientation-cancel-flag-kinds.ps orientation-cancel-flag-kinds.r orientation-cancel-flag-reads.Post
orientation-cancel-flag-determined κs a x y s t p q = p ∙ sym q

pub orientation-persistence-flag-determined : Determines 1 orientation-persistence-flag-kinds.ps orientation-persistence-flag-kinds.r orientation-persistence-flag-reads.Post
orientation-persistence-flag-determined κs a x y s t p q = p ∙ sym q

pub orientation-among-determined : DeterminesPart 1 orientation-among-kinds.ps orientation-among-kinds.r (λ κs x. x.now) orientation-among-reads.Post
orientation-among-determined κs a x y s t p q = p ∙ sym q

pub orientation-put-determined : DeterminesAll 1 orientation-put-kinds.ps orientation-put-kinds.r (λ κs s. s.1.0.now) orientation-put-reads.Post
orientation-put-determined κs a x y s t p q = (refl, p ∙ sym q)

pub orientation-lapse-determined : DeterminesAll 1 orientation-lapse-kinds.ps orientation-lapse-kinds.r (λ κs s. s.0.now) orientation-lapse-reads.Post
orientation-lapse-determined κs a x y s t p q = (refl, p ∙ sym q)

pub orientation-nothing-determined : Determines 0 orientation-nothing-kinds.ps orientation-nothing-kinds.r orientation-nothing-reads.Post
orientation-nothing-determined κs a x y s t p q = p ∙ sym q

pub orientation-taken-determined : Determines 0 orientation-taken-kinds.ps orientation-taken-kinds.r orientation-taken-reads.Post
orientation-taken-determined κs a x y s t p q = p ∙ sym q

pub equirectangular-marked-determined : Determines 0 equirectangular-marked-kinds.ps equirectangular-marked-kinds.r equirectangular-marked-reads.Post
equirectangular-marked-determined κs a x y s t p q = p ∙ sym q

pub equirectangular-zero-determined : Determines 0 equirectangular-zero-kinds.ps equirectangular-zero-kinds.r equirectangular-zero-reads.Post
equirectangular-zero-determined κs a x y s t p q = p ∙ sym q

pub equirectangular-cancel-flag-determined : Determines 1 equirectangular-cancel-flag-kinds.ps equirectangular-cancel-flag-kinds.r equirectangular-cancel-flag-reads.Post
equirectangular-cancel-flag-determined κs a x y s t p q = p ∙ sym q

pub equirectangular-persistence-flag-determined : Determines 1 equirectangular-persistence-flag-kinds.ps equirectangular-persistence-flag-kinds.r equirectangular-persistence-flag-reads.Post
equirectangular-persistence-flag-determined κs a x y s t p q = p ∙ sym q

pub equirectangular-among-determined : DeterminesPart 1 equirectangular-among-kinds.ps equirectangular-among-kinds.r (λ κs x. x.now) equirectangular-among-reads.Post
equirectangular-among-determined κs a x y s t p q = p ∙ sym q

pub equirectangular-put-determined : DeterminesAll 1 equirectangular-put-kinds.ps equirectangular-put-kinds.r (λ κs s. s.1.0.now) equirectangular-put-reads.Post
equirectangular-put-determined κs a x y s t p q = (refl, p ∙ sym q)

pub equirectangular-lapse-determined : DeterminesAll 1 equirectangular-lapse-kinds.ps equirectangular-lapse-kinds.r (λ κs s. s.0.now) equirectangular-lapse-reads.Post
equirectangular-lapse-determined κs a x y s t p q = (refl, p ∙ sym q)

pub equirectangular-nothing-determined : Determines 0 equirectangular-nothing-kinds.ps equirectangular-nothing-kinds.r equirectangular-nothing-reads.Post
equirectangular-nothing-determined κs a x y s t p q = p ∙ sym q

pub equirectangular-taken-determined : Determines 0 equirectangular-taken-kinds.ps equirectangular-taken-kinds.r equirectangular-taken-reads.Post
equirectangular-taken-determined κs a x y s t p q = p ∙ sym q

pub rotation-marked-determined : Determines 0 rotation-marked-kinds.ps rotation-marked-kinds.r rotation-marked-reads.Post
rotation-marked-determined κs a x y s t p q = p ∙ sym q

pub rotation-zero-determined : Determines 0 rotation-zero-kinds.ps rotation-zero-kinds.r rotation-zero-reads.Post
rotation-zero-determined κs a x y s t p q = p ∙ sym q

pub rotation-cancel-flag-determined : Determines 1 rotation-cancel-flag-kinds.ps rotation-cancel-flag-kinds.r rotation-cancel-flag-reads.Post
rotation-cancel-flag-determined κs a x y s t p q = p ∙ sym q

pub rotation-persistence-flag-determined : Determines 1 rotation-persistence-flag-kinds.ps rotation-persistence-flag-kinds.r rotation-persistence-flag-reads.Post
rotation-persistence-flag-determined κs a x y s t p q = p ∙ sym q

pub rotation-among-determined : DeterminesPart 1 rotation-among-kinds.ps rotation-among-kinds.r (λ κs x. x.now) rotation-among-reads.Post
rotation-among-determined κs a x y s t p q = p ∙ sym q

pub rotation-put-determined : DeterminesAll 1 rotation-put-kinds.ps rotation-put-kinds.r (λ κs s. s.1.0.now) rotation-put-reads.Post
rotation-put-determined κs a x y s t p q = (refl, p ∙ sym q)

pub rotation-lapse-determined : DeterminesAll 1 rotation-lapse-kinds.ps rotation-lapse-kinds.r (λ κs s. s.0.now) rotation-lapse-reads.Post
rotation-lapse-determined κs a x y s t p q = (refl, p ∙ sym q)

pub rotation-nothing-determined : Determines 0 rotation-nothing-kinds.ps rotation-nothing-kinds.r rotation-nothing-reads.Post
rotation-nothing-determined κs a x y s t p q = p ∙ sym q

pub rotation-taken-determined : Determines 0 rotation-taken-kinds.ps rotation-taken-kinds.r rotation-taken-reads.Post
rotation-taken-determined κs a x y s t p q = p ∙ sym q

pub region-wise-marked-determined : Determines 0 region-wise-marked-kinds.ps region-wise-marked-kinds.r region-wise-marked-reads.Post
region-wise-marked-determined κs a x y s t p q = p ∙ sym q

pub region-wise-zero-determined : Determines 0 region-wise-zero-kinds.ps region-wise-zero-kinds.r region-wise-zero-reads.Post
region-wise-zero-determined κs a x y s t p q = p ∙ sym q

pub region-wise-cancel-flag-determined : Determines 1 region-wise-cancel-flag-kinds.ps region-wise-cancel-flag-kinds.r region-wise-cancel-flag-reads.Post
region-wise-cancel-flag-determined κs a x y s t p q = p ∙ sym q

pub region-wise-persistence-flag-determined : Determines 1 region-wise-persistence-flag-kinds.ps region-wise-persistence-flag-kinds.r region-wise-persistence-flag-reads.Post
region-wise-persistence-flag-determined κs a x y s t p q = p ∙ sym q

pub region-wise-among-determined : DeterminesPart 1 region-wise-among-kinds.ps region-wise-among-kinds.r (λ κs x. x.now) region-wise-among-reads.Post
region-wise-among-determined κs a x y s t p q = p ∙ sym q

pub region-wise-put-determined : DeterminesAll 1 region-wise-put-kinds.ps region-wise-put-kinds.r (λ κs s. s.1.0.now) region-wise-put-reads.Post
region-wise-put-determined κs a x y s t p q = (refl, p ∙ sym q)

pub region-wise-lapse-determined : DeterminesAll 1 region-wise-lapse-kinds.ps region-wise-lapse-kinds.r (λ κs s. s.0.now) region-wise-lapse-reads.Post
region-wise-lapse-determined κs a x y s t p q = (refl, p ∙ sym q)

pub region-wise-nothing-determined : Determines 0 region-wise-nothing-kinds.ps region-wise-nothing-kinds.r region-wise-nothing-reads.Post
region-wise-nothing-determined κs a x y s t p q = p ∙ sym q

pub region-wise-taken-determined : Determines 0 region-wise-taken-kinds.ps region-wise-taken-kinds.r region-wise-taken-reads.Post
region-wise-taken-determined κs a x y s t p q = p ∙ sym q

pub region-wise-coded-determined : Determines 0 region-wise-coded-kinds.ps region-wise-coded-kinds.r region-wise-coded-reads.Post
region-wise-coded-determined κs a x y s t p q = p ∙ sym q

-- of any kind
module _ (T : RattleType) (R : RattleType) (L : Laws T) (L' : Laws R) (C : IsCopy T) (C' : IsCopy R)
    (H : held-record.Ghosts T.Denot R.Denot) (H-dict : Dict) (K : clone.Ghosts T.Denot) (K-dict : Dict) (K' : clone.Ghosts R.Denot) (K'-dict : Dict) where
  pub with-determined : Determines 2 (with-kinds.ps T R L L' C C') (with-kinds.r T R L L' C C') (with-reads.Post T R L L' C C' H H-dict K K-dict K' K'-dict)
  with-determined κs a x y s t p q = p ∙ sym q
