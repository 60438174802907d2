-- The contracts determine their results.
-- Assumes nothing.
use mathlib.Core.Path.{◌≡◌, sym, ap, ◌∙◌}
use contract.Lifetimes.{Lfts}
use denote.Triple.Clauses.{AtExit}
use borrow.Fn.Kinds.{ended_of}
use Rattle.bits.proofs.Determined.{Determines, DeterminesAll}
use mir.Syntax.{Dict}
use denote.RattleType.{RattleType}
use denote.Param.Laws.{Laws, IsCopy}
use Rattle.std.specs.declared.clone.Clone as clone
use Rattle.held.specs.declared.HeldRecord as held-record
use Rattle.feeding.specs.declared.filling.Messaged as messaged
use Rattle.feeding.specs.declared.filling.Filled.{Filled}
use Rattle.feeding.specs.Filling.{filled_as}
use Rattle.std.below.core.specs.contracts.clone.Clone+copy.TheImpl as copy-impl
use Rattle.kind_frame_packing.specs.contracts.FramePacking as frame-packing-struct
use Rattle.kind_frame_packing.proofs.FramePacking.TheLaws as frame-packing-laws
use Rattle.held.specs.contracts.HeldFramePacking as held-frame-packing
use Rattle.held.proofs.HeldFramePacking.TheLaws as held-frame-packing-laws
use Rattle.held.specs.contracts.HeldFramePackingHeldRecord.TheImpl as frame-packing-record
use Rattle.feeding.specs.contracts.filling.HeldFramePackingMessaged.TheImpl as frame-packing-messaged
use Rattle.kind_orientation.specs.contracts.Orientation as orientation-struct
use Rattle.kind_orientation.proofs.Orientation.TheLaws as orientation-laws
use Rattle.held.specs.contracts.HeldOrientation as held-orientation
use Rattle.held.proofs.HeldOrientation.TheLaws as held-orientation-laws
use Rattle.held.specs.contracts.HeldOrientationHeldRecord.TheImpl as orientation-record
use Rattle.feeding.specs.contracts.filling.HeldOrientationMessaged.TheImpl as orientation-messaged
use Rattle.kind_equirectangular.specs.contracts.Equirectangular as equirectangular-struct
use Rattle.kind_equirectangular.proofs.Equirectangular.TheLaws as equirectangular-laws
use Rattle.held.specs.contracts.HeldEquirectangular as held-equirectangular
use Rattle.held.proofs.HeldEquirectangular.TheLaws as held-equirectangular-laws
use Rattle.held.specs.contracts.HeldEquirectangularHeldRecord.TheImpl as equirectangular-record
use Rattle.feeding.specs.contracts.filling.HeldEquirectangularMessaged.TheImpl as equirectangular-messaged
use Rattle.kind_rotation.specs.contracts.Rotation as rotation-struct
use Rattle.kind_rotation.proofs.Rotation.TheLaws as rotation-laws
use Rattle.held.specs.contracts.HeldRotation as held-rotation
use Rattle.held.proofs.HeldRotation.TheLaws as held-rotation-laws
use Rattle.held.specs.contracts.HeldRotationHeldRecord.TheImpl as rotation-record
use Rattle.feeding.specs.contracts.filling.HeldRotationMessaged.TheImpl as rotation-messaged
use Rattle.slots.specs.declared.Slot.{Slot}
use Rattle.slots.specs.declared.Slots.{Slots}
use Rattle.feeding.proofs.feed_slot.Kinds as feed-slot-kinds
use Rattle.feeding.proofs.feed_slot.Reads as feed-slot-reads
use Rattle.feeding.proofs.feed.Kinds as feed-kinds
use Rattle.feeding.proofs.feed.Reads as feed-reads
use Rattle.feeding.proofs.filling.feed_slot.Kinds as filled-slot-kinds
use Rattle.feeding.proofs.filling.feed_slot.Reads as filled-slot-reads
use Rattle.feeding.proofs.filling.feed.Kinds as filled-feed-kinds
use Rattle.feeding.proofs.filling.feed.Reads as filled-feed-reads
use Rattle.feeding.proofs.filling.fill.Kinds as fill-kinds
use Rattle.feeding.proofs.filling.fill.Reads as fill-reads
use Rattle.feeding.proofs.filling.HeldFramePackingMessaged.left_by.Kinds as frame-packing-left-by-kinds
use Rattle.feeding.proofs.filling.HeldFramePackingMessaged.left_by.Reads as frame-packing-left-by-reads
use Rattle.feeding.proofs.filling.HeldOrientationMessaged.left_by.Kinds as orientation-left-by-kinds
use Rattle.feeding.proofs.filling.HeldOrientationMessaged.left_by.Reads as orientation-left-by-reads
use Rattle.feeding.proofs.filling.HeldEquirectangularMessaged.left_by.Kinds as equirectangular-left-by-kinds
use Rattle.feeding.proofs.filling.HeldEquirectangularMessaged.left_by.Reads as equirectangular-left-by-reads
use Rattle.feeding.proofs.filling.HeldRotationMessaged.left_by.Kinds as rotation-left-by-kinds
use Rattle.feeding.proofs.filling.HeldRotationMessaged.left_by.Reads as rotation-left-by-reads
use Rattle.feeding.proofs.filling.region_wise.Kinds as region-wise-kinds
use Rattle.feeding.proofs.filling.region_wise.Reads as region-wise-reads
use Rattle.feeding.proofs.filling.unheld.Kinds as unheld-kinds
use Rattle.feeding.proofs.filling.unheld.Reads as unheld-reads

-- what stands at exit of the first parameter
abbrev slot_left : (κs : Lfts 2) → AtExit (ended_of 2 feed-slot-kinds.ps feed-slot-kinds.r) κs → Slot
slot_left κs s = s.0.now

abbrev slots_left : (κs : Lfts 2) → AtExit (ended_of 2 feed-kinds.ps feed-kinds.r) κs → Slots
slots_left κs s = s.0.now

abbrev filled_slot_left : (κs : Lfts 2) → AtExit (ended_of 2 filled-slot-kinds.ps filled-slot-kinds.r) κs → Slot
filled_slot_left κs s = s.0.now

abbrev filled_left : (κs : Lfts 2) → AtExit (ended_of 2 filled-feed-kinds.ps filled-feed-kinds.r) κs → Slots
filled_left κs s = s.0.now

parted : {A B : Type 0} {x y : A} {s t : B} {w : B × A} → ◌≡◌ {A = B × A} (s, x) w → (t, y) ≡ w → (x ≡ y) × (s ≡ t)
parted {A = A} {B = B} p q = (ap (λ (w : B × A). w.1) (p ∙ sym q), ap (λ (w : B × A). w.0) (p ∙ sym q))

pub feed-slot-determined : DeterminesAll 2 feed-slot-kinds.ps feed-slot-kinds.r slot_left feed-slot-reads.Post
feed-slot-determined κs a x y s t p q = parted p q

pub feed-determined : DeterminesAll 2 feed-kinds.ps feed-kinds.r slots_left feed-reads.Post
feed-determined κs a x y s t p q = parted p q

pub frame-packing-left-by-determined : Determines 0 frame-packing-left-by-kinds.ps frame-packing-left-by-kinds.r frame-packing-left-by-reads.Post
frame-packing-left-by-determined κs a x y s t p q = p ∙ sym q

pub orientation-left-by-determined : Determines 0 orientation-left-by-kinds.ps orientation-left-by-kinds.r orientation-left-by-reads.Post
orientation-left-by-determined κs a x y s t p q = p ∙ sym q

pub equirectangular-left-by-determined : Determines 0 equirectangular-left-by-kinds.ps equirectangular-left-by-kinds.r equirectangular-left-by-reads.Post
equirectangular-left-by-determined κs a x y s t p q = p ∙ sym q

pub rotation-left-by-determined : Determines 0 rotation-left-by-kinds.ps rotation-left-by-kinds.r rotation-left-by-reads.Post
rotation-left-by-determined κs a x y s t p q = p ∙ sym q

pub region-wise-determined : Determines 1 region-wise-kinds.ps region-wise-kinds.r region-wise-reads.Post
region-wise-determined κs a x y s t p q = p ∙ sym q

pub unheld-determined : Determines 1 unheld-kinds.ps unheld-kinds.r unheld-reads.Post
unheld-determined κs a x y s t p q = p ∙ sym q

pub filled-slot-determined : DeterminesAll 2 filled-slot-kinds.ps filled-slot-kinds.r filled_slot_left filled-slot-reads.Post
filled-slot-determined κs a x y s t p q = parted p q

pub filled-feed-determined : DeterminesAll 2 filled-feed-kinds.ps filled-feed-kinds.r filled_left filled-feed-reads.Post
filled-feed-determined κs a x y s t p q = parted p q

-- of any kind whose record comes in its message, where what is held is told by how it is seen
module _ (T : RattleType) (R : RattleType) (L : Laws T) (L' : Laws R) (C : IsCopy T) (C' : IsCopy R) (M : messaged.Ghosts T.Denot R.Denot) (M-dict : Dict)
    (H : held-record.Ghosts T.Denot R.Denot) (H-dict : Dict) (K : clone.Ghosts T.Denot) (K-dict : Dict) (K' : clone.Ghosts R.Denot) (K'-dict : Dict)
    (tells : (x y : T.Denot) → H.as_held x ≡ H.as_held y → x ≡ y) where
  pub fill-determined : Determines 3 (fill-kinds.ps T R L L' C C') (fill-kinds.r T R L L' C C') (fill-reads.Post T R L L' C C' M M-dict H H-dict K K-dict K' K'-dict)
  fill-determined κs a x y s t p q = told x y (p ∙ sym q)
    where
      told : (x y : Filled T.Denot) → filled_as H.as_held x ≡ filled_as H.as_held y → x ≡ y
      told x y e =
          let h = tells x.held y.held (ap (λ (f : Filled _). f.held) e) in
          let r = ap (λ (f : Filled _). f.reply) e in
          let m = ap (λ (f : Filled _). f.taken) e in
          λ i. record { reply = r i; taken = m i; held = h i }

-- and of each such kind, where what is held is seen as it is
module _ (T : RattleType) (R : RattleType) (L : Laws T) (L' : Laws R) (C : IsCopy T) (C' : IsCopy R) (M : messaged.Ghosts T.Denot R.Denot) (M-dict : Dict)
    (H : held-record.Ghosts T.Denot R.Denot) (H-dict : Dict) where
  abbrev pub FillDetermined : Type 0
  FillDetermined = Determines 3 (fill-kinds.ps T R L L' C C') (fill-kinds.r T R L L' C C')
      (fill-reads.Post T R L L' C C' M M-dict H H-dict (copy-impl.ghosts T) (copy-impl.dict T) (copy-impl.ghosts R) (copy-impl.dict R))

  fill-told : ((x y : T.Denot) → H.as_held x ≡ H.as_held y → x ≡ y) → FillDetermined
  fill-told = fill-determined T R L L' C C' M M-dict H H-dict (copy-impl.ghosts T) (copy-impl.dict T) (copy-impl.ghosts R) (copy-impl.dict R)

pub frame-packing-determined : FillDetermined held-frame-packing.the_row frame-packing-struct.the_row held-frame-packing-laws.the_row_laws frame-packing-laws.the_row_laws held-frame-packing-laws.the_row_copy frame-packing-laws.the_row_copy
    frame-packing-messaged.ghosts frame-packing-messaged.dict frame-packing-record.ghosts frame-packing-record.dict
frame-packing-determined = fill-told held-frame-packing.the_row frame-packing-struct.the_row held-frame-packing-laws.the_row_laws frame-packing-laws.the_row_laws held-frame-packing-laws.the_row_copy frame-packing-laws.the_row_copy
    frame-packing-messaged.ghosts frame-packing-messaged.dict frame-packing-record.ghosts frame-packing-record.dict
    (λ x y e. e)

pub orientation-determined : FillDetermined held-orientation.the_row orientation-struct.the_row held-orientation-laws.the_row_laws orientation-laws.the_row_laws held-orientation-laws.the_row_copy orientation-laws.the_row_copy
    orientation-messaged.ghosts orientation-messaged.dict orientation-record.ghosts orientation-record.dict
orientation-determined = fill-told held-orientation.the_row orientation-struct.the_row held-orientation-laws.the_row_laws orientation-laws.the_row_laws held-orientation-laws.the_row_copy orientation-laws.the_row_copy
    orientation-messaged.ghosts orientation-messaged.dict orientation-record.ghosts orientation-record.dict
    (λ x y e. e)

pub equirectangular-determined : FillDetermined held-equirectangular.the_row equirectangular-struct.the_row held-equirectangular-laws.the_row_laws equirectangular-laws.the_row_laws held-equirectangular-laws.the_row_copy equirectangular-laws.the_row_copy
    equirectangular-messaged.ghosts equirectangular-messaged.dict equirectangular-record.ghosts equirectangular-record.dict
equirectangular-determined = fill-told held-equirectangular.the_row equirectangular-struct.the_row held-equirectangular-laws.the_row_laws equirectangular-laws.the_row_laws held-equirectangular-laws.the_row_copy equirectangular-laws.the_row_copy
    equirectangular-messaged.ghosts equirectangular-messaged.dict equirectangular-record.ghosts equirectangular-record.dict
    (λ x y e. e)

pub rotation-determined : FillDetermined held-rotation.the_row rotation-struct.the_row held-rotation-laws.the_row_laws rotation-laws.the_row_laws held-rotation-laws.the_row_copy rotation-laws.the_row_copy
    rotation-messaged.ghosts rotation-messaged.dict rotation-record.ghosts rotation-record.dict
rotation-determined = fill-told held-rotation.the_row rotation-struct.the_row held-rotation-laws.the_row_laws rotation-laws.the_row_laws held-rotation-laws.the_row_copy rotation-laws.the_row_copy
    rotation-messaged.ghosts rotation-messaged.dict rotation-record.ghosts rotation-record.dict
    (λ x y e. e)
