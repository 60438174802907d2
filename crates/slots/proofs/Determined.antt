-- Each public contract determines its result.
-- Assumes nothing.
use mathlib.Core.Path.{◌≡◌, sym, ap, ◌∙◌}
use contract.Lifetimes.{Lfts}
use denote.Triple.Clauses.{AtExit}
use borrow.Fn.Kinds.{ended_of}
use Rattle.bits.proofs.Determined.{Determines, DeterminesAll}
use Rattle.held.specs.declared.Held.{Held}
use Rattle.slots.specs.declared.Slot.{Slot}
use Rattle.slots.specs.declared.Slots.{Slots}
use Rattle.slots.proofs.number.Kinds as number-kinds
use Rattle.slots.proofs.number.Reads as number-reads
use Rattle.slots.proofs.Slot.fresh.Kinds as fresh-kinds
use Rattle.slots.proofs.Slot.fresh.Reads as fresh-reads
use Rattle.slots.proofs.Slot.closed.Kinds as closed-slot-kinds
use Rattle.slots.proofs.Slot.closed.Reads as closed-slot-reads
use Rattle.slots.proofs.Slot.is_open.Kinds as is-open-kinds
use Rattle.slots.proofs.Slot.is_open.Reads as is-open-reads
use Rattle.slots.proofs.Slot.holding.Kinds as holding-kinds
use Rattle.slots.proofs.Slot.holding.Reads as holding-reads
use Rattle.slots.proofs.Slot.close.Kinds as close-slot-kinds
use Rattle.slots.proofs.Slot.close.Reads as close-slot-reads
use Rattle.slots.proofs.Slot.sequence.Kinds as sequence-slot-kinds
use Rattle.slots.proofs.Slot.sequence.Reads as sequence-slot-reads
use Rattle.slots.proofs.Slot.picture.Kinds as picture-slot-kinds
use Rattle.slots.proofs.Slot.picture.Reads as picture-slot-reads
use Rattle.slots.proofs.Slots.start.Kinds as start-kinds
use Rattle.slots.proofs.Slots.start.Reads as start-reads
use Rattle.slots.proofs.Slots.slot.Kinds as slot-kinds
use Rattle.slots.proofs.Slots.slot.Reads as slot-reads
use Rattle.slots.proofs.Slots.«open».Kinds as open-kinds
use Rattle.slots.proofs.Slots.«open».Reads as open-reads
use Rattle.slots.proofs.Slots.close.Kinds as close-kinds
use Rattle.slots.proofs.Slots.close.Reads as close-reads
use Rattle.slots.proofs.Slots.sequence.Kinds as sequence-kinds
use Rattle.slots.proofs.Slots.sequence.Reads as sequence-reads
use Rattle.slots.proofs.Slots.picture.Kinds as picture-kinds
use Rattle.slots.proofs.Slots.picture.Reads as picture-reads

-- what stands at exit of the first parameter, and of the last
abbrev slot_left : (κs : Lfts 1) → AtExit (ended_of 1 close-slot-kinds.ps close-slot-kinds.r) κs → Slot
slot_left κs s = s.0.now

abbrev slot_shown : (κs : Lfts 2) → AtExit (ended_of 2 picture-slot-kinds.ps picture-slot-kinds.r) κs → Slot × Held
slot_shown κs s = (s.0.now, s.1.0.now)

abbrev slots_left : (κs : Lfts 1) → AtExit (ended_of 1 close-kinds.ps close-kinds.r) κs → Slots
slots_left κs s = s.0.now

abbrev slots_shown : (κs : Lfts 2) → AtExit (ended_of 2 picture-kinds.ps picture-kinds.r) κs → Slots × Held
slots_shown κs s = (s.0.now, s.1.1.0.now)

module _ {A B : Type 0} where
  parted : {x y : A} {s t : B} {w : B × A} → ◌≡◌ {A = B × A} (s, x) w → (t, y) ≡ w → (x ≡ y) × (s ≡ t)
  parted p q = (ap (λ (w : B × A). w.1) (p ∙ sym q), ap (λ (w : B × A). w.0) (p ∙ sym q))

  shown : {C : Type 0} {x y : A} {s t : B} {h g : C} {w : B × (A × C)} → ◌≡◌ {A = B × (A × C)} (s, (x, h)) w → (t, (y, g)) ≡ w → (x ≡ y) × (◌≡◌ {A = B × C} (s, h) (t, g))
  shown {C = C} p q = (ap (λ (w : B × (A × C)). w.1.0) (p ∙ sym q), ap (λ (w : B × (A × C)). (w.0, w.1.1)) (p ∙ sym q))

pub number-determined : Determines 0 number-kinds.ps number-kinds.r number-reads.Post
number-determined κs a x y s t p q = p ∙ sym q

pub fresh-determined : Determines 0 fresh-kinds.ps fresh-kinds.r fresh-reads.Post
fresh-determined κs a x y s t p q = p ∙ sym q

pub closed-slot-determined : Determines 0 closed-slot-kinds.ps closed-slot-kinds.r closed-slot-reads.Post
closed-slot-determined κs a x y s t p q = p ∙ sym q

pub is-open-determined : Determines 1 is-open-kinds.ps is-open-kinds.r is-open-reads.Post
is-open-determined κs a x y s t p q = p ∙ sym q

pub holding-determined : Determines 0 holding-kinds.ps holding-kinds.r holding-reads.Post
holding-determined κs a x y s t p q = p ∙ sym q

pub close-slot-determined : DeterminesAll 1 close-slot-kinds.ps close-slot-kinds.r slot_left close-slot-reads.Post
close-slot-determined κs a x y s t p q = parted p q

pub sequence-slot-determined : DeterminesAll 1 sequence-slot-kinds.ps sequence-slot-kinds.r slot_left sequence-slot-reads.Post
sequence-slot-determined κs a x y s t p q = parted p q

pub picture-slot-determined : DeterminesAll 2 picture-slot-kinds.ps picture-slot-kinds.r slot_shown picture-slot-reads.Post
picture-slot-determined κs a x y s t p q = shown p q

pub start-determined : Determines 0 start-kinds.ps start-kinds.r start-reads.Post
start-determined κs a x y s t p q = p ∙ sym q

pub slot-determined : Determines 1 slot-kinds.ps slot-kinds.r slot-reads.Post
slot-determined κs a x y s t p q = p ∙ sym q

pub open-determined : DeterminesAll 1 open-kinds.ps open-kinds.r slots_left open-reads.Post
open-determined κs a x y s t p q = parted p q

pub close-determined : DeterminesAll 1 close-kinds.ps close-kinds.r slots_left close-reads.Post
close-determined κs a x y s t p q = parted p q

pub sequence-determined : DeterminesAll 1 sequence-kinds.ps sequence-kinds.r slots_left sequence-reads.Post
sequence-determined κs a x y s t p q = parted p q

pub picture-determined : DeterminesAll 2 picture-kinds.ps picture-kinds.r slots_shown picture-reads.Post
picture-determined κs a x y s t p q = shown p q
