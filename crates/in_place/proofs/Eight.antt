-- The slots as `places`' store: eight elements, each with a mark; and the records that a slot holds.
-- Assumes `Logic`, where a model is.
use mathlib.Core.Path.{refl}
use native.Mathlib.Omega.{arith}
use denote.Array.{Array}
use denote.Memory.{lone}
use denote.Struct.Laws as LL
use Rattle.places.proofs.Store.{Store, Part, data_of, part_in}
use Rattle.slots.specs.Slots.{slot_at, with_slot}
use Rattle.in_place.proofs.Parts.{slot-put, slot_same, mark, records, frame-packing-in, orientation-in, equirectangular-in, rotation-in, region-wise-in}
use Rattle.held.specs.contracts.HeldFramePacking as frame-packing
use Rattle.held.specs.contracts.HeldOrientation as orientation
use Rattle.held.specs.contracts.HeldEquirectangular as equirectangular
use Rattle.held.specs.contracts.HeldRotation as rotation
use Rattle.held.specs.contracts.HeldRegionWise as region-wise
use Rattle.held.specs.contracts.Held as held
use Rattle.slots.specs.contracts.Slot as slot
use Rattle.slots.proofs.Slot.TheLaws as slot'
use Rattle.slots.specs.contracts.Slots as slots
use Rattle.slots.proofs.Slots.TheLaws as slots'

abbrev pub eight-slots : Store
eight-slots = record {
  R = slots.the_row;
  P = slot.the_row;
  elements = lone (Array slot.the_row 8).mir;
  width = 760;
  get = slot_at;
  put = with_slot;
  all = data_of slots.the_type slots'.the_laws slots'.the_plain;
  copy = λ 𝓛. LL.copied slots.the_type slots'.the_copy 𝓛;
  part = data_of slot.the_type slot'.the_laws slot'.the_plain;
  mark = mark;
  array = refl;
  near = λ n l. omega arith;
  changed = λ 𝓛 q h n b o l x y. slot-put 𝓛 q h n b o l x y;
  same = slot_same;
}

abbrev pub all_held : Part slot.the_row held.the_row
all_held = records

abbrev pub held-frame-packing : Part slot.the_row frame-packing.the_row
held-frame-packing = part_in records frame-packing-in

abbrev pub held-orientation : Part slot.the_row orientation.the_row
held-orientation = part_in records orientation-in

abbrev pub held-equirectangular : Part slot.the_row equirectangular.the_row
held-equirectangular = part_in records equirectangular-in

abbrev pub held-rotation : Part slot.the_row rotation.the_row
held-rotation = part_in records rotation-in

abbrev pub held-region-wise : Part slot.the_row region-wise.the_row
held-region-wise = part_in records region-wise-in
