-- The parts of the slots that a call reads and writes in place (`places`' `Within`): slot i, its mark, what it holds, each record of that, and the record's mark, value and persistence flag.
-- Assumes `Logic`, where a model is.
use mathlib.Core.Path.{◌≡◌, refl}
use mathlib.Core.Bool.{Bool, true, false, not}
use Prim.Native.Nat.{ℕ, ◌+◌, ◌*◌, ◌<◌}
use lib.Dec.{T, eqb}
use lib.ListN.{set}
use lib.Seq.{set-get_or}
use seplogic.Ra.Ura.{Ura}
use base.Fml.{Share}
use types.Logic.{Logic}
use denote.Array.{Array}
use denote.Builtin.{u8}
use denote.Struct.At.{FieldAt, put_at}
use denote.Struct.Values.{Values}
use denote.Struct.Struct.{Struct}
use denote.Struct.Declared.{shape}
use borrow.Struct.Behind.{look_at, put_at_lem}
use Rattle.places.proofs.Within.{Within, as-record, deeper, element}
use Rattle.places.proofs.Store.{Seen, Part, field-seen, byte-part, field-part, seen-in}
use Rattle.slots.specs.Slots.{is_open, holding, slot_at, with_slot, closed_slot}
use Rattle.held.specs.declared.Held.{Held}
use Rattle.slots.specs.declared.Slot.{Slot}
use Rattle.slots.specs.declared.Slots.{Slots}
use Rattle.kind_frame_packing.specs.contracts.layout.Layout as layout
use Rattle.kind_frame_packing.proofs.layout.Layout.TheLaws as layout'
use Rattle.kind_frame_packing.specs.contracts.FramePacking as frame-packing-record
use Rattle.kind_frame_packing.proofs.FramePacking.TheLaws as frame-packing-record'
use Rattle.held.specs.contracts.HeldFramePacking as frame-packing
use Rattle.held.proofs.HeldFramePacking.TheLaws as frame-packing'
use Rattle.kind_orientation.specs.contracts.Orientation as orientation-record
use Rattle.kind_orientation.proofs.Orientation.TheLaws as orientation-record'
use Rattle.held.specs.contracts.HeldOrientation as orientation
use Rattle.held.proofs.HeldOrientation.TheLaws as orientation'
use Rattle.kind_equirectangular.specs.contracts.Equirectangular as equirectangular-record
use Rattle.kind_equirectangular.proofs.Equirectangular.TheLaws as equirectangular-record'
use Rattle.held.specs.contracts.HeldEquirectangular as equirectangular
use Rattle.held.proofs.HeldEquirectangular.TheLaws as equirectangular'
use Rattle.kind_rotation.specs.contracts.Rotation as rotation-record
use Rattle.kind_rotation.proofs.Rotation.TheLaws as rotation-record'
use Rattle.held.specs.contracts.HeldRotation as rotation
use Rattle.held.proofs.HeldRotation.TheLaws as rotation'
use Rattle.kind_region_wise.specs.contracts.RegionWise as region-wise-record
use Rattle.kind_region_wise.proofs.RegionWise.TheLaws as region-wise-record'
use Rattle.held.specs.contracts.HeldRegionWise as region-wise
use Rattle.held.proofs.HeldRegionWise.TheLaws as region-wise'
use Rattle.held.specs.contracts.Held as held
use Rattle.held.proofs.Held.TheLaws as held'
use Rattle.slots.specs.contracts.Slot as slot
use Rattle.slots.proofs.Slot.TheLaws as slot'
use Rattle.slots.specs.contracts.Slots as slots
use Rattle.slots.proofs.Slots.TheLaws as slots'

-- the code's tests, and of a slot's mark whether the slot is open
pub no : (y : Bool) → T (not y) → y ≡ false
no true t = absurd t
no false t = refl

pub yes : (y : Bool) → T (not (not y)) → y ≡ true
yes true t = refl
yes false t = absurd t

pub off : (s : Slot) → T (not (eqb s.«open» 1)) → is_open s ≡ false
unfolding is_open
off s t = no (eqb s.«open» 1) t

pub on : (s : Slot) → T (not (not (eqb s.«open» 1))) → is_open s ≡ true
unfolding is_open
on s t = yes (eqb s.«open» 1) t

-- ---- the slots

module _ {M : Type 1} {𝓤 : Ura M} (𝓛 : Logic 𝓤) where
  pub slot-put : (q : Share) (h : Slots) (i b o : ℕ) → i < 8 → (x y : Slot) → Within 𝓛 q slots.the_row slot.the_row (with_slot h i x) (with_slot h i y) x y b o (i * 760 + (o + 0))
  unfolding with_slot
  slot-put q h i b o within x y = deeper 𝓛 q slots.the_row (Array slot.the_row 8) slot.the_row (with_slot h i x) (with_slot h i y) (set h.slots i x) (set h.slots i y) x y b o (o + 0) (i * 760 + (o + 0))
      (put_at_lem 𝓛 q slots.the_type slots'.the_loose 0 0 refl refl (b, o) (with_slot h i x) (with_slot h i y) (set h.slots i x, tt) (set h.slots i y) refl refl)
      (element 𝓛 q slot.the_row 8 tt h.slots i x y b (o + 0) within)

pub slot_same : (h : Slots) (i : ℕ) → with_slot h i (slot_at h i) ≡ h
unfolding with_slot slot_at
slot_same h i = λ j. record { slots = set-get_or h.slots i closed_slot j }

-- ---- a slot

abbrev pub mark : Seen slot.the_row u8
mark = field-seen slot.the_type u8 0 0 (λ s. s.«open») refl (λ M 𝓤 𝓛 q s b p. look_at 𝓛 q slot.the_type slot'.the_loose 0 0 refl refl (b, p) s (s.«open», (s.held, tt)) refl)

pub records-put : {M : Type 1} {𝓤 : Ura M} (𝓛 : Logic 𝓤) (q : Share) (s : Slot) (b p : ℕ) (h : Held) → Within 𝓛 q slot.the_row (Struct (shape held.the_type)) s (holding s h) ((held.the_type).to s.held) ((held.the_type).to h) b p (p + 8)
unfolding holding
records-put 𝓛 q s b p h = put_at_lem 𝓛 q slot.the_type slot'.the_loose 1 8 refl refl (b, p) s (holding s h) (s.«open», (s.held, tt)) h refl refl

pub records-same : (s : Slot) → holding s s.held ≡ s
unfolding holding
records-same s = refl

abbrev pub records : Part slot.the_row held.the_row
records = field-part slot.the_type held.the_type 1 8 (λ s. s.held) holding refl records-same (λ M 𝓤 𝓛 q s b p h. records-put 𝓛 q s b p h)

-- ---- what it holds

abbrev values : Held → Values (held.the_type).parts
values h = (h.frame_packing, (h.orientation, (h.equirectangular, (h.rotation, (h.region_wise, tt)))))

abbrev made : Values (held.the_type).parts → Held
made v = record { frame_packing = v.0; orientation = v.1.0; equirectangular = v.1.1.0; rotation = v.1.1.1.0; region_wise = v.1.1.1.1.0 }

-- the same records but for the k-th
abbrev pub but : (k : ℕ) → Held → (FieldAt (held.the_type).parts k).Value → Held
but k h x = made (put_at (held.the_type).parts k x (values h))

abbrev pub frame-packing-in : Part held.the_row frame-packing.the_row
frame-packing-in = field-part held.the_type frame-packing.the_type 0 0 (λ h. h.frame_packing) (but 0) refl (λ h. refl) (λ M 𝓤 𝓛 q h b p x. put_at_lem 𝓛 q held.the_type held'.the_loose 0 0 refl refl (b, p) h (but 0 h x) (values h) x refl refl)

abbrev pub orientation-in : Part held.the_row orientation.the_row
orientation-in = field-part held.the_type orientation.the_type 1 24 (λ h. h.orientation) (but 1) refl (λ h. refl) (λ M 𝓤 𝓛 q h b p x. put_at_lem 𝓛 q held.the_type held'.the_loose 1 24 refl refl (b, p) h (but 1 h x) (values h) x refl refl)

abbrev pub equirectangular-in : Part held.the_row equirectangular.the_row
equirectangular-in = field-part held.the_type equirectangular.the_type 2 28 (λ h. h.equirectangular) (but 2) refl (λ h. refl) (λ M 𝓤 𝓛 q h b p x. put_at_lem 𝓛 q held.the_type held'.the_loose 2 28 refl refl (b, p) h (but 2 h x) (values h) x refl refl)

abbrev pub rotation-in : Part held.the_row rotation.the_row
rotation-in = field-part held.the_type rotation.the_type 3 40 (λ h. h.rotation) (but 3) refl (λ h. refl) (λ M 𝓤 𝓛 q h b p x. put_at_lem 𝓛 q held.the_type held'.the_loose 3 40 refl refl (b, p) h (but 3 h x) (values h) x refl refl)

abbrev pub region-wise-in : Part held.the_row region-wise.the_row
region-wise-in = field-part held.the_type region-wise.the_type 4 88 (λ h. h.region_wise) (but 4) refl (λ h. refl) (λ M 𝓤 𝓛 q h b p x. put_at_lem 𝓛 q held.the_type held'.the_loose 4 88 refl refl (b, p) h (but 4 h x) (values h) x refl refl)

-- ---- a held record: its mark, its value, and the persistence flag in that

abbrev pub frame-packing-on : Part frame-packing.the_row u8
frame-packing-on = byte-part frame-packing.the_type 0 0 (λ x. x.on) (λ x y. record { on = y; value = x.value }) refl (λ x. refl) (λ M 𝓤 𝓛 q x b p y. put_at_lem 𝓛 q frame-packing.the_type frame-packing'.the_loose 0 0 refl refl (b, p) x (record { on = y; value = x.value }) (x.on, (x.value, tt)) y refl refl)

abbrev pub frame-packing-value : Part frame-packing.the_row frame-packing-record.the_row
frame-packing-value = field-part frame-packing.the_type frame-packing-record.the_type 1 4 (λ x. x.value) (λ x y. record { on = x.on; value = y }) refl (λ x. refl) (λ M 𝓤 𝓛 q x b p y. put_at_lem 𝓛 q frame-packing.the_type frame-packing'.the_loose 1 4 refl refl (b, p) x (record { on = x.on; value = y }) (x.on, (x.value, tt)) y refl refl)

abbrev layout-in : Seen frame-packing-record.the_row layout.the_row
layout-in = field-seen frame-packing-record.the_type layout.the_row 2 5 (λ x. x.layout) refl (λ M 𝓤 𝓛 q x b p. as-record 𝓛 q frame-packing-record.the_row layout.the_type x x x.layout x.layout b p (p + 5) (look_at 𝓛 q frame-packing-record.the_type frame-packing-record'.the_loose 2 5 refl refl (b, p) x (x.fp_arrangement_id, (x.fp_arrangement_cancel_flag, (x.layout, (x.fp_upsampled_aspect_ratio_flag, tt)))) refl))

abbrev layout_stays : Seen layout.the_row u8
layout_stays = field-seen layout.the_type u8 5 13 (λ x. x.fp_arrangement_persistence_flag) refl (λ M 𝓤 𝓛 q x b p. look_at 𝓛 q layout.the_type layout'.the_loose 5 13 refl refl (b, p) x (x.fp_arrangement_type, (x.fp_quincunx_sampling_flag, (x.fp_content_interpretation_type, (x.flags, (x.grid, (x.fp_arrangement_persistence_flag, tt)))))) refl)

abbrev pub frame-packing-stays : Seen frame-packing.the_row u8
frame-packing-stays = seen-in frame-packing-value.at (seen-in layout-in layout_stays)

abbrev pub orientation-on : Part orientation.the_row u8
orientation-on = byte-part orientation.the_type 0 0 (λ x. x.on) (λ x y. record { on = y; value = x.value }) refl (λ x. refl) (λ M 𝓤 𝓛 q x b p y. put_at_lem 𝓛 q orientation.the_type orientation'.the_loose 0 0 refl refl (b, p) x (record { on = y; value = x.value }) (x.on, (x.value, tt)) y refl refl)

abbrev pub orientation-value : Part orientation.the_row orientation-record.the_row
orientation-value = field-part orientation.the_type orientation-record.the_type 1 1 (λ x. x.value) (λ x y. record { on = x.on; value = y }) refl (λ x. refl) (λ M 𝓤 𝓛 q x b p y. put_at_lem 𝓛 q orientation.the_type orientation'.the_loose 1 1 refl refl (b, p) x (record { on = x.on; value = y }) (x.on, (x.value, tt)) y refl refl)

abbrev pub orientation-stays : Seen orientation.the_row u8
orientation-stays = seen-in orientation-value.at (field-seen orientation-record.the_type u8 1 1 (λ x. x.display_orientation_persistence_flag) refl (λ M 𝓤 𝓛 q x b p. look_at 𝓛 q orientation-record.the_type orientation-record'.the_loose 1 1 refl refl (b, p) x (x.display_orientation_cancel_flag, (x.display_orientation_persistence_flag, (x.display_orientation_transform_type, tt))) refl))

abbrev pub equirectangular-on : Part equirectangular.the_row u8
equirectangular-on = byte-part equirectangular.the_type 0 0 (λ x. x.on) (λ x y. record { on = y; value = x.value }) refl (λ x. refl) (λ M 𝓤 𝓛 q x b p y. put_at_lem 𝓛 q equirectangular.the_type equirectangular'.the_loose 0 0 refl refl (b, p) x (record { on = y; value = x.value }) (x.on, (x.value, tt)) y refl refl)

abbrev pub equirectangular-value : Part equirectangular.the_row equirectangular-record.the_row
equirectangular-value = field-part equirectangular.the_type equirectangular-record.the_type 1 1 (λ x. x.value) (λ x y. record { on = x.on; value = y }) refl (λ x. refl) (λ M 𝓤 𝓛 q x b p y. put_at_lem 𝓛 q equirectangular.the_type equirectangular'.the_loose 1 1 refl refl (b, p) x (record { on = x.on; value = y }) (x.on, (x.value, tt)) y refl refl)

abbrev pub equirectangular-stays : Seen equirectangular.the_row u8
equirectangular-stays = seen-in equirectangular-value.at (field-seen equirectangular-record.the_type u8 1 1 (λ x. x.erp_persistence_flag) refl (λ M 𝓤 𝓛 q x b p. look_at 𝓛 q equirectangular-record.the_type equirectangular-record'.the_loose 1 1 refl refl (b, p) x (x.erp_cancel_flag, (x.erp_persistence_flag, (x.erp_guard_band_flag, (x.erp_guard_band_type, (x.erp_left_guard_band_width, (x.erp_right_guard_band_width, tt)))))) refl))

abbrev pub rotation-on : Part rotation.the_row u8
rotation-on = byte-part rotation.the_type 0 0 (λ x. x.on) (λ x y. record { on = y; value = x.value }) refl (λ x. refl) (λ M 𝓤 𝓛 q x b p y. put_at_lem 𝓛 q rotation.the_type rotation'.the_loose 0 0 refl refl (b, p) x (record { on = y; value = x.value }) (x.on, (x.value, tt)) y refl refl)

abbrev pub rotation-value : Part rotation.the_row rotation-record.the_row
rotation-value = field-part rotation.the_type rotation-record.the_type 1 8 (λ x. x.value) (λ x y. record { on = x.on; value = y }) refl (λ x. refl) (λ M 𝓤 𝓛 q x b p y. put_at_lem 𝓛 q rotation.the_type rotation'.the_loose 1 8 refl refl (b, p) x (record { on = x.on; value = y }) (x.on, (x.value, tt)) y refl refl)

abbrev pub rotation-stays : Seen rotation.the_row u8
rotation-stays = seen-in rotation-value.at (field-seen rotation-record.the_type u8 1 1 (λ x. x.sphere_rotation_persistence_flag) refl (λ M 𝓤 𝓛 q x b p. look_at 𝓛 q rotation-record.the_type rotation-record'.the_loose 1 1 refl refl (b, p) x (x.sphere_rotation_cancel_flag, (x.sphere_rotation_persistence_flag, (x.yaw_rotation, (x.pitch_rotation, (x.roll_rotation, (x.«degrees», tt)))))) refl))

abbrev pub region-wise-on : Part region-wise.the_row u8
region-wise-on = byte-part region-wise.the_type 0 0 (λ x. x.on) (λ x y. record { on = y; value = x.value }) refl (λ x. refl) (λ M 𝓤 𝓛 q x b p y. put_at_lem 𝓛 q region-wise.the_type region-wise'.the_loose 0 0 refl refl (b, p) x (record { on = y; value = x.value }) (x.on, (x.value, tt)) y refl refl)

abbrev pub region-wise-value : Part region-wise.the_row region-wise-record.the_row
region-wise-value = field-part region-wise.the_type region-wise-record.the_type 1 4 (λ x. x.value) (λ x y. record { on = x.on; value = y }) refl (λ x. refl) (λ M 𝓤 𝓛 q x b p y. put_at_lem 𝓛 q region-wise.the_type region-wise'.the_loose 1 4 refl refl (b, p) x (record { on = x.on; value = y }) (x.on, (x.value, tt)) y refl refl)

abbrev pub region-wise-stays : Seen region-wise.the_row u8
region-wise-stays = seen-in region-wise-value.at (field-seen region-wise-record.the_type u8 1 1 (λ x. x.rwp_persistence_flag) refl (λ M 𝓤 𝓛 q x b p. look_at 𝓛 q region-wise-record.the_type region-wise-record'.the_loose 1 1 refl refl (b, p) x (x.rwp_cancel_flag, (x.rwp_persistence_flag, (x.rwp_constituent_picture_matching_flag, (x.rwp_num_packed_regions, (x.rwp_proj_picture_width, (x.rwp_proj_picture_height, (x.rwp_packed_picture_width, (x.rwp_packed_picture_height, (x.«regions», tt))))))))) refl))
