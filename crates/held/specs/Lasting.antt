-- The five kinds that are held, and what is held of each: a mark, and a record.
use Rattle.std.specs.Prelude.{ℕ}
use Rattle.answers.specs.Listed.{Record}
use Rattle.answers.specs.declared.kind.Kind.{Kind}
use Rattle.answers.specs.declared.kind.Kind.TheVariants as kinds
use Rattle.held.specs.declared.HeldFramePacking.{HeldFramePacking}
use Rattle.held.specs.declared.HeldOrientation.{HeldOrientation}
use Rattle.held.specs.declared.HeldEquirectangular.{HeldEquirectangular}
use Rattle.held.specs.declared.HeldRotation.{HeldRotation}
use Rattle.held.specs.declared.HeldRegionWise.{HeldRegionWise}

-- "kinds 45, 47, 150, 154 and 155 are held, one of each"
pub data Lasting : Type 0 where
  frame_packing orientation equirectangular rotation region_wise : Lasting

abbrev pub kind_of : Lasting → Kind
kind_of frame_packing = kinds.FramePacking
kind_of orientation = kinds.Orientation
kind_of equirectangular = kinds.Equirectangular
kind_of rotation = kinds.Rotation
kind_of region_wise = kinds.RegionWise

abbrev pub RecordOf : Lasting → Type 0
RecordOf k = Record (kind_of k)

abbrev pub cancel_of : (k : Lasting) → RecordOf k → ℕ
cancel_of frame_packing a = a.fp_arrangement_cancel_flag
cancel_of orientation a = a.display_orientation_cancel_flag
cancel_of equirectangular a = a.erp_cancel_flag
cancel_of rotation a = a.sphere_rotation_cancel_flag
cancel_of region_wise a = a.rwp_cancel_flag

abbrev pub persistence_of : (k : Lasting) → RecordOf k → ℕ
persistence_of frame_packing a = a.layout.fp_arrangement_persistence_flag
persistence_of orientation a = a.display_orientation_persistence_flag
persistence_of equirectangular a = a.erp_persistence_flag
persistence_of rotation a = a.sphere_rotation_persistence_flag
persistence_of region_wise a = a.rwp_persistence_flag

abbrev pub HeldOf : Lasting → Type 0
HeldOf frame_packing = HeldFramePacking
HeldOf orientation = HeldOrientation
HeldOf equirectangular = HeldEquirectangular
HeldOf rotation = HeldRotation
HeldOf region_wise = HeldRegionWise

abbrev pub marked : (k : Lasting) → ℕ → RecordOf k → HeldOf k
marked frame_packing mark a = record { on = mark; value = a }
marked orientation mark a = record { on = mark; value = a }
marked equirectangular mark a = record { on = mark; value = a }
marked rotation mark a = record { on = mark; value = a }
marked region_wise mark a = record { on = mark; value = a }

abbrev pub mark_of : (k : Lasting) → HeldOf k → ℕ
mark_of frame_packing h = h.on
mark_of orientation h = h.on
mark_of equirectangular h = h.on
mark_of rotation h = h.on
mark_of region_wise h = h.on

abbrev pub value_of : (k : Lasting) → HeldOf k → RecordOf k
value_of frame_packing h = h.value
value_of orientation h = h.value
value_of equirectangular h = h.value
value_of rotation h = h.value
value_of region_wise h = h.value
