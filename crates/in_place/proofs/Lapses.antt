-- The records of a slot that a picture drops where they lie, as `places` has them; and that a slot after all five is what a picture leaves of it.
-- Assumes `Given`, where a model is.
use mathlib.Core.Path.{◌≡◌, refl, sym, ap, ◌∙◌}
use mathlib.Core.Bool.{Bool, true, false}
use lib.Dec.{eqb}
use mir.Syntax.{Callee}
use denote.RattleType.{RattleType}
use denote.Builtin.{u8}
use denote.Struct.Declared.{Declared, row, fields}
use denote.Struct.Struct.{Plains}
use denote.Struct.Laws.{Laws}
use Rattle.places.proofs.Store.{Seen, Part, data_of, part_in, seen-in}
use Rattle.places.proofs.Picturing.{Lapse, chosen, lapsed}
use Rattle.std.specs.Prelude.{if◌then◌else◌}
use Rattle.answers.specs.Listed.{zeros}
use Rattle.held.specs.Lasting.{Lasting, frame_packing, orientation, equirectangular, rotation, region_wise, kind_of, persistence_of, value_of}
use Rattle.held.specs.Held.{none_of, kept_of, held_of, kept, replaced}
use Rattle.held.specs.declared.Held.{Held}
use Rattle.slots.specs.Slots.{holding}
use Rattle.slots.specs.declared.Slot.{Slot}
use Rattle.slots.specs.contracts.Slot as slot
use Rattle.kind_frame_packing.specs.contracts.FramePacking as frame-packing-record
use Rattle.kind_frame_packing.proofs.FramePacking.TheLaws as frame-packing-record'
use Rattle.kind_frame_packing.proofs.FramePacking.zero.Symbol.{name as #frame-packing-zero}
use Rattle.kind_orientation.specs.contracts.Orientation as orientation-record
use Rattle.kind_orientation.proofs.Orientation.TheLaws as orientation-record'
use Rattle.kind_orientation.proofs.Orientation.zero.Symbol.{name as #orientation-zero}
use Rattle.kind_equirectangular.specs.contracts.Equirectangular as equirectangular-record
use Rattle.kind_equirectangular.proofs.Equirectangular.TheLaws as equirectangular-record'
use Rattle.kind_equirectangular.proofs.Equirectangular.zero.Symbol.{name as #equirectangular-zero}
use Rattle.kind_rotation.specs.contracts.Rotation as rotation-record
use Rattle.kind_rotation.proofs.Rotation.TheLaws as rotation-record'
use Rattle.kind_rotation.proofs.Rotation.zero.Symbol.{name as #rotation-zero}
use Rattle.kind_region_wise.specs.contracts.RegionWise as region-wise-record
use Rattle.kind_region_wise.proofs.RegionWise.TheLaws as region-wise-record'
use Rattle.kind_region_wise.proofs.RegionWise.zero.Symbol.{name as #region-wise-zero}
use Rattle.held.specs.contracts.HeldFramePacking as frame-packing
use Rattle.held.specs.contracts.HeldOrientation as orientation
use Rattle.held.specs.contracts.HeldEquirectangular as equirectangular
use Rattle.held.specs.contracts.HeldRotation as rotation
use Rattle.held.specs.contracts.HeldRegionWise as region-wise
use Rattle.in_place.proofs.Parts.{frame-packing-on, frame-packing-value, frame-packing-stays, orientation-on, orientation-value, orientation-stays, equirectangular-on, equirectangular-value, equirectangular-stays, rotation-on, rotation-value, rotation-stays, region-wise-on, region-wise-value, region-wise-stays, records-same}
use Rattle.in_place.proofs.Eight.{held-frame-packing, held-orientation, held-equirectangular, held-rotation, held-region-wise}

-- a record N with its mark, in O: what lies where, and what makes the zeros
abbrev lapse : (N : Declared) (L : Laws N) → Plains (fields N) → (O : RattleType) → Part slot.the_row O → Part O u8 → Part O (row N) → Seen O u8 → Callee → N.D → Lapse slot.the_row
lapse N L plain O held on value stays z zero =
    record { Q = row N; data' = data_of N L plain; on = part_in held on; value = part_in held value; stays = seen-in held.at stays; z = z; Z = zero }

abbrev pub lapse-of : Lasting → Lapse slot.the_row
lapse-of frame_packing = lapse frame-packing-record.the_type frame-packing-record'.the_laws frame-packing-record'.the_plain frame-packing.the_row held-frame-packing frame-packing-on frame-packing-value frame-packing-stays #frame-packing-zero (zeros (kind_of frame_packing))
lapse-of orientation = lapse orientation-record.the_type orientation-record'.the_laws orientation-record'.the_plain orientation.the_row held-orientation orientation-on orientation-value orientation-stays #orientation-zero (zeros (kind_of orientation))
lapse-of equirectangular = lapse equirectangular-record.the_type equirectangular-record'.the_laws equirectangular-record'.the_plain equirectangular.the_row held-equirectangular equirectangular-on equirectangular-value equirectangular-stays #equirectangular-zero (zeros (kind_of equirectangular))
lapse-of rotation = lapse rotation-record.the_type rotation-record'.the_laws rotation-record'.the_plain rotation.the_row held-rotation rotation-on rotation-value rotation-stays #rotation-zero (zeros (kind_of rotation))
lapse-of region_wise = lapse region-wise-record.the_type region-wise-record'.the_laws region-wise-record'.the_plain region-wise.the_row held-region-wise region-wise-on region-wise-value region-wise-stays #region-wise-zero (zeros (kind_of region_wise))

either_way : {A B : Type 0} (f : A → B) (c : Bool) (x y : A) → chosen c (f x) (f y) ≡ f (if c then x else y)
either_way f true x y = refl
either_way f false x y = refl

lapses : (k : Lasting) (s : Slot) (h : Held) → lapsed (lapse-of k) (holding s h) ≡ holding s (replaced k h (kept_of k (held_of k h)))
unfolding holding kept_of none_of
lapses frame_packing s h = either_way (λ x. holding s (replaced frame_packing h x)) (eqb (persistence_of frame_packing (value_of frame_packing (held_of frame_packing h))) 0) (none_of frame_packing) (held_of frame_packing h)
lapses orientation s h = either_way (λ x. holding s (replaced orientation h x)) (eqb (persistence_of orientation (value_of orientation (held_of orientation h))) 0) (none_of orientation) (held_of orientation h)
lapses equirectangular s h = either_way (λ x. holding s (replaced equirectangular h x)) (eqb (persistence_of equirectangular (value_of equirectangular (held_of equirectangular h))) 0) (none_of equirectangular) (held_of equirectangular h)
lapses rotation s h = either_way (λ x. holding s (replaced rotation h x)) (eqb (persistence_of rotation (value_of rotation (held_of rotation h))) 0) (none_of rotation) (held_of rotation h)
lapses region_wise s h = either_way (λ x. holding s (replaced region_wise h x)) (eqb (persistence_of region_wise (value_of region_wise (held_of region_wise h))) 0) (none_of region_wise) (held_of region_wise h)

abbrev pub lapsed-all : Slot → Slot
lapsed-all s = lapsed (lapse-of region_wise) (lapsed (lapse-of rotation) (lapsed (lapse-of equirectangular) (lapsed (lapse-of orientation) (lapsed (lapse-of frame_packing) s))))

pub leaves_kept : (s : Slot) → lapsed-all s ≡ holding s (kept s.held)
unfolding kept
leaves_kept s =
    let after : Lasting → Held → Held = λ k h. replaced k h (kept_of k (held_of k h)) in
    let h₁ : Held = after frame_packing s.held in
    let h₂ : Held = after orientation h₁ in
    let h₃ : Held = after equirectangular h₂ in
    let h₄ : Held = after rotation h₃ in
    ap lapsed-all (sym (records-same s))
    ∙ ap (λ (x : Slot). lapsed (lapse-of region_wise) (lapsed (lapse-of rotation) (lapsed (lapse-of equirectangular) (lapsed (lapse-of orientation) x)))) (lapses frame_packing s s.held)
    ∙ ap (λ (x : Slot). lapsed (lapse-of region_wise) (lapsed (lapse-of rotation) (lapsed (lapse-of equirectangular) x))) (lapses orientation s h₁)
    ∙ ap (λ (x : Slot). lapsed (lapse-of region_wise) (lapsed (lapse-of rotation) x)) (lapses equirectangular s h₂)
    ∙ ap (lapsed (lapse-of region_wise)) (lapses rotation s h₃)
    ∙ lapses region_wise s h₄
