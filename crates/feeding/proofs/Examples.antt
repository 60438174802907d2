-- The slot of RULES 14, and calls that are refused, as closed computations.
-- Assumes nothing.
use Prim.Native.Nat.{ℕ}
use mathlib.Core.Path.{◌≡◌, refl}
use mathlib.Core.List.{List, [], ◌∷◌}
use Rattle.bits.specs.Bits.{bit_at, part, from, unsigned_of}
use Rattle.bits.specs.Elements.{u_front, ue_after}
use Rattle.bits.specs.Tail.{last_one, tail_of}
use Rattle.bits.specs.Refusals.{by_slot}
use Rattle.format.specs.Reading.{element_front, run}
use Rattle.format.specs.Whole.{whole}
use Rattle.format.specs.Format.{zeros}
use Rattle.format.specs.Syntax.{i32, times}
use Rattle.kind_region_wise.specs.RegionWise.{region}
use Rattle.kind_frame_packing.specs.FramePacking.{frame_packing}
use Rattle.kind_frame_packing.specs.FramePacking as frame-packing
use Rattle.kind_frame_packing.specs.SetAside.{reserved_id, reserved_type, reserved_interpretation, set_aside}
use Rattle.kind_frame_packing.specs.declared.FramePacking.{FramePacking}
use Rattle.answers.specs.Listed.{named, reading_of}
use Rattle.answers.specs.Answer.{plain, made, refused_as}
use Rattle.reader.specs.Entry.{entry_to}
use Rattle.reader.specs.Reader.{answer_to}
use Rattle.answers.specs.declared.kind.Kind.TheVariants as kinds
use Rattle.answers.specs.declared.Outcome.TheVariants.{Taken, Refused}
use Rattle.answers.specs.declared.kind.Message.TheVariants.{Nothing}
use Rattle.held.specs.Held.{none_of, kept_of, taken_of, nothing, kept}
use Rattle.held.specs.Lasting.{orientation, equirectangular, rotation, region_wise}
use Rattle.slots.specs.Slots.{refused, start, slot_at, with_slot, is_open, holding, fresh_slot, closed_slot, opening, picturing, lifted}
use Rattle.held.specs.declared.Held.{Held}
use Rattle.slots.specs.declared.Slots.{Slots}
use Rattle.feeding.specs.Feed.{held_after, shut_answer, fed_to}

-- ---- 8 comes before anything is read

-- with the zeros of the kind asked for ..
shut-orientation : fed_to start 0 47 1 (0x50 ∷ []) ≡ (start, refused_as kinds.Orientation by_slot)
unfolding lifted shut_answer named start slot_at with_slot is_open closed_slot
shut-orientation = refl

-- .. also where the kind is unknown and the size too large, and where there is no such slot
shut-unknown : fed_to start 8 46 9000 [] ≡ (start, plain (Refused by_slot) Nothing 0)
unfolding lifted shut_answer named start slot_at with_slot is_open closed_slot
shut-unknown = refl

-- ---- the slot of RULES 14: open, feed 81 81 00 00 00 02, picture shows it; feed 81 81 00 00 00 00, picture shows that; the next shows nothing

abbrev message : ℕ → FramePacking
message persistence =
    record {
      fp_arrangement_id = 0;
      fp_arrangement_cancel_flag = 0;
      layout =
          record {
            fp_arrangement_type = 3;
            fp_quincunx_sampling_flag = 0;
            fp_content_interpretation_type = 1;
            flags = (zeros frame-packing.table).layout.flags;
            grid = (zeros frame-packing.table).layout.grid;
            fp_arrangement_persistence_flag = persistence;
          };
      fp_upsampled_aspect_ratio_flag = 0;
    }

abbrev payload : ℕ → List ℕ
payload last = 0x81 ∷ 0x81 ∷ 0 ∷ 0 ∷ 0 ∷ last ∷ []

reads : answer_to 45 6 (payload 2) ≡ made kinds.FramePacking Taken (message 1) 0
unfolding answer_to entry_to named reading_of whole frame_packing run element_front ue_after u_front from part unsigned_of bit_at last_one tail_of set_aside reserved_id reserved_type reserved_interpretation
reads = refl

reads-unpersisting : answer_to 45 6 (payload 0) ≡ made kinds.FramePacking Taken (message 0) 0
unfolding answer_to entry_to named reading_of whole frame_packing run element_front ue_after u_front from part unsigned_of bit_at last_one tail_of set_aside reserved_id reserved_type reserved_interpretation
reads-unpersisting = refl

abbrev s1 : Slots
s1 = (fed_to (lifted opening refused start 0).0 0 45 6 (payload 2)).0

abbrev pictured : Slots → Slots × Held
pictured s = ((lifted picturing (refused, nothing) s 0).0, (lifted picturing (refused, nothing) s 0).1.1)

abbrev s2 : Slots
s2 = (fed_to (pictured s1).0 0 45 6 (payload 0)).0

abbrev holds : FramePacking → Held
holds x = record { frame_packing = record { on = 1; value = x }; orientation = none_of orientation; equirectangular = none_of equirectangular; rotation = none_of rotation; region_wise = none_of region_wise }

first-shown : (pictured s1).1 ≡ holds (message 1)
unfolding lifted held_after start slot_at with_slot holding is_open fresh_slot closed_slot nothing none_of taken_of
first-shown = rw reads

second-shown : (pictured s2).1 ≡ holds (message 0)
unfolding i32 times region lifted held_after start slot_at with_slot holding is_open fresh_slot closed_slot kept nothing none_of kept_of taken_of
second-shown = simp (reads, reads-unpersisting)

then-nothing : (pictured (pictured s2).0).1 ≡ nothing
unfolding i32 times region lifted held_after start slot_at with_slot holding is_open fresh_slot closed_slot kept nothing none_of kept_of taken_of
then-nothing = simp (reads, reads-unpersisting)
