-- Feeding: what an answer leaves of the held records, and what a feed answers and leaves of a slot.
use Rattle.std.specs.Prelude.{ℕ, List, Option, Some, None}
use Rattle.bits.specs.Refusals.{by_slot}
use Rattle.kind_region_wise.specs.declared.RegionWise.{RegionWise}
use Rattle.answers.specs.Listed.{named}
use Rattle.answers.specs.Answer.{plain, refused_as}
use Rattle.reader.specs.Reader.{answer_to}
use Rattle.answers.specs.declared.Answer.{Answer}
use Rattle.answers.specs.declared.kind.Kind.{Kind}
use Rattle.answers.specs.declared.Outcome.{Outcome}
use Rattle.answers.specs.declared.Outcome.TheVariants.{Taken, SetAside, Refused}
use Rattle.answers.specs.declared.kind.LastingMessage.{LastingMessage}
use Rattle.answers.specs.declared.kind.LastingMessage.TheVariants as lasting
use Rattle.answers.specs.declared.kind.Message.{Message}
use Rattle.answers.specs.declared.kind.Message.TheVariants.{Nothing, Lasting, Passing}
use Rattle.held.specs.Lasting.{frame_packing, orientation, equirectangular, rotation, region_wise}
use Rattle.held.specs.Held.{took}
use Rattle.held.specs.declared.Held.{Held}
use Rattle.slots.specs.Slots.{holding, when_open, lifted}
use Rattle.slots.specs.declared.Slot.{Slot}
use Rattle.slots.specs.declared.Slots.{Slots}

-- a taken message of a kind that is held replaces the held one, and any other is not held;
-- p is the record of kind 155 that stands beside the message
abbrev pub held_lasting : Held → LastingMessage → RegionWise → Held
held_lasting h (lasting.FramePacking x) p = took frame_packing h x
held_lasting h (lasting.Orientation x) p = took orientation h x
held_lasting h (lasting.Equirectangular x) p = took equirectangular h x
held_lasting h (lasting.Rotation x) p = took rotation h x
held_lasting h lasting.RegionWise p = took region_wise h p

abbrev pub held_with : Held → Message → RegionWise → Held
held_with h (Lasting m) p = held_lasting h m p
held_with h (Passing m) p = h
held_with h Nothing p = h

-- what is set aside or refused leaves them
abbrev pub held_by : Held → Outcome → Message → RegionWise → Held
held_by h Taken m p = held_with h m p
held_by h SetAside m p = h
held_by h (Refused r) m p = h

unfoldable pub held_after : Held → Answer → Held
held_after h a = held_by h a.outcome a.message a.beside.region_wise

-- 8 comes with the zeros of the kind asked for, and with no fields where that is none of those listed
abbrev pub shut_as : Option Kind → Answer
shut_as (Some k) = refused_as k by_slot
shut_as None = plain (Refused by_slot) Nothing 0

unfoldable pub shut_answer : ℕ → Answer
shut_answer kind = shut_as (named kind)

-- on one slot: 8, else the reader's answer and what it leaves
abbrev pub feeding : ℕ → ℕ → List ℕ → Slot → Slot × Answer
feeding kind size bytes x =
    let answer = answer_to kind size bytes in
    when_open x (shut_answer kind) (holding x (held_after x.held answer), answer)

-- on slot n of the eight
abbrev pub fed_to : Slots → ℕ → ℕ → ℕ → List ℕ → Slots × Answer
fed_to s n kind size bytes = lifted (feeding kind size bytes) (shut_answer kind) s n
