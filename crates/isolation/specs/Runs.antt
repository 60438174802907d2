-- Calls, on one slot alone and on one of the eight slots, and runs of them. `turn` and `step` cite the definitions that the functions'
-- contracts cite.
use Rattle.std.specs.Prelude.{Ok, Err, ℕ, Bool, ◌≢◌, List, length, eqb}
use Rattle.bits.specs.Refusals.{by_slot}
use Rattle.runs.specs.Run as runs
use Rattle.region_table.specs.Rows.{Table, refuses}
use Rattle.answers.specs.declared.Answer as reader
use Rattle.answers.specs.declared.Outcome.TheVariants.{Taken}
use Rattle.held.specs.Held.{nothing}
use Rattle.held.specs.declared.Held.{Held}
use Rattle.slots.specs.Slots.{Answer, refused, opening, closing, sequencing, picturing, lifted}
use Rattle.slots.specs.declared.Slot.{Slot}
use Rattle.slots.specs.declared.Slots.{Slots}
use Rattle.feeding.specs.Feed.{shut_answer, feeding}
use Rattle.region_table.specs.Table.{tabling}

-- a call: on a slot; with a kind, a size and the lent bytes; with the lent numbers
pub data Call : Type 0 where
  opens closes sequences pictures : ℕ → Call
  feeds : (n kind size : ℕ) → List ℕ → Call
  tables : ℕ → List ℕ → Call

abbrev pub slot_of : Call → ℕ
slot_of (opens n) = n
slot_of (closes n) = n
slot_of (sequences n) = n
slot_of (pictures n) = n
slot_of (feeds n kind size bytes) = n
slot_of (tables n lent) = n

-- what a call is answered: of a table call that is also the rows it wrote; past them what was lent stays
pub data Reply : Type 0 where
  said : Answer → Reply
  shown : Answer × Held → Reply
  read : reader.Answer → Reply
  tabled : Table → Reply

-- a call so answered is refused or set aside, or writes a table
abbrev pub Unchanging : Reply → Type 0
Unchanging (said (Ok u)) = ⊥
Unchanging (said (Err why)) = Unit {0}
Unchanging (shown (Ok u, h)) = ⊥
Unchanging (shown (Err why, h)) = Unit {0}
Unchanging (read a) = a.outcome ≢ Taken
Unchanging (tabled t) = Unit {0}

-- ---- one call

abbrev pub replying : {A : Type 0} → (A → Reply) → Slot × A → Slot × Reply
replying say w = (w.0, say w.1)

-- on one slot alone, whatever its number
abbrev pub turn : Slot → Call → Slot × Reply
turn x (opens n) = replying said (opening x)
turn x (closes n) = replying said (closing x)
turn x (sequences n) = replying said (sequencing x)
turn x (pictures n) = replying shown (picturing x)
turn x (feeds n kind size bytes) = replying read (feeding kind size bytes x)
turn x (tables n lent) = replying tabled (tabling (length lent) x)

-- 8: there is no such slot
abbrev pub missing : Call → Reply
missing (opens n) = said refused
missing (closes n) = said refused
missing (sequences n) = said refused
missing (pictures n) = shown (refused, nothing)
missing (feeds n kind size bytes) = read (shut_answer kind)
missing (tables n lent) = tabled (refuses by_slot)

-- on the eight
abbrev pub step : Slots → Call → Slots × Reply
step s c = lifted (λ x. turn x c) (missing c) s (slot_of c)

-- ---- any number of them, on the eight: where the run ends, what its calls on slot k are answered, and which they are

abbrev pub on : ℕ → Call → Bool
on k c = eqb (slot_of c) k

abbrev pub after : Slots → List Call → Slots
after s cs = runs.after step s cs

abbrev pub replies_at : ℕ → Slots → List Call → List Reply
replies_at k s cs = runs.replies_at step (on k) s cs

abbrev pub only : ℕ → List Call → List Call
only k cs = runs.only (on k) cs

-- ---- and on one slot alone

abbrev pub ends : Slot → List Call → Slot
ends x cs = runs.after turn x cs

abbrev pub replies : Slot → List Call → List Reply
replies x cs = runs.replies turn x cs

-- ---- a reply but for the extension's length

abbrev pub unextended : reader.Answer → reader.Answer
unextended a =
    record { outcome = a.outcome; message = a.message; extension = 0; rest = a.rest; beside = a.beside }

abbrev pub blind : Reply → Reply
blind (said a) = said a
blind (shown w) = shown w
blind (read a) = read (unextended a)
blind (tabled t) = tabled t
