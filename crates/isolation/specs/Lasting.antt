-- The persistence rules, over the history of a slot: which record it holds, said once over the five kinds that are held.
use Rattle.std.specs.Prelude.{ℕ, ◌≡◌, ◌≢◌, Bool, List}
use Rattle.runs.specs.Since as runs
use Rattle.format.specs.Coded.{Coded}
use Rattle.answers.specs.Listed.{form}
use Rattle.answers.specs.Answer.{made}
use Rattle.answers.specs.declared.Outcome.TheVariants.{Taken}
use Rattle.held.specs.Lasting.{Lasting, kind_of, RecordOf, cancel_of, persistence_of, marked}
use Rattle.held.specs.Held.{held_of}
use Rattle.slots.specs.declared.Slot.{Slot}
use Rattle.isolation.specs.Runs.{Call, opens, closes, sequences, pictures, feeds, tables, Reply, read, turn}

-- some bits are the message a: its kind's table gives it
abbrev pub ByTable : (k : Lasting) → RecordOf k → Type 0
ByTable k a = (w : List Bool) × Coded (form (kind_of k)).table w a

-- the slot holds a of kind k
abbrev pub HoldsOf : (k : Lasting) → RecordOf k → Slot → Type 0
HoldsOf k a x = held_of k x.held ≡ marked k 1 a

-- ---- the history of a slot: its calls, each with what it was answered

abbrev pub Told : Type 0
Told = runs.Told Call Reply

abbrev pub history : Slot → List Call → List Told
history x cs = runs.history turn x cs

-- the answer is 0 with the message a of kind k
pub record Answers (k : Lasting) (a : RecordOf k) (r : Reply) : Type 0 where
  pub extension : ℕ
  pub is : r ≡ read (made (kind_of k) Taken a extension)

-- a call that leaves the record a of kind k in the slot, whatever was there
pub record Gives (k : Lasting) (a : RecordOf k) (t : Told) : Type 0 where
  pub answers : Answers k a t.reply
  pub stays : cancel_of k a ≡ 0

-- A call that does not end a, where the slot holds it: no opening, closing or sequence call; a picture only where a persists; a feed only
-- where it is not answered 0 with a message of kind k.
abbrev pub Leaves : (k : Lasting) → RecordOf k → Call → Reply → Type 0
Leaves k a (opens n) r = ⊥
Leaves k a (closes n) r = ⊥
Leaves k a (sequences n) r = ⊥
Leaves k a (pictures n) r = persistence_of k a ≢ 0
Leaves k a (feeds n kind size bytes) r = (b : RecordOf k) → Answers k b r → ⊥
Leaves k a (tables n lent) r = Unit {0}

-- a came last, and none of the calls since has ended it
abbrev pub Since : (k : Lasting) → RecordOf k → List Told → Type 0
Since k a ts = runs.Since (Gives k a) (Leaves k a) ts
