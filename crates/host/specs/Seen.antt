-- What a C player sees of the slot calls: numbers in place of enums, and of a feed no record.
use Rattle.std.specs.Prelude.{ℕ, ◌≡◌, List, length, drop}
use Rattle.runs.specs.Cell.{Same}
use Rattle.answers.specs.Answer.{answer_number}
use Rattle.held.specs.declared.Held.{Held}
use Rattle.slots.specs.Slots.{call_number, fresh_slot, slot_at}
use Rattle.slots.specs.declared.Slot.{Slot}
use Rattle.slots.specs.declared.Slots.{Slots}
use Rattle.lent.specs.Lent.{Left}
use Rattle.region_table.specs.Rows.{tabled_number, tabled_rows}
use Rattle.isolation.specs.Runs.{Call, Reply, said, shown, read, tabled, turn, step, on}

-- the number alone; with the extension's length; with the held records; with how many rows there are, and the numbers in them
pub data Seen : Type 0 where
  called : ℕ → Seen
  fed : (number extension : ℕ) → Seen
  pictured : ℕ → Held → Seen
  table : (number rows : ℕ) → List ℕ → Seen

abbrev pub seen : Reply → Seen
seen (said a) = called (call_number a)
seen (shown w) = pictured (call_number w.0) w.1
seen (read a) = fed (answer_number a) a.extension
seen (tabled t) = table (tabled_number t.answer) (tabled_rows t.answer) t.rows

-- the slots after a call, and what it shows; and the same of one slot alone
abbrev pub c_step : Slots → Call → Slots × Seen
c_step s c = ((step s c).0, seen (step s c).1)

abbrev pub c_turn : Slot → Call → Slot × Seen
c_turn x c = ((turn x c).0, seen (turn x c).1)

-- ---- all but the extension's length

abbrev pub blindly : Seen → Seen
blindly (called n) = called n
blindly (fed n e) = fed n 0
blindly (pictured n h) = pictured n h
blindly (table n m rows) = table n m rows

-- Demand 3 in what C sees of slot k: the runs cs and ds, from s and t, show the same but for the extension's length, and leave the same in
-- the slot; and each shows and leaves what its own calls, xs and ys, do on a fresh slot alone.
abbrev pub SeenIsolated : (k : ℕ) (s t : Slots) (cs ds xs ys : List Call) → Type 0
SeenIsolated k s t cs ds xs ys = Same c_step c_turn (on k) (λ z. slot_at z k) blindly fresh_slot (called 0) s t cs ds xs ys

-- two calls that hand out a row: the same number, and the same row but for its first place, where the extension's length stands
pub record SameButFirst (x y : Left ℕ) : Type 0 where
  pub answered : x.answer ≡ y.answer
  pub long : length x.lent ≡ length y.lent
  pub rest : drop 1 x.lent ≡ drop 1 y.lent
