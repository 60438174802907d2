-- One slot, and what each call answers and leaves of it: RULES 11. Then the eight, to which a call on one is lifted.
use Rattle.std.specs.Prelude.{Result, Ok, Err, ℕ, ◌≤◌, Bool, false, ◌≡◌, ◌≢◌, ◌⊎◌, eqb, ltb, length, replicate, get_or, set, if◌then◌else◌}
use Rattle.bits.specs.declared.refusal.Refusal.{Refusal}
use Rattle.bits.specs.Refusals.{refusal_number, by_slot}
use Rattle.held.specs.Held.{nothing, kept}
use Rattle.held.specs.declared.Held.{Held}
use Rattle.slots.specs.declared.Slot.{Slot}
use Rattle.slots.specs.declared.Slots.{Slots}

-- the answer of a call that reads nothing
abbrev pub Answer : Type 0
Answer = Result (Unit {0}) Refusal

-- the number that a caller gets: 0 for done
abbrev pub call_number : Answer → ℕ
call_number (Ok _) = 0
call_number (Err r) = refusal_number r

abbrev pub done : Answer
done = Ok tt

-- 8
abbrev pub refused : Answer
refused = Err by_slot

-- ---- a slot

-- "the fresh slot: it holds nothing"
unfoldable pub fresh_slot : Slot
fresh_slot = record { «open» = 1; held = nothing }

unfoldable pub closed_slot : Slot
closed_slot = record { «open» = 0; held = nothing }

unfoldable pub is_open : Slot → Bool
is_open s = eqb s.«open» 1

-- the same slot with other held records
unfoldable pub holding : Slot → Held → Slot
holding s h = record { «open» = s.«open»; held = h }

-- ---- the calls on one slot: what each leaves of it, and answers

-- a call on a slot that must be open: else it stays, and `shut` is the answer
abbrev pub when_open : {A : Type 0} → Slot → A → Slot × A → Slot × A
when_open x shut acted = if is_open x then acted else (x, shut)

abbrev pub opening : Slot → Slot × Answer
opening x = (fresh_slot, done)

abbrev pub closing : Slot → Slot × Answer
closing x = when_open x refused (closed_slot, done)

abbrev pub sequencing : Slot → Slot × Answer
sequencing x = when_open x refused (fresh_slot, done)

-- "answers with the five held records, then drops each whose persistence flag is 0"
abbrev pub picturing : Slot → Slot × (Answer × Held)
picturing x = when_open x (refused, nothing) (holding x (kept x.held), (done, x.held))

-- ---- all slots

-- "There are eight, closed at start"
unfoldable pub start : Slots
start = record { slots = replicate 8 closed_slot }

abbrev pub Eight : Slots → Type 0
Eight s = length s.slots ≡ 8

-- slot n; past the eighth there is only a closed one
unfoldable pub slot_at : Slots → ℕ → Slot
slot_at s n = get_or s.slots n closed_slot

-- slot n replaced; past the eighth there is none to replace
unfoldable pub with_slot : Slots → ℕ → Slot → Slots
with_slot s n x = record { slots = set s.slots n x }

-- 8 of a call on one that is not there
abbrev pub stay : Slots → Slots × Answer
stay s = (s, refused)

-- A call on one slot, as a call on slot n of the eight: past the eighth all stay, and `missing` is the answer.
unfoldable pub lifted : {A : Type 0} → (Slot → Slot × A) → A → Slots → ℕ → Slots × A
lifted call missing s n =
    let turned = call (slot_at s n) in
    if ltb n 8 then (with_slot s n turned.0, turned.1) else (s, missing)

-- 8, of any call but opening: there is no such slot, or it is closed
abbrev pub Shut : Slots → ℕ → Type 0
Shut s n = (8 ≤ n) ⊎ (is_open (slot_at s n) ≡ false)

-- t is s but for slot n
pub record ButFor (n : ℕ) (s t : Slots) : Type 0 where
  pub eight : Eight s → Eight t
  pub others : (m : ℕ) → m ≢ n → slot_at t m ≡ slot_at s m
