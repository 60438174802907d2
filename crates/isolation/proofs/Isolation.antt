-- Demand 3: nothing but the calls on a slot since it was opened decides what it answers and holds; and there the ignored bits, reserved
-- guard band codes, extensions and bytes past the size of its payloads leave no trace.
-- Assumes nothing.
use Prim.Native.Nat.{ℕ, ◌<◌}
use native.Mathlib.Omega.{arith}
use mathlib.Core.Path.{◌≡◌, refl}
use mathlib.Core.List.{List, ◌∷◌}
use Rattle.runs.proofs.Cells as cells
use Rattle.slots.specs.Slots.{done, Eight, fresh_slot, slot_at}
use Rattle.slots.specs.declared.Slots.{Slots}
use Rattle.isolation.specs.Runs.{Call, opens, said, after, replies_at, only, ends, replies, blind}
use Rattle.isolation.specs.Pairs.{Pair, Pairs, Isolated}
use Rattle.isolation.proofs.OneCall.{slot}
use Rattle.isolation.proofs.PairLaws.{like}

-- what a run gives at slot k is what that slot alone gives on its own calls
pub factors : (k : ℕ) → k < 8 → (cs : List Call) (s : Slots) → Eight s
    → (replies_at k s cs ≡ replies (slot_at s k) (only k cs)) × (slot_at (after s cs) k ≡ ends (slot_at s k) (only k cs))
factors k h = cells.factors (slot k h)

-- there are eight slots after any run
pub eight-after : (cs : List Call) (s : Slots) → Eight s → Eight (after s cs)
eight-after = cells.good-after (slot 0 (omega arith))

-- after its opening a slot answers and holds what a fresh slot alone does: nothing that came before can be seen, and nothing beside it
pub alone : (k : ℕ) → k < 8 → (s : Slots) → Eight s → (cs xs : List Call) → only k cs ≡ opens k ∷ xs
    → (replies_at k s cs ≡ said done ∷ replies fresh_slot xs) × (slot_at (after s cs) k ≡ ends fresh_slot xs)
alone k h = cells.alone (slot k h) (opens k) fresh_slot (said done) (λ x. refl)

-- From any two values of the eight slots, with any calls on other slots in between: runs whose calls on slot k begin by opening it and
-- are then pairs.
pub isolated : (k : ℕ) → k < 8 → (s t : Slots) → Eight s → Eight t → (cs ds xs ys : List Call)
    → only k cs ≡ opens k ∷ xs → only k ds ≡ opens k ∷ ys → Pairs xs ys → Isolated k s t cs ds xs ys
isolated k h = cells.isolated (slot k h) (opens k) fresh_slot (said done) (λ x. refl) Pair blind (λ c d. like {c = c} {d = d})

-- so it is after any two runs, from the start or from anywhere
pub unseen : (k : ℕ) → k < 8 → (s t : Slots) → Eight s → Eight t → (bs cs : List Call) (ds es xs ys : List Call)
    → only k ds ≡ opens k ∷ xs → only k es ≡ opens k ∷ ys → Pairs xs ys → Isolated k (after s bs) (after t cs) ds es xs ys
unseen k h = cells.unseen (slot k h) (opens k) fresh_slot (said done) (λ x. refl) Pair blind (λ c d. like {c = c} {d = d})
