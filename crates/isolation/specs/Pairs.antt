-- Demand 3: which calls of the second run may stand for those of the first, and what is then the same.
use Rattle.std.specs.Prelude.{ℕ, ◌≤◌, ◌≡◌, Bool, true, List, ◌++◌, length, take}
use Rattle.bits.specs.Bits.{most_bytes, bits_of}
use Rattle.runs.specs.Cell.{Pairwise, Same}
use Rattle.format.specs.Holds.{Holds, Follows}
use Rattle.format.specs.Varied.{Variation}
use Rattle.answers.specs.Listed.{Record, form, number}
use Rattle.answers.specs.declared.kind.Kind.{Kind}
use Rattle.slots.specs.Slots.{done, fresh_slot, slot_at}
use Rattle.slots.specs.declared.Slots.{Slots}
use Rattle.isolation.specs.Runs.{Call, feeds, tables, said, turn, step, on, blind}

-- Within the size limits, the payload's bits are a message of kind k and what may follow it: the payload is taken or set aside.
pub record IsMessage (k : Kind) (size : ℕ) (bytes : List ℕ) : Type 0 where
  pub limit : size ≤ most_bytes
  pub long : size ≤ length bytes
  pub value : Record k
  pub extension : ℕ
  pub holds : Holds (form k) (bits_of (take size bytes)) value extension

-- The first payload is a message of a kind that can have a tail. The second, of whatever size within the limits, is that message with
-- other ignored bits and other reserved guard band codes in place of reserved ones, and then any end that is permitted.
pub record VariedPayload (kind size : ℕ) (bytes : List ℕ) (size' : ℕ) (bytes' : List ℕ) : Type 0 where
  pub k : Kind
  pub listed : kind ≡ number k
  pub tailed : (form k).tailed ≡ true
  pub first : IsMessage k size bytes
  pub limit' : size' ≤ most_bytes
  pub long' : size' ≤ length bytes'
  pub message' : List Bool
  pub rest' : List Bool
  pub split' : bits_of (take size' bytes') ≡ message' ++ rest'
  pub varies : Variation (form k).table first.holds.message message'
  pub extension' : ℕ
  pub follows' : Follows true rest' extension'

-- The same call; a payload whatever its outcome, with other bytes past its size; a varied payload; lent rows that held something else.
pub data Pair : Call → Call → Type 0 where
  same : (c : Call) → Pair c c
  cut : (n kind size : ℕ) (bytes bytes' : List ℕ) → size ≤ length bytes → size ≤ length bytes' → take size bytes ≡ take size bytes'
      → Pair (feeds n kind size bytes) (feeds n kind size bytes')
  varied : (n kind size : ℕ) (bytes : List ℕ) (size' : ℕ) (bytes' : List ℕ) → VariedPayload kind size bytes size' bytes'
      → Pair (feeds n kind size bytes) (feeds n kind size' bytes')
  lent : (n : ℕ) (rows rows' : List ℕ) → length rows ≡ length rows' → Pair (tables n rows) (tables n rows')

abbrev pub Pairs : List Call → List Call → Type 0
Pairs cs ds = Pairwise Pair cs ds

-- The runs cs and ds, from s and t, give the same at slot k: every reply but for the extension's length, every row written, and what the
-- slot holds; and each is what its own calls, xs and ys, give on a fresh slot alone.
abbrev pub Isolated : (k : ℕ) (s t : Slots) (cs ds xs ys : List Call) → Type 0
Isolated k s t cs ds xs ys = Same step turn (on k) (λ z. slot_at z k) blind fresh_slot (said done) s t cs ds xs ys
