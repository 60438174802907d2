-- The slot calls as C sees them, case by case: there is no such slot, the slot is closed, it stays, or it is replaced. Of the
-- entries' proofs the table's takes these; the others go by the contracts of `slots` and `feeding`.
-- Assumes nothing.
use Prim.Native.Nat.{ℕ, ◌≤◌, ◌<◌}
use mathlib.Core.Path.{◌≡◌, refl, sym, ap, ◌∙◌}
use mathlib.Core.Logic.{◌≢◌, ◌⊎◌, inl, inr}
use mathlib.Core.Bool.{true, false}
use mathlib.Core.List.{List}
use Rattle.std.specs.Prelude.{Option, Some, None}
use Rattle.bits.specs.Refusals.{by_slot}
use Rattle.bits.proofs.BitLaws.{below}
use Rattle.answers.specs.declared.kind.Kind.{Kind}
use Rattle.answers.specs.Listed.{number, is_held, named}
use Rattle.reader.specs.Reader.{answer_to}
use Rattle.held.specs.Lasting.{Lasting, kind_of}
use Rattle.held.specs.Held.{nothing, kept, replaced}
use Rattle.held.specs.declared.Held.{Held}
use Rattle.slots.specs.Slots.{done, refused, fresh_slot, closed_slot, is_open, holding, slot_at, with_slot, lifted}
use Rattle.slots.specs.declared.Slot.{Slot}
use Rattle.slots.specs.declared.Slots.{Slots}
use Rattle.slots.proofs.Laws.{where-open, where-shut, holding-same, with-same, lifted-within, lifted-past, lifted-said}
use Rattle.feeding.specs.Feed.{held_after, shut_as, shut_answer}
use Rattle.feeding.specs.Filling.{filling}
use Rattle.feeding.proofs.FeedLaws.{feed-unheld}
use Rattle.feeding.proofs.FillLaws.{filled, fills-held, leaves-held}
use Rattle.region_table.specs.Rows.{Table, refuses}
use Rattle.region_table.specs.Table.{table_of_held, tabling, table_in}
use Rattle.isolation.specs.Runs.{Call, opens, closes, sequences, pictures, feeds, slot_of, Reply, said, shown, read, replying, turn, missing}
use Rattle.host.specs.Seen.{Seen, called, fed, pictured, seen, c_step}

abbrev pub in_seen : Slots × Reply → Slots × Seen
in_seen w = (w.0, seen w.1)

-- ---- any call

module _ (s : Slots) (c : Call) where
  pub past : 8 ≤ slot_of c → ◌≡◌ {A = Slots × Seen} (s, seen (missing c)) (c_step s c)
  past h = sym (ap in_seen (lifted-past (λ x. turn x c) (missing c) s (slot_of c) h))

  -- x is what the call leaves of its slot, and r its answer
  leaves : slot_of c < 8 → (x : Slot) (r : Reply) → turn (slot_at s (slot_of c)) c ≡ (x, r) → ◌≡◌ {A = Slots × Seen} (with_slot s (slot_of c) x, seen r) (c_step s c)
  leaves h x r q =
      sym (ap in_seen (lifted-within (λ y. turn y c) (missing c) s (slot_of c) h) ∙ ap (λ (w : Slot × Reply). (with_slot s (slot_of c) w.0, seen w.1)) q)

  stays : slot_of c < 8 → (r : Reply) → turn (slot_at s (slot_of c)) c ≡ (slot_at s (slot_of c), r) → ◌≡◌ {A = Slots × Seen} (s, seen r) (c_step s c)
  stays h r q = ap (λ (t : Slots). (t, seen r)) (sym (with-same s (slot_of c))) ∙ leaves h (slot_at s (slot_of c)) r q

  -- a call that a closed slot refuses as a missing one is refused
  shuts : turn (slot_at s (slot_of c)) c ≡ (slot_at s (slot_of c), missing c) → ◌≡◌ {A = Slots × Seen} (s, seen (missing c)) (c_step s c)
  shuts q = go (below (slot_of c) 8)
    where
      go : (slot_of c < 8) ⊎ (8 ≤ slot_of c) → ◌≡◌ {A = Slots × Seen} (s, seen (missing c)) (c_step s c)
      go (inl h) = stays h (missing c) q
      go (inr h) = past h

-- what code leaves that makes the call on the eight and says its answer
pub seen_by : {A : Type 0} (say : A → Reply) (call : Slot → Slot × A) (missing : A) (s t : Slots) (n : ℕ) (a : A) → ◌≡◌ {A = Slots × A} (t, a) (lifted call missing s n)
    → ◌≡◌ {A = Slots × Seen} (t, seen (say a)) (in_seen (lifted (λ x. replying say (call x)) (say missing) s n))
seen_by {A} say call missing s t n a e = ap (λ (w : Slots × A). (w.0, seen (say w.1))) e ∙ ap in_seen (sym (lifted-said say call missing s n))

-- ---- each call

module _ (s : Slots) (n : ℕ) where
  pub opens-anew : n < 8 → ◌≡◌ {A = Slots × Seen} (with_slot s n fresh_slot, called 0) (c_step s (opens n))
  opens-anew h = leaves s (opens n) h fresh_slot (said done) refl

  -- of a closed slot
  module _ (o : is_open (slot_at s n) ≡ false) where
    pub closes-shut : ◌≡◌ {A = Slots × Seen} (s, called 8) (c_step s (closes n))
    closes-shut = shuts s (closes n) (ap (replying said) (where-shut (slot_at s n) refused (closed_slot, done) o))

    pub sequences-shut : ◌≡◌ {A = Slots × Seen} (s, called 8) (c_step s (sequences n))
    sequences-shut = shuts s (sequences n) (ap (replying said) (where-shut (slot_at s n) refused (fresh_slot, done) o))

    pub pictures-shut : ◌≡◌ {A = Slots × Seen} (s, pictured 8 nothing) (c_step s (pictures n))
    pictures-shut = shuts s (pictures n) (ap (replying shown) (where-shut (slot_at s n) (refused, nothing) (holding (slot_at s n) (kept (slot_at s n).held), (done, (slot_at s n).held)) o))

  -- of an open one
  module _ (h : n < 8) (o : is_open (slot_at s n) ≡ true) where
    pub closes-open : ◌≡◌ {A = Slots × Seen} (with_slot s n closed_slot, called 0) (c_step s (closes n))
    closes-open = leaves s (closes n) h closed_slot (said done) (ap (replying said) (where-open (slot_at s n) refused (closed_slot, done) o))

    pub sequences-open : ◌≡◌ {A = Slots × Seen} (with_slot s n fresh_slot, called 0) (c_step s (sequences n))
    sequences-open = leaves s (sequences n) h fresh_slot (said done) (ap (replying said) (where-open (slot_at s n) refused (fresh_slot, done) o))

    pub pictures-open : ◌≡◌ {A = Slots × Seen} (with_slot s n (holding (slot_at s n) (kept (slot_at s n).held)), pictured 0 (slot_at s n).held) (c_step s (pictures n))
    pictures-open =
        leaves s (pictures n) h (holding (slot_at s n) (kept (slot_at s n).held)) (shown (done, (slot_at s n).held))
        (ap (replying shown) (where-open (slot_at s n) (refused, nothing) (holding (slot_at s n) (kept (slot_at s n).held), (done, (slot_at s n).held)) o))

-- ---- a feed

shut-seen : (x : Option Kind) → seen (read (shut_as x)) ≡ fed 8 0
shut-seen (Some k) = refl
shut-seen None = refl

fed-8 : (kind : ℕ) → seen (read (shut_answer kind)) ≡ fed 8 0
unfolding shut_answer
fed-8 kind = shut-seen (named kind)

module _ (s : Slots) (n kind size : ℕ) (bytes : List ℕ) where
  pub feeds-past : 8 ≤ n → ◌≡◌ {A = Slots × Seen} (s, fed 8 0) (c_step s (feeds n kind size bytes))
  feeds-past h = ap (λ (x : Seen). (s, x)) (sym (fed-8 kind)) ∙ past s (feeds n kind size bytes) h

  pub feeds-shut : is_open (slot_at s n) ≡ false → ◌≡◌ {A = Slots × Seen} (s, fed 8 0) (c_step s (feeds n kind size bytes))
  feeds-shut o =
      ap (λ (x : Seen). (s, x)) (sym (fed-8 kind))
      ∙ shuts s (feeds n kind size bytes) (ap (replying read) (where-shut (slot_at s n) (shut_answer kind) (holding (slot_at s n) (held_after (slot_at s n).held (answer_to kind size bytes)), answer_to kind size bytes) o))

  -- what a feed of an open slot leaves and answers
  open_turn : is_open (slot_at s n) ≡ true → (h : Held) → held_after (slot_at s n).held (answer_to kind size bytes) ≡ h
      → turn (slot_at s n) (feeds n kind size bytes) ≡ (holding (slot_at s n) h, read (answer_to kind size bytes))
  open_turn o h e =
      ap (replying read) (where-open (slot_at s n) (shut_answer kind) (holding (slot_at s n) (held_after (slot_at s n).held (answer_to kind size bytes)), answer_to kind size bytes) o)
      ∙ ap (λ (g : Held). (holding (slot_at s n) g, read (answer_to kind size bytes))) e

  -- a kind that is not held: the slot stays
  pub feeds-unheld : n < 8 → is_open (slot_at s n) ≡ true → is_held kind ≡ false → ◌≡◌ {A = Slots × Seen} (s, seen (read (answer_to kind size bytes))) (c_step s (feeds n kind size bytes))
  feeds-unheld h o u =
      let x = open_turn o (held_after (slot_at s n).held (answer_to kind size bytes)) refl in
      stays s (feeds n kind size bytes) h (read (answer_to kind size bytes)) (ap (λ (y : Slot). (y, (turn (slot_at s n) (feeds n kind size bytes)).1)) (feed-unheld kind size bytes (slot_at s n) u) ∙ ap (λ (w : Slot × Reply). (slot_at s n, w.1)) x)

-- a kind that is held, by the record that the payload fills
module _ (k : Lasting) (s : Slots) (n size : ℕ) (bytes : List ℕ) (h : n < 8) (o : is_open (slot_at s n) ≡ true) where
  pub fill-same : (filling k size bytes).1.0 ≡ 0
      → ◌≡◌ {A = Slots × Seen} (s, fed (filling k size bytes).0.number (filling k size bytes).0.extension) (c_step s (feeds n (number (kind_of k)) size bytes))
  unfolding filling
  fill-same z =
      stays s (feeds n (number (kind_of k)) size bytes) h (read (answer_to (number (kind_of k)) size bytes))
      (open_turn s n (number (kind_of k)) size bytes o (slot_at s n).held (leaves-held k (slot_at s n).held (answer_to (number (kind_of k)) size bytes) z)
      ∙ ap (λ (x : Slot). (x, read (answer_to (number (kind_of k)) size bytes))) (holding-same (slot_at s n)))

  pub fill-new : (filling k size bytes).1.0 ≢ 0
      → ◌≡◌ {A = Slots × Seen} (with_slot s n (holding (slot_at s n) (replaced k (slot_at s n).held (filling k size bytes).1.1)), fed (filling k size bytes).0.number (filling k size bytes).0.extension)
      (c_step s (feeds n (number (kind_of k)) size bytes))
  unfolding filling
  fill-new d =
      let a = answer_to (number (kind_of k)) size bytes in
      leaves s (feeds n (number (kind_of k)) size bytes) h _ (read a)
      (open_turn s n (number (kind_of k)) size bytes o _ (sym (fills-held k (slot_at s n).held a (filled k size bytes) d)))

-- ---- a table

module _ (s : Slots) (n room : ℕ) where
  pub table-past : 8 ≤ n → refuses by_slot ≡ table_in s n room
  table-past h = sym (ap (λ (w : Slots × Table). w.1) (lifted-past (tabling room) (refuses by_slot) s n h))

  pub table-shut : is_open (slot_at s n) ≡ false → refuses by_slot ≡ table_in s n room
  table-shut o = go (below n 8)
    where
      go : (n < 8) ⊎ (8 ≤ n) → refuses by_slot ≡ table_in s n room
      go (inl h) =
          sym (ap (λ (w : Slots × Table). w.1) (lifted-within (tabling room) (refuses by_slot) s n h)
          ∙ ap (λ (w : Slot × Table). w.1) (where-shut (slot_at s n) (refuses by_slot) (slot_at s n, table_of_held (slot_at s n).held room) o))
      go (inr h) = table-past h

  pub table-open : n < 8 → is_open (slot_at s n) ≡ true → table_of_held (slot_at s n).held room ≡ table_in s n room
  table-open h o =
      sym (ap (λ (w : Slots × Table). w.1) (lifted-within (tabling room) (refuses by_slot) s n h)
      ∙ ap (λ (w : Slot × Table). w.1) (where-open (slot_at s n) (refuses by_slot) (slot_at s n, table_of_held (slot_at s n).held room) o))
