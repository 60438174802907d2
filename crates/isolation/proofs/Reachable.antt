-- The eight slots after any calls, from the start or, at one slot, since its opening: what they hold, and when their tables are refused with 9.
-- Assumes nothing.
use Prim.Native.Nat.{ℕ, ◌≤◌, ◌<◌}
use mathlib.Core.Path.{◌≡◌, refl, ap, ◌∙◌}
use mathlib.Core.Logic.{◌↔◌, ◌⊎◌, inl, inr}
use mathlib.Core.Bool.{Bool, true, false}
use mathlib.Core.List.{List, [], ◌∷◌}
use lib.Dec.{eqb}
use borrow.Author.Tests.{eqb-true, eqb-false}
use Rattle.bits.proofs.BitLaws.{below}
use Rattle.kind_region_wise.specs.RegionWise.{most}
use Rattle.kind_region_wise.specs.declared.RegionWise.{RegionWise}
use Rattle.region_table.specs.Rows.{Countable, Uncountable, tabled_number}
use Rattle.region_table.proofs.Outcomes.{countable-or-not}
use Rattle.held.specs.declared.Held.{Held}
use Rattle.slots.specs.Slots.{Eight, start, slot_at, is_open, closed_slot, fresh_slot}
use Rattle.slots.specs.declared.Slot.{Slot}
use Rattle.slots.specs.declared.Slots.{Slots}
use Rattle.slots.proofs.Laws.{start-eight, start-closed, slot-past, closed-holds, fresh_holds}
use Rattle.region_table.specs.Table.{table_in}
use Rattle.region_table.specs.Cases.{region_wise_of, NoTable, none, uncounted, unpacked, other, Tableless}
use Rattle.region_table.proofs.TableLaws.{when-9, on-slot}
use Rattle.isolation.specs.Runs.{Call, opens, after, only, ends}
use Rattle.held.specs.Lasting.{Lasting, region_wise, RecordOf, cancel_of}
use Rattle.isolation.specs.Lasting.{ByTable, HoldsOf, history, Since}
use Rattle.isolation.proofs.Isolation.{factors, alone, eight-after}
use Rattle.isolation.proofs.Persistence.{holds-when, holds-iff}
use Rattle.isolation.proofs.HeldMessages.{alone-table, table-countable}

-- what one of the eight is after them: what its own calls leave of a closed slot
own-calls : (cs : List Call) (n : ℕ) → n < 8 → slot_at (after start cs) n ≡ ends closed_slot (only n cs)
own-calls cs n h = (factors n h cs start start-eight).1 ∙ ap (λ (x : Slot). ends x (only n cs)) (start-closed n)

-- a slot, and a closed one past the eighth, is what some calls leave of a closed one
some-calls : (cs : List Call) (n : ℕ) → (xs : List Call) × (slot_at (after start cs) n ≡ ends closed_slot xs)
some-calls cs n = go (below n 8)
  where
    go : (n < 8) ⊎ (8 ≤ n) → (xs : List Call) × (slot_at (after start cs) n ≡ ends closed_slot xs)
    go (inl h) = (only n cs, own-calls cs n h)
    go (inr h) = ([], slot-past (after start cs) n (eight-after cs start start-eight) h)

-- ---- a slot in which every record of kind 155 is one that its table gives

abbrev ByItsTable : Slot → Type 0
ByItsTable x = (p : RegionWise) → HoldsOf region_wise p x → ByTable region_wise p × (cancel_of region_wise p ≡ 0)

count_of : (x : Slot) → ByItsTable x → (p : RegionWise) → HoldsOf region_wise p x → (1 ≤ p.rwp_num_packed_regions) × (p.rwp_num_packed_regions ≤ most)
count_of x t p q = let d = t p q in let c = table-countable p d.0 d.1 in (c.some, c.few)

-- a table call on it never meets a count of 0 or above the limit
countable-of : (x : Slot) → ByItsTable x → x.held.region_wise.on ≡ 1 → Countable x.held.region_wise.value
countable-of x t e =
    let p : RegionWise = x.held.region_wise.value in
    let c = count_of x t p (ap (λ (on : ℕ). record { on = on; value = p }) e) in
    record { some = c.0; few = c.1 }

-- and is refused with 9 exactly where RULES 12 says
words : (h : Held) → (h.region_wise.on ≡ 1 → Countable (region_wise_of h)) → NoTable h ↔ Tableless h
words h k = (to, back)
  where
    counted : Uncountable (region_wise_of h) → (b : Bool) → eqb h.region_wise.on 1 ≡ b → Tableless h
    counted u true e = absurd (countable-or-not (region_wise_of h) (k (eqb-true _ _ e)) u)
    counted u false e = inl (eqb-false _ _ e)

    to : NoTable h → Tableless h
    to (none o) = inl o
    to (uncounted u) = counted u (eqb h.region_wise.on 1) refl
    to (unpacked m f) = inr (m, inl f)
    to (other m t u) = inr (m, inr (t, u))

    back : Tableless h → NoTable h
    back (inl o) = none o
    back (inr (m, inl f)) = unpacked m f
    back (inr (m, inr w)) = other m w.0 w.1

nine-of : (s : Slots) (n room : ℕ) → Eight s → ByItsTable (slot_at s n)
    → (tabled_number (table_in s n room).answer ≡ 9) ↔ ((is_open (slot_at s n) ≡ true) × Tableless (slot_at s n).held)
nine-of s n room e t =
    let when = when-9 (slot_at s n) room in
    let same = words (slot_at s n).held (countable-of (slot_at s n) t) in
    rw (on-slot s n room e) (λ q. let w = when.0 q in (w.0, same.0 w.1), λ w. when.1 (w.0, same.1 w.1))

-- ---- from the start

pub holds-from-start : (k : Lasting) (a : RecordOf k) (cs : List Call) (n : ℕ) → n < 8
    → HoldsOf k a (slot_at (after start cs) n) ↔ Since k a (history closed_slot (only n cs))
holds-from-start k a cs n h = rw (own-calls cs n h) (holds-when k a closed_slot closed-holds (only n cs))

-- each record is one that its table gives, and no cancel
pub held-table : (k : Lasting) (a : RecordOf k) (cs : List Call) (n : ℕ) → HoldsOf k a (slot_at (after start cs) n) → ByTable k a × (cancel_of k a ≡ 0)
held-table k a cs n q = let x = some-calls cs n in alone-table k a closed_slot closed-holds x.0 (rw x.1 at q)

pub held-count : (p : RegionWise) (cs : List Call) (n : ℕ) → HoldsOf region_wise p (slot_at (after start cs) n) → (1 ≤ p.rwp_num_packed_regions) × (p.rwp_num_packed_regions ≤ most)
held-count p cs n = count_of (slot_at (after start cs) n) (λ a. held-table region_wise a cs n) p

-- so a table call never meets a held count of 0 or above the limit
pub held-countable : (cs : List Call) (n : ℕ) → (slot_at (after start cs) n).held.region_wise.on ≡ 1 → Countable (slot_at (after start cs) n).held.region_wise.value
held-countable cs n = countable-of (slot_at (after start cs) n) (λ a. held-table region_wise a cs n)

pub nine-from-start : (cs : List Call) (n room : ℕ)
    → (tabled_number (table_in (after start cs) n room).answer ≡ 9) ↔ ((is_open (slot_at (after start cs) n) ≡ true) × Tableless (slot_at (after start cs) n).held)
nine-from-start cs n room = nine-of (after start cs) n room (eight-after cs start start-eight) (λ a. held-table region_wise a cs n)

-- ---- since its opening, from any eight slots

module _ (n : ℕ) (h : n < 8) (s : Slots) (e : Eight s) (cs xs : List Call) (p : only n cs ≡ opens n ∷ xs) where
  pub holds-in-run : (k : Lasting) (a : RecordOf k) → HoldsOf k a (slot_at (after s cs) n) ↔ Since k a (history fresh_slot xs)
  holds-in-run k a = rw (alone n h s e cs xs p).1 (holds-iff k a xs)

  pub held-table-in-run : (k : Lasting) (a : RecordOf k) → HoldsOf k a (slot_at (after s cs) n) → ByTable k a × (cancel_of k a ≡ 0)
  held-table-in-run k a q = alone-table k a fresh_slot fresh_holds xs (rw (alone n h s e cs xs p).1 at q)

  pub held-count-in-run : (a : RegionWise) → HoldsOf region_wise a (slot_at (after s cs) n) → (1 ≤ a.rwp_num_packed_regions) × (a.rwp_num_packed_regions ≤ most)
  held-count-in-run = count_of (slot_at (after s cs) n) (held-table-in-run region_wise)

  pub nine-in-run : (room : ℕ)
      → (tabled_number (table_in (after s cs) n room).answer ≡ 9) ↔ ((is_open (slot_at (after s cs) n) ≡ true) × Tableless (slot_at (after s cs) n).held)
  nine-in-run room = nine-of (after s cs) n room (eight-after cs s e) (held-table-in-run region_wise)
