-- A table call leaves and shows what a run's `step` leaves and answers, in numbers: any result that meets the entry's contract, which is the first
-- equation. Of the other slot calls the contracts say so themselves. And the slots are as large as the layout has them.
-- Assumes nothing.
use Prim.Native.Nat.{ℕ}
use mathlib.Core.Path.{◌≡◌, refl, ap, ◌∙◌}
use mathlib.Core.List.{List}
use lib.ListN.{length}
use denote.Memory.{mem}
use Rattle.bits.specs.Refusals.{by_slot}
use Rattle.lent.specs.Lent.{left}
use Rattle.region_table.specs.Rows.{Table, refuses, wrote}
use Rattle.region_table.specs.Table.{tabling, table_in}
use Rattle.region_table.proofs.TableLaws.{table_stays}
use Rattle.slots.specs.declared.Slots.{Slots}
use Rattle.slots.proofs.Laws.{lifted-said}
use Rattle.slots.specs.contracts.Slots as slots
use Rattle.isolation.specs.Runs.{tables, tabled, step}
use Rattle.host.specs.Slot.{left_in_numbers, slots_size}
use Rattle.host.specs.declared.slot.Tabled.{Tabled}

-- the slots stay, and the rows stand over the front of what was lent
pub c-table-tied : (s : Slots) (n : ℕ) (lent after : List ℕ) (r : Tabled) → left r after ≡ left_in_numbers (wrote (table_in s n (length lent)) lent)
    → (x : Table) × (step s (tables n lent) ≡ (s, tabled x)) × (left r after ≡ left_in_numbers (wrote x lent))
c-table-tied s n lent after r p = (
  table_in s n (length lent),
  lifted-said tabled (tabling (length lent)) (refuses by_slot) s n ∙ ap (λ (t : Slots). (t, tabled (table_in s n (length lent)))) (table_stays s n (length lent)),
  p,
)

pub size_is : (mem slots.the_row).size ≡ slots_size
size_is = refl
