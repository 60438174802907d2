-- there is no such slot, it is closed, or its table is written
use Rattle.std.proofs.Common.{ℕ, ◌∙◌, ap, List, length, arith}
use Rattle.lent.specs.Lent.{Left}
use Rattle.region_table.specs.Rows.{Table, wrote}
use Rattle.region_table.specs.Table.{table_of_held}
use Rattle.slots.specs.Slots.{Eight}
use Rattle.slots.specs.declared.Slot.{Slot}
use Rattle.host.specs.Slot.{left_in_numbers}
use Rattle.host.specs.declared.slot.Tabled.{Tabled}
use Rattle.host.proofs.StepLaws as laws
use Rattle.host.proofs.InPlace.{found, shut-here, open-here}
use Rattle.host.proofs.slot.bruskelde_table.Goals as goal

-- what a table comes to in numbers, and leaves of what was lent
abbrev given_by_call : Table → List ℕ → Left Tabled
given_by_call t lent = left_in_numbers (wrote t lent)

pub returns-then-slot-ge8 : goal.returns-then-slot-ge8
returns-then-slot-ge8 c =
    let lent = c.args.lent.now in
    ap (λ (t : Table). given_by_call t lent) (laws.table-past c.args.slots.now c.args.slot (length lent) (omega arith))

pub returns-then-here-ne1 : goal.returns-then-here-ne1
returns-then-here-ne1 c =
    let s = c.args.slots.now in
    let n = c.args.slot in
    let lent = c.args.lent.now in
    let e : Eight s = omega arith in
    ap (λ (t : Table). given_by_call t lent) (laws.table-shut s n (length lent) (shut-here s n _ e c.if-slot-ge8.false c.if-here-ne1.true))

pub returns : goal.returns
returns c =
    let s = c.args.slots.now in
    let n = c.args.slot in
    let lent = c.args.lent.now in
    let e : Eight s = omega arith in
    let l = c.if-slot-ge8.false in
    c.table_of.ensures
    ∙ ap (λ (x : Slot). given_by_call (table_of_held x.held (length lent)) lent) (found s n _ e l)
    ∙ ap (λ (t : Table). given_by_call t lent) (laws.table-open s n (length lent) l (open-here s n _ e l c.if-here-ne1.false))
