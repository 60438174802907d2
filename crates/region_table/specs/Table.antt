-- The region table of a slot: 8, 9, 10, or the rows.
use Rattle.std.specs.Prelude.{ℕ, Option, Some, None, eqb, if◌then◌else◌}
use Rattle.bits.specs.Refusals.{by_slot, by_table}
use Rattle.kind_region_wise.specs.declared.RegionWise.{RegionWise}
use Rattle.region_table.specs.Rows.{Table, refuses, table_of}
use Rattle.region_table.specs.declared.rows.Split.{Split}
use Rattle.region_table.specs.declared.rows.Split.TheVariants.{Whole, Beside, Below}
use Rattle.slots.specs.Slots.{when_open, lifted}
use Rattle.held.specs.declared.Held.{Held}
use Rattle.held.specs.declared.HeldFramePacking.{HeldFramePacking}
use Rattle.slots.specs.declared.Slot.{Slot}
use Rattle.slots.specs.declared.Slots.{Slots}

-- "left (type 3) or top (type 4)"
abbrev pub by_type : ℕ → Option Split
by_type t = if eqb t 3 then Some Beside else if eqb t 4 then Some Below else None

-- "Without the matching flag, one row a region. With it, the held kind 45 must have type 3 or 4"
unfoldable pub split_of : ℕ → HeldFramePacking → Option Split
split_of matching f =
    if eqb matching 0 then Some Whole else if eqb f.on 1 then by_type f.value.layout.fp_arrangement_type else None

-- `room` is how many numbers are lent
abbrev pub table_by : RegionWise → Option Split → ℕ → Table
table_by p (Some split) room = table_of p split room
table_by p None room = refuses by_table

unfoldable pub table_of_held : Held → ℕ → Table
table_of_held h room =
    if eqb h.region_wise.on 1
    then table_by h.region_wise.value (split_of h.region_wise.value.rwp_constituent_picture_matching_flag h.frame_packing) room
    else refuses by_table

-- on one slot: 8, else the table of what it holds; the slot stays
abbrev pub tabling : ℕ → Slot → Slot × Table
tabling room x = when_open x (refuses by_slot) (x, table_of_held x.held room)

-- on slot n of the eight
abbrev pub table_in : Slots → ℕ → ℕ → Table
table_in s n room = (lifted (tabling room) (refuses by_slot) s n).1
