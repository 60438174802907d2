-- When a table can be made of what a slot holds, and the four cases of a table call.
use Rattle.std.specs.Prelude.{ℕ, Ok, ◌*◌, ◌≤◌, ◌<◌, ◌≡◌, ◌≢◌, ◌⊎◌, true, false}
use Rattle.bits.specs.Refusals.{by_slot, by_table, by_rows}
use Rattle.kind_region_wise.specs.declared.RegionWise.{RegionWise}
use Rattle.region_table.specs.Rows.{Countable, Uncountable, Table, refuses, rows_of, row_count}
use Rattle.region_table.specs.declared.rows.Split.{Split}
use Rattle.region_table.specs.declared.rows.Split.TheVariants.{Whole, Beside, Below}
use Rattle.held.specs.declared.Held.{Held}
use Rattle.slots.specs.Slots.{is_open}
use Rattle.slots.specs.declared.Slot.{Slot}

-- ---- what is held

abbrev pub region_wise_of : Held → RegionWise
region_wise_of h = h.region_wise.value

-- the type of the held kind 45
abbrev pub type_of : Held → ℕ
type_of h = h.frame_packing.value.layout.fp_arrangement_type

-- how its rows are split: by the matching flag and that type
pub data Splits (h : Held) : Split → Type 0 where
  whole : (region_wise_of h).rwp_constituent_picture_matching_flag ≡ 0 → Splits h Whole
  beside : (region_wise_of h).rwp_constituent_picture_matching_flag ≢ 0 → h.frame_packing.on ≡ 1 → type_of h ≡ 3 → Splits h Beside
  below : (region_wise_of h).rwp_constituent_picture_matching_flag ≢ 0 → h.frame_packing.on ≡ 1 → type_of h ≡ 4 → Splits h Below

-- there is a table, split so
pub record Makes (h : Held) (split : Split) : Type 0 where
  pub held : h.region_wise.on ≡ 1
  pub counted : Countable (region_wise_of h)
  pub splits : Splits h split

-- RULES 12 on refusal 9: nothing of kind 155 is held, or it has the matching flag and no kind 45 of type 3 or 4 is held
abbrev pub Tableless : Held → Type 0
Tableless h = (h.region_wise.on ≢ 1) ⊎ (((region_wise_of h).rwp_constituent_picture_matching_flag ≢ 0) × ((h.frame_packing.on ≢ 1) ⊎ ((type_of h ≢ 3) × (type_of h ≢ 4))))

-- the same case by case; or a record that no message leaves
pub data NoTable (h : Held) : Type 0 where
  none : h.region_wise.on ≢ 1 → NoTable h
  uncounted : Uncountable (region_wise_of h) → NoTable h
  unpacked : (region_wise_of h).rwp_constituent_picture_matching_flag ≢ 0 → h.frame_packing.on ≢ 1 → NoTable h
  other : (region_wise_of h).rwp_constituent_picture_matching_flag ≢ 0 → type_of h ≢ 3 → type_of h ≢ 4 → NoTable h

-- how many numbers its rows are
abbrev pub size_of : Held → Split → ℕ
size_of h split = 9 * row_count (region_wise_of h) split

-- ---- the call on one slot: t is what it comes to where `room` numbers are lent

pub data TableCase (x : Slot) (room : ℕ) (t : Table) : Type 0 where
  shut : is_open x ≡ false → t ≡ refuses by_slot → TableCase x room t
  missing : is_open x ≡ true → NoTable x.held → t ≡ refuses by_table → TableCase x room t
  few : is_open x ≡ true → (split : Split) → Makes x.held split → room < size_of x.held split
      → t ≡ refuses by_rows → TableCase x room t
  full : is_open x ≡ true → (split : Split) → Makes x.held split → size_of x.held split ≤ room
      → t ≡ record { answer = Ok (row_count (region_wise_of x.held) split); rows = rows_of (region_wise_of x.held) split } → TableCase x room t
