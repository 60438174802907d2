-- The three cases of a packing's table.
use Rattle.std.specs.Prelude.{ℕ, Ok, ◌*◌, ◌≤◌, ◌<◌, ◌≡◌}
use Rattle.bits.specs.Refusals.{by_table, by_rows}
use Rattle.kind_region_wise.specs.declared.RegionWise.{RegionWise}
use Rattle.region_table.specs.declared.rows.Split.{Split}
use Rattle.region_table.specs.Rows.{Countable, Uncountable, Table, rows_of, row_count, refuses}

-- t is the table where `room` numbers are lent
pub data RegionWiseCase (p : RegionWise) (split : Split) (room : ℕ) (t : Table) : Type 0 where
  none : Uncountable p → t ≡ refuses by_table → RegionWiseCase p split room t
  few : Countable p → room < 9 * row_count p split → t ≡ refuses by_rows → RegionWiseCase p split room t
  full : Countable p → 9 * row_count p split ≤ room → t ≡ record { answer = Ok (row_count p split); rows = rows_of p split } → RegionWiseCase p split room t
