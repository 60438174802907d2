-- The region table: RULES 12, with the offsets of H.274 8.15.5.2.
use Rattle.std.specs.Prelude.{ℕ, ◌+◌, ◌*◌, ◌/◌, ◌≤◌, ◌<◌, ◌≡◌, ◌⊎◌, List, [], ◌∷◌, ◌++◌, Option, Some, None, Result, Ok, Err, leb, take, if◌then◌else◌}
use Rattle.bits.specs.Refusals.{refusal_number, by_table, by_rows}
use Rattle.bits.specs.declared.refusal.Refusal.{Refusal}
use Rattle.lent.specs.Lent.{Left, left, over}
use Rattle.kind_region_wise.specs.RegionWise.{most}
use Rattle.kind_region_wise.specs.declared.region.Region.{Region}
use Rattle.kind_region_wise.specs.declared.RegionWise.{RegionWise}
use Rattle.region_table.specs.declared.rows.Shift.{Shift}
use Rattle.region_table.specs.declared.rows.Split.{Split}
use Rattle.region_table.specs.declared.rows.Split.TheVariants.{Whole, Beside, Below}

-- ---- the rows

-- projected left, top, width, height, packed left, top, width, height, transform
abbrev pub row : Shift → Region → List ℕ
row by r =
    (r.projected.rwp_proj_region_left + by.projected_left)
    ∷ (r.projected.rwp_proj_region_top + by.projected_top)
    ∷ r.projected.rwp_proj_region_width
    ∷ r.projected.rwp_proj_region_height
    ∷ (r.packed.rwp_packed_region_left + by.packed_left)
    ∷ (r.packed.rwp_packed_region_top + by.packed_top)
    ∷ r.packed.rwp_packed_region_width
    ∷ r.packed.rwp_packed_region_height
    ∷ r.rwp_transform_type
    ∷ []

-- one row a region
abbrev pub rows_by : Shift → List Region → List ℕ
rows_by by [] = []
rows_by by (r ∷ rs) = row by r ++ rows_by by rs

abbrev pub no_shift : Shift
no_shift = record { projected_left = 0; projected_top = 0; packed_left = 0; packed_top = 0 }

-- left, by half the projected and half the packed picture's width, rounded down
abbrev pub beside : RegionWise → Shift
beside p =
    record { projected_left = p.rwp_proj_picture_width / 2; projected_top = 0; packed_left = p.rwp_packed_picture_width / 2; packed_top = 0 }

-- top, by half their heights
abbrev pub below : RegionWise → Shift
below p =
    record { projected_left = 0; projected_top = p.rwp_proj_picture_height / 2; packed_left = 0; packed_top = p.rwp_packed_picture_height / 2 }

-- one row a region, followed by as many again, shifted
abbrev pub twice_of : Shift → List Region → List ℕ
twice_of by rs = rows_by no_shift rs ++ rows_by by rs

-- the same, or with no shift only one row a region
abbrev pub rows_with : Option Shift → List Region → List ℕ
rows_with None rs = rows_by no_shift rs
rows_with (Some by) rs = twice_of by rs

-- how many they are, of so many regions
abbrev pub count_with : Option Shift → ℕ → ℕ
count_with None n = n
count_with (Some by) n = 2 * n

-- by how much the second half is shifted, if there is one
abbrev pub second_of : RegionWise → Split → Option Shift
second_of p Whole = None
second_of p Beside = Some (beside p)
second_of p Below = Some (below p)

-- the record's regions
abbrev pub regions_of : RegionWise → List Region
regions_of p = take p.rwp_num_packed_regions p.regions

unfoldable pub rows_of : RegionWise → Split → List ℕ
rows_of p Whole = rows_by no_shift (regions_of p)
rows_of p Beside = twice_of (beside p) (regions_of p)
rows_of p Below = twice_of (below p) (regions_of p)

-- how many they are
unfoldable pub row_count : RegionWise → Split → ℕ
row_count p Whole = p.rwp_num_packed_regions
row_count p Beside = 2 * p.rwp_num_packed_regions
row_count p Below = 2 * p.rwp_num_packed_regions

-- the record has a region, and no more than it can hold
pub record Countable (p : RegionWise) : Type 0 where
  pub some : 1 ≤ p.rwp_num_packed_regions
  pub few : p.rwp_num_packed_regions ≤ most

-- it has none, or more
abbrev pub Uncountable : RegionWise → Type 0
Uncountable p = (p.rwp_num_packed_regions ≡ 0) ⊎ (most < p.rwp_num_packed_regions)

-- ---- the call

-- the number that a caller gets: 0 for rows
abbrev pub tabled_number : Result ℕ Refusal → ℕ
tabled_number (Ok n) = 0
tabled_number (Err why) = refusal_number why

-- how many rows were written
abbrev pub tabled_rows : Result ℕ Refusal → ℕ
tabled_rows (Ok n) = n
tabled_rows (Err why) = 0

-- what a call answers, which is how many rows it writes or why it writes none, and these rows
pub record Table : Type 0 where
  pub answer : Result ℕ Refusal
  pub rows : List ℕ

abbrev pub refuses : Refusal → Table
refuses why = record { answer = Err why; rows = [] }

-- n rows where 9 × n numbers are lent, else refusal 10
abbrev pub fitted : ℕ → List ℕ → ℕ → Table
fitted n rows room = if leb (9 * n) room then record { answer = Ok n; rows = rows } else refuses by_rows

-- refusal 9 where the record has no region, or more than it can hold; `room` is how many numbers are lent
unfoldable pub table_of : RegionWise → Split → ℕ → Table
table_of p split room =
    if leb 1 p.rwp_num_packed_regions
    then (if leb p.rwp_num_packed_regions most then fitted (row_count p split) (rows_of p split) room else refuses by_table)
    else refuses by_table

-- the rows stand at the front of what was lent
abbrev pub wrote : Table → List ℕ → Left (Result ℕ Refusal)
wrote t lent = left t.answer (over t.rows lent)
