-- Which table a packing has, by its count and by how many numbers are lent; and how long the rows are.
-- Assumes nothing.
use Prim.Native.Nat.{ℕ, ◌*◌, ◌≤◌, ◌<◌}
use mathlib.Core.Path.{◌≡◌, refl, ◌∙◌}
use mathlib.Core.Logic.{inl, inr}
use native.Mathlib.Omega.{arith}
use borrow.Author.Tests.{le-leb, lt-leb}
use lib.ListN.{length}
use lib.Seq.{length-take-le}
use Rattle.std.specs.Prelude.{Option}
use Rattle.kind_region_wise.specs.RegionWise.{most}
use Rattle.region_table.specs.declared.rows.Shift.{Shift}
use Rattle.bits.specs.Refusals.{by_table, by_rows}
use Rattle.kind_region_wise.specs.declared.RegionWise.{RegionWise}
use Rattle.region_table.specs.declared.rows.Split.{Split}
use Rattle.region_table.specs.declared.rows.Split.TheVariants.{Whole, Beside, Below}
use Rattle.std.specs.Prelude.{Ok}
use Rattle.region_table.specs.Rows.{Countable, Uncountable, rows_with, count_with, second_of, regions_of, rows_of, row_count, refuses, fitted, table_of}
use Rattle.region_table.proofs.RowLaws.{rows-first, twice-length}

pub rows_long : (p : RegionWise) (split : Split) → p.rwp_num_packed_regions ≤ length p.regions → length (rows_of p split) ≡ 9 * row_count p split
unfolding rows_of row_count
rows_long p Whole h = rows-first _ p.regions p.rwp_num_packed_regions h
rows_long p Beside h = twice-length _ p.regions p.rwp_num_packed_regions h
rows_long p Below h = twice-length _ p.regions p.rwp_num_packed_regions h

rows-with : (p : RegionWise) (split : Split) → rows_of p split ≡ rows_with (second_of p split) (regions_of p)
unfolding rows_of
rows-with p Whole = refl
rows-with p Beside = refl
rows-with p Below = refl

count-with : (p : RegionWise) (split : Split) → row_count p split ≡ count_with (second_of p split) p.rwp_num_packed_regions
unfolding row_count
count-with p Whole = refl
count-with p Beside = refl
count-with p Below = refl

module _ (p : RegionWise) (split : Split) (room : ℕ) where
  pub no_table : Uncountable p → table_of p split room ≡ refuses by_table
  unfolding table_of
  no_table (inl z) = simp z
  no_table (inr m) = let s : 1 ≤ p.rwp_num_packed_regions = omega arith in simp (le-leb _ _ s, lt-leb _ _ m)

  pub counted : Countable p → table_of p split room ≡ fitted (row_count p split) (rows_of p split) room
  unfolding table_of
  counted k = simp (le-leb _ _ k.some, le-leb _ _ k.few)

  -- the same, by how the second half of the rows is shifted
  pub counted-with : {second : Option Shift} → second ≡ second_of p split → length p.regions ≡ most → Countable p
      → table_of p split room ≡ fitted (count_with second (length (regions_of p))) (rows_with second (regions_of p)) room
  counted-with e all k =
      let n : length (regions_of p) ≡ p.rwp_num_packed_regions = length-take-le p.rwp_num_packed_regions p.regions (omega (arith, k.few)) in
      counted k ∙ rw (e, n, rows-with p split, count-with p split)

  pub few-lent : Countable p → room < 9 * row_count p split → table_of p split room ≡ refuses by_rows
  few-lent k h = counted k ∙ simp (lt-leb _ _ h)

  pub enough-lent : Countable p → 9 * row_count p split ≤ room → table_of p split room ≡ record { answer = Ok (row_count p split); rows = rows_of p split }
  enough-lent k h = counted k ∙ simp (le-leb _ _ h)

-- what the goals of `write` want
pub ruleset tables = (no_table, counted-with)
