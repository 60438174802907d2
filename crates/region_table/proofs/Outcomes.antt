-- Which number a packing's table has exactly when, and what it leaves of the lent numbers.
-- Assumes nothing.
use Prim.Native.Nat.{ℕ, ◌*◌, ◌≤◌, ◌<◌}
use mathlib.Core.Path.{◌≡◌, sym, ap, ◌∙◌}
use mathlib.Core.Logic.{◌≢◌, ◌⊎◌, inl, inr, ◌↔◌}
use mathlib.Core.List.{List}
use native.Mathlib.Omega.{arith}
use lib.ListN.{length, take, drop}
use lib.Seq.{take_at, drop_at}
use Rattle.bits.specs.declared.refusal.Refusal.{Refusal}
use Rattle.bits.proofs.BitLaws.{below as below_or_not}
use Rattle.kind_region_wise.specs.RegionWise.{most}
use Rattle.kind_region_wise.specs.declared.RegionWise.{RegionWise}
use Rattle.region_table.specs.declared.rows.Split.{Split}
use Rattle.std.specs.Prelude.{Ok}
use Rattle.region_table.specs.Rows.{Countable, Uncountable, Table, rows_of, row_count, refuses, tabled_number, tabled_rows, table_of, wrote}
use Rattle.region_table.specs.RowCases.{RegionWiseCase, none, few, full}
use Rattle.region_table.proofs.CountLaws.{no_table, few-lent, enough-lent, rows_long}

-- ---- any table

pub number_of : {x t : Table} → x ≡ t → tabled_number x.answer ≡ tabled_number t.answer
number_of e = ap (λ (t : Table). tabled_number t.answer) e

pub count_of : {x t : Table} → x ≡ t → tabled_rows x.answer ≡ tabled_rows t.answer
count_of e = ap (λ (t : Table). tabled_rows t.answer) e

-- a refusal leaves the lent numbers as they were
pub refusal-stays : {t : Table} {why : Refusal} (lent : List ℕ) → t ≡ refuses why → (wrote t lent).lent ≡ lent
refusal-stays lent e = ap (λ (t : Table). (wrote t lent).lent) e

pub countable-or-not : (p : RegionWise) → Countable p → Uncountable p → ⊥
countable-or-not p k (inl z) = omega (arith, k.some)
countable-or-not p k (inr m) = omega (arith, k.few)

-- ---- a packing's

pub region-wise-cases : (p : RegionWise) (split : Split) (room : ℕ) → RegionWiseCase p split room (table_of p split room)
region-wise-cases p split room = go (below_or_not p.rwp_num_packed_regions 1) (below_or_not most p.rwp_num_packed_regions) (below_or_not room (9 * row_count p split))
  where
    uncounted : Uncountable p → RegionWiseCase p split room (table_of p split room)
    uncounted u = none u (no_table p split room u)

    go : (p.rwp_num_packed_regions < 1) ⊎ (1 ≤ p.rwp_num_packed_regions) → (most < p.rwp_num_packed_regions) ⊎ (p.rwp_num_packed_regions ≤ most) → (room < 9 * row_count p split) ⊎ (9 * row_count p split ≤ room)
        → RegionWiseCase p split room (table_of p split room)
    go (inl z) m h = uncounted (inl (omega arith))
    go (inr s) (inl m) h = uncounted (inr m)
    go (inr s) (inr m) (inl h) = let k : Countable p = record { some = s; few = m } in few k h (few-lent p split room k h)
    go (inr s) (inr m) (inr h) = let k : Countable p = record { some = s; few = m } in full k h (enough-lent p split room k h)

-- 9 exactly where the record has no region, or more than it can hold
pub table-iff : (p : RegionWise) (split : Split) (room : ℕ) → (tabled_number (table_of p split room).answer ≡ 9) ↔ ((p.rwp_num_packed_regions ≡ 0) ⊎ (most < p.rwp_num_packed_regions))
table-iff p split room = go (region-wise-cases p split room)
  where
    go : RegionWiseCase p split room (table_of p split room) → (tabled_number (table_of p split room).answer ≡ 9) ↔ Uncountable p
    go (none u e) = (λ q. u, λ v. number_of e)
    go (few k h e) = (λ q. absurd (omega (arith, number_of e)), λ v. absurd (countable-or-not p k v))
    go (full k h e) = (λ q. absurd (omega (arith, number_of e)), λ v. absurd (countable-or-not p k v))

-- 10 exactly where it has a table, which does not fit
pub rows-iff : (p : RegionWise) (split : Split) (room : ℕ)
    → (tabled_number (table_of p split room).answer ≡ 10) ↔ (Countable p × (room < 9 * row_count p split))
rows-iff p split room = go (region-wise-cases p split room)
  where
    go : RegionWiseCase p split room (table_of p split room) → (tabled_number (table_of p split room).answer ≡ 10) ↔ (Countable p × (room < 9 * row_count p split))
    go (none u e) = (λ q. absurd (omega (arith, number_of e)), λ v. absurd (countable-or-not p v.0 u))
    go (few k h e) = (λ q. (k, h), λ v. number_of e)
    go (full k h e) = (λ q. absurd (omega (arith, number_of e)), λ v. absurd (let g = v.1 in omega arith))

-- 0 with n rows exactly where it fits and n is how many they are
pub taken-iff : (p : RegionWise) (split : Split) (room n : ℕ)
    → ((tabled_number (table_of p split room).answer ≡ 0) × (tabled_rows (table_of p split room).answer ≡ n))
    ↔ (Countable p × (9 * row_count p split ≤ room) × (n ≡ row_count p split))
taken-iff p split room n = go (region-wise-cases p split room)
  where
    go : RegionWiseCase p split room (table_of p split room)
        → ((tabled_number (table_of p split room).answer ≡ 0) × (tabled_rows (table_of p split room).answer ≡ n))
        ↔ (Countable p × (9 * row_count p split ≤ room) × (n ≡ row_count p split))
    go (none u e) = (λ q. absurd (omega (arith, number_of e, q.0)), λ v. absurd (countable-or-not p v.0 u))
    go (few k h e) = (λ q. absurd (omega (arith, number_of e, q.0)), λ v. absurd (let g = v.1 in omega arith))
    go (full k h e) = (λ q. (k, h, sym q.1 ∙ count_of e), λ v. (number_of e, count_of e ∙ sym v.2))

-- a refusal leaves the lent numbers as they were
pub refused-stays : (p : RegionWise) (split : Split) (lent : List ℕ) → tabled_number (table_of p split (length lent)).answer ≢ 0
    → (wrote (table_of p split (length lent)) lent).lent ≡ lent
refused-stays p split lent q = go (region-wise-cases p split (length lent))
  where
    go : RegionWiseCase p split (length lent) (table_of p split (length lent)) → (wrote (table_of p split (length lent)) lent).lent ≡ lent
    go (none u e) = refusal-stays lent e
    go (few k h e) = refusal-stays lent e
    go (full k h e) = absurd (q (number_of e))

-- n rows stand over the front, and the numbers past them stay
pub rows-stand : (p : RegionWise) (split : Split) (lent : List ℕ) (n : ℕ) → length p.regions ≡ most → (table_of p split (length lent)).answer ≡ Ok n
    → (take (9 * n) (wrote (table_of p split (length lent)) lent).lent ≡ rows_of p split)
    × (drop (9 * n) (wrote (table_of p split (length lent)) lent).lent ≡ drop (9 * n) lent)
rows-stand p split lent n m q = go (region-wise-cases p split (length lent))
  where
    after : List ℕ
    after = (wrote (table_of p split (length lent)) lent).lent

    taken : tabled_number (table_of p split (length lent)).answer ≡ 0
    taken = ap tabled_number q

    go : RegionWiseCase p split (length lent) (table_of p split (length lent)) → (take (9 * n) after ≡ rows_of p split) × (drop (9 * n) after ≡ drop (9 * n) lent)
    go (none u e) = absurd (omega (arith, number_of e, taken))
    go (few k h e) = absurd (omega (arith, number_of e, taken))
    go (full k h e) =
        let same : row_count p split ≡ n = sym (count_of e) ∙ ap tabled_rows q in
        let long : length (rows_of p split) ≡ 9 * n = rows_long p split (omega (arith, k.few)) ∙ ap (λ i. 9 * i) same in
        let past = drop (length (rows_of p split)) lent in
        let l = ap (λ (t : Table). (wrote t lent).lent) e in (
          ap (λ (xs : List ℕ). take (9 * n) xs) l ∙ take_at (rows_of p split) past (9 * n) long,
          ap (λ (xs : List ℕ). drop (9 * n) xs) l ∙ drop_at (rows_of p split) past (9 * n) long ∙ ap (λ (i : ℕ). drop i lent) long,
        )
