-- The rows of a run of regions, and what they leave of the lent numbers.
-- Assumes nothing.
use Prim.Native.Nat.{ℕ, ◌+◌, ◌*◌, ◌≤◌, ◌<◌}
use mathlib.Core.Path.{◌≡◌, refl, sym, ap, ◌∙◌}
use mathlib.Core.List.{List, [], ◌∷◌, ◌++◌, append_assoc}
use native.Mathlib.Numerals.{add-one}
use native.Mathlib.Omega.{arith}
use borrow.Author.Tests.{le-leb, lt-leb}
use lib.ListN.{length, get_or, take, length-append}
use lib.Seq.{sets, take-suc, length-take-le}
use Rattle.bits.specs.Refusals.{by_rows}
use Rattle.lent.proofs.Stores.{sets-append, sets-front}
use Rattle.kind_region_wise.specs.declared.region.Region.{Region}
use Rattle.region_table.specs.declared.rows.Shift.{Shift}
use Rattle.std.specs.Prelude.{Option, Some, None, Ok, Err}
use Rattle.region_table.specs.Rows.{row, rows_by, no_shift, twice_of, rows_with, count_with, fitted, wrote}
use Rattle.lent.specs.Lent.{left}

-- ---- rows

rows_append : (by : Shift) (xs ys : List Region) → rows_by by (xs ++ ys) ≡ rows_by by xs ++ rows_by by ys
rows_append by [] ys = refl
rows_append by (r ∷ rs) ys =
    ap (λ (t : List ℕ). row by r ++ t) (rows_append by rs ys) ∙ sym (append_assoc (row by r) (rows_by by rs) (rows_by by ys))

rows-length : (by : Shift) (rs : List Region) → length (rows_by by rs) ≡ 9 * length rs
rows-length by [] = refl
rows-length by (r ∷ rs) = omega (arith, rows-length by rs)

pub rows-first : (by : Shift) (rs : List Region) (n : ℕ) → n ≤ length rs → length (rows_by by (take n rs)) ≡ 9 * n
rows-first by rs n h = rows-length by (take n rs) ∙ ap (λ (k : ℕ). 9 * k) (length-take-le n rs h)

pub twice-length : (by : Shift) (rs : List Region) (n : ℕ) → n ≤ length rs → length (twice_of by (take n rs)) ≡ 9 * (2 * n)
twice-length by rs n h =
    length-append (rows_by no_shift (take n rs)) (rows_by by (take n rs)) ∙ omega (arith, rows-first no_shift rs n h, rows-first by rs n h)

-- one row more
pub rows_more : (by : Shift) (l : List ℕ) (rs : List Region) (at i : ℕ) (d : Region) → i < length rs
    → sets (sets l at (rows_by by (take i rs))) (at + 9 * i) (row by (get_or rs i d)) ≡ sets l at (rows_by by (take (i + 1) rs))
rows_more by l rs at i d h =
    let n : length (rows_by by (take i rs)) ≡ 9 * i = rows-first by rs i (omega arith) in
    let two = sets-append (rows_by by (take i rs)) (row by (get_or rs i d)) l at in
    sym (rw (add-one, take-suc rs i d h, rows_append, two, n))

-- ---- what is left of the lent numbers l

pub few : (n : ℕ) (xs l : List ℕ) → length l < 9 * n → left (Err by_rows) l ≡ wrote (fitted n xs (length l)) l
few n xs l h = simp (lt-leb _ _ h)

enough : (n : ℕ) (xs l : List ℕ) → length xs ≡ 9 * n → 9 * n ≤ length l → left (Ok n) (sets l 0 xs) ≡ wrote (fitted n xs (length l)) l
enough n xs l e h = simp (le-leb _ _ h, sets-front xs l (omega arith))

-- a shift of nothing
pub shiftless : (s : Shift) → (s.projected_left ≡ 0) × ((s.projected_top ≡ 0) × ((s.packed_left ≡ 0) × (s.packed_top ≡ 0))) → s ≡ no_shift
shiftless s e = made s.projected_left s.projected_top s.packed_left s.packed_top e.0 e.1.0 e.1.1.0 e.1.1.1
  where
    made : (a b c d : ℕ) → a ≡ 0 → b ≡ 0 → c ≡ 0 → d ≡ 0 → record { projected_left = a; projected_top = b; packed_left = c; packed_top = d } ≡ no_shift
    made a b c d p q r t = rw (p, q, r, t)

-- l₁ is the numbers once the first rows are written, and l₂ once all are
module _ (rs : List Region) (l l₁ l₂ : List ℕ) {none : Shift} (z : none ≡ no_shift) (q₁ : l₁ ≡ sets l 0 (rows_by none rs)) where
  pub all-first : {second : Option Shift} → second ≡ None → l₂ ≡ l₁ → l₂ ≡ sets l 0 (rows_with second rs)
  all-first e q₂ = rw (e, q₂, q₁, z)

  pub all-second : {second : Option Shift} {by : Shift} → second ≡ Some by → l₂ ≡ sets l₁ (9 * length rs) (rows_by by rs) → l₂ ≡ sets l 0 (rows_with second rs)
  all-second {by = by} e q₂ =
      let k : 0 + length (rows_by no_shift rs) ≡ 9 * length rs = omega (arith, rows-length no_shift rs) in
      rw (e, q₂, q₁, z, sets-append (rows_by no_shift rs) (rows_by by rs) l 0, k)

-- so many rows are there
with-length : (second : Option Shift) (rs : List Region) → length (rows_with second rs) ≡ 9 * count_with second (length rs)
with-length None rs = rows-length no_shift rs
with-length (Some by) rs = length-append (rows_by no_shift rs) (rows_by by rs) ∙ omega (arith, rows-length no_shift rs, rows-length by rs)

pub all-written : (second : Option Shift) (rs : List Region) (n : ℕ) (l l₂ : List ℕ) → n ≡ count_with second (length rs) → l₂ ≡ sets l 0 (rows_with second rs) → 9 * n ≤ length l
    → left (Ok n) l₂ ≡ wrote (fitted (count_with second (length rs)) (rows_with second rs) (length l)) l
all-written second rs n l l₂ e q h =
    rw (e, q) (enough (count_with second (length rs)) (rows_with second rs) l (with-length second rs) (omega (arith, e)))
