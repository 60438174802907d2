-- Worked payloads of a format: one statement over a list of them.
-- Assumes nothing.
use Prim.Native.Nat.{ℕ}
use mathlib.Core.Path.{◌≡◌}
use mathlib.Core.List.{List, [], ◌∷◌}
use Rattle.bits.specs.Out.{Out}
use Rattle.format.specs.Format.{Format}
use Rattle.format.specs.Reading.{run_at}

-- a payload, the bit at which the reading starts, and what it comes to
pub record Row (A : Type 0) : Type 0 where
  pub payload : List ℕ
  pub start : ℕ
  pub outcome : Out A

abbrev pub row_at : {A : Type 0} → ℕ → List ℕ → Out A → Row A
row_at p s o = record { payload = s; start = p; outcome = o }

-- from its first bit on
abbrev pub row : {A : Type 0} → List ℕ → Out A → Row A
row = row_at 0

-- what reading each payload comes to, and what stands beside it
abbrev pub came : {R A : Type 0} → Format R A → List (Row A) → List (Out A)
came f [] = []
came f (r ∷ rs) = run_at f r.payload r.start ∷ came f rs

abbrev pub stated : {A : Type 0} → List (Row A) → List (Out A)
stated [] = []
stated (r ∷ rs) = r.outcome ∷ stated rs

-- they are the same, row by row
abbrev pub Worked : {R A : Type 0} → Format R A → List (Row A) → Type 0
Worked f rows = came f rows ≡ stated rows
