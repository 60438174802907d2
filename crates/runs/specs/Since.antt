-- The history of a machine, its calls, each with what it was answered; and that something came in it and was not ended since.
use Rattle.std.specs.Prelude.{◌≡◌, List, [], ◌∷◌, ◌++◌}
use Rattle.runs.specs.Run.{Machine}

pub record Told (C R : Type 0) : Type 0 where
  pub call : C
  pub reply : R

abbrev pub history : {X C R : Type 0} → Machine X C R → X → List C → List (Told C R)
history turn x [] = []
history turn x (c ∷ cs) = record { call = c; reply = (turn x c).1 } ∷ history turn (turn x c).0 cs

-- Gives says which call brings it, Leaves which call does not end it
module _ {C R : Type 0} (Gives : Told C R → Type 0) (Leaves : C → R → Type 0) where
  abbrev pub Leave : List (Told C R) → Type 0
  Leave [] = Unit {0}
  Leave (t ∷ ts) = Leaves t.call t.reply × Leave ts

  -- it came last with `giver`, and none of the calls since has ended it
  pub record Since (ts : List (Told C R)) : Type 0 where
    pub before : List (Told C R)
    pub giver : Told C R
    pub later : List (Told C R)
    pub split : ts ≡ before ++ giver ∷ later
    pub gives : Gives giver
    pub lasts : Leave later
