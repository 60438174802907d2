-- Runs of calls on a machine: S is its state, C are its calls, R is what they are answered. A machine is what one call leaves and answers.
use Rattle.std.specs.Prelude.{Bool, List, [], ◌∷◌, if◌then◌else◌}

abbrev pub Machine : Type 0 → Type 0 → Type 0 → Type 0
Machine S C R = S → C → S × R

module _ {S C R : Type 0} (step : Machine S C R) where
  -- where a run ends
  abbrev pub after : S → List C → S
  after s [] = s
  after s (c ∷ cs) = after (step s c).0 cs

  -- what its calls are answered
  abbrev pub replies : S → List C → List R
  replies s [] = []
  replies s (c ∷ cs) = (step s c).1 ∷ replies (step s c).0 cs

  -- what those of its calls are answered that are chosen
  abbrev pub replies_at : (C → Bool) → S → List C → List R
  replies_at chosen s [] = []
  replies_at chosen s (c ∷ cs) =
      let rest = replies_at chosen (step s c).0 cs in
      if chosen c then (step s c).1 ∷ rest else rest

-- the calls that are chosen
abbrev pub only : {C : Type 0} → (C → Bool) → List C → List C
only chosen [] = []
only chosen (c ∷ cs) = if chosen c then c ∷ only chosen cs else only chosen cs

-- what is the same of two runs is said of their replies but for some part of each
abbrev pub each : {A B : Type 0} → (A → B) → List A → List B
each f [] = []
each f (x ∷ xs) = f x ∷ each f xs
