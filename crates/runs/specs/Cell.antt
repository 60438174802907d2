-- A cell of a machine: a part of its state on which some calls act, each as on a machine of its own, and no other call has any effect.
use Rattle.std.specs.Prelude.{◌≡◌, Bool, true, false, List, [], ◌∷◌}
use Rattle.runs.specs.Run.{Machine, after, replies, replies_at, each}

-- `acts` says which calls act on it, `view` is its state in the whole one, and `turn` its own machine; Good is what every call keeps of a state
pub record Cell {S X C R : Type 0} (step : Machine S C R) (turn : Machine X C R) (Good : S → Type 0) (acts : C → Bool) (view : S → X) : Type 0 where
  pub keeps : (s : S) (c : C) → Good s → Good (step s c).0
  pub own : (s : S) (c : C) → Good s → acts c ≡ true → ◌≡◌ {A = X × R} (view (step s c).0, (step s c).1) (turn (view s) c)
  pub other : (s : S) (c : C) → Good s → acts c ≡ false → view (step s c).0 ≡ view s

-- two lists of calls, one for one alike
pub data Pairwise {C : Type 0} (Alike : C → C → Type 0) : List C → List C → Type 0 where
  end : Pairwise Alike [] []
  both : {c d : C} {cs ds : List C} → Alike c d → Pairwise Alike cs ds → Pairwise Alike (c ∷ cs) (d ∷ ds)

-- The runs cs and ds, from s and t, give the same at the cell: every reply but for what `blind` takes from it, and where the cell stands; and
-- each gives what its own calls there, xs and ys, give on the cell alone from x on, after a first call that is answered r.
pub record Same {S X C R : Type 0} (step : Machine S C R) (turn : Machine X C R) (acts : C → Bool) (view : S → X) (blind : R → R) (x : X) (r : R)
    (s t : S) (cs ds xs ys : List C) : Type 0 where
  pub answered : each blind (replies_at step acts s cs) ≡ each blind (replies_at step acts t ds)
  pub left : view (after step s cs) ≡ view (after step t ds)
  pub alone : replies_at step acts s cs ≡ r ∷ replies turn x xs
  pub stands : view (after step s cs) ≡ after turn x xs
  pub alone' : replies_at step acts t ds ≡ r ∷ replies turn x ys
  pub stands' : view (after step t ds) ≡ after turn x ys
