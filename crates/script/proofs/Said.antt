-- A line that says nothing spells no call.
-- Assumes nothing.
use Rattle.std.proofs.Common.{◌≡◌, ℕ, List, [], ◌∷◌, length, refl, arith}
use Rattle.std.specs.Prelude.{Err}
use Rattle.lent.specs.Lent.{left}
use Rattle.words.specs.Place.{index_of}
use Rattle.script.specs.Words.{alike, first_of}
use Rattle.script.specs.Names.{name_of}
use Rattle.script.specs.Line.{spelled_of}
use Rattle.script.specs.declared.wrong.Why.TheVariants.{NoCall}

pub nothing : (s lent : List ℕ) → length s ≡ 0 → spelled_of s lent ≡ left (Err NoCall) lent
unfolding spelled_of name_of first_of alike index_of
nothing [] lent h = refl
nothing (c ∷ s) lent h = absurd (omega arith)
