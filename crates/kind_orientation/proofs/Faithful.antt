-- The table's getters are faithful: a record loses nothing of its message.
-- Assumes nothing.
use mathlib.Core.Path.{refl}
use lib.Dec.{eqb}
use Rattle.format.specs.Faithful.{Faithful}
use Rattle.format.proofs.Faithful.{faithful-when}
use Rattle.kind_orientation.specs.Orientation.{orientation}

pub faithful : Faithful orientation
unfolding orientation
faithful = λ c _. faithful-when _ _ (eqb c 0) _ λ _ _. λ _ _. λ _ _. ((((tt, refl), refl), refl), refl)
