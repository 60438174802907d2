-- The table's getters are faithful: a record loses nothing of its message.
-- Assumes nothing.
use mathlib.Core.Path.{refl}
use lib.Dec.{eqb}
use Rattle.format.specs.Faithful.{Faithful}
use Rattle.format.proofs.Faithful.{faithful-when, faithful-when-then}
use Rattle.kind_alpha.specs.Alpha.{alpha}

pub faithful : Faithful alpha
unfolding alpha
faithful =
    λ c _. faithful-when _ _ (eqb c 0) _ λ _ _. λ _ _. λ _ _. λ _ _. λ _ _. λ d _. faithful-when-then _ _ (eqb d 1) _ _
    λ _ _. ((((((((tt, refl), refl), refl), refl), refl), refl), refl), refl)
