-- The table's getters are faithful: a record loses nothing of its message.
-- Assumes nothing.
use mathlib.Core.Path.{refl}
use lib.Dec.{eqb}
use Rattle.format.specs.Faithful.{Faithful}
use Rattle.format.proofs.Faithful.{faithful-when}
use Rattle.kind_equirectangular.specs.Equirectangular.{equirectangular}

pub faithful : Faithful equirectangular
unfolding equirectangular
faithful =
    λ cancel _. faithful-when _ _ (eqb cancel 0) _
    λ _ _. λ guarded _. λ _ _. faithful-when _ _ (eqb guarded 1) _
    λ _ _. λ _ _. λ _ _. (((((((tt, refl), refl), refl), refl), refl), refl), refl)
