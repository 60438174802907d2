-- The tables' getters are faithful: a record loses nothing of its message.
-- Assumes nothing.
use mathlib.Core.Path.{refl}
use lib.Dec.{eqb}
use Rattle.format.specs.Faithful.{Faithful}
use Rattle.format.specs.Syntax.{listed}
use Rattle.format.proofs.Faithful.{faithful-when, faithful-part}
use Rattle.format.proofs.FaithfulParts.{faithful-listed}
use Rattle.kind_region_wise.specs.RegionWise.{most, region, region_wise}

region-faithful : Faithful region
unfolding region
region-faithful = λ _ _. λ _ _. λ g _. λ _ _. λ _ _. λ _ _. λ _ _. λ _ _. λ _ _. λ _ _. λ _ _.
    faithful-when _ _ (eqb g 1) _ λ _ _. λ _ _. λ _ _. λ _ _. λ _ _. λ _ _. λ _ _. λ _ _. λ _ _. λ _ _. (((((((((((((((((((((tt, refl), refl), refl), refl), refl), refl), refl), refl), refl), refl), refl), refl), refl), refl), refl), refl), refl), refl), refl), refl), refl)

pub faithful : Faithful region_wise
unfolding region_wise
faithful = λ c _. faithful-when _ _ (eqb c 0) _ λ _ _. λ _ _. λ _ _. λ n _. λ _ _. λ _ _. λ _ _. λ _ _.
    faithful-part (listed most n region) (λ r. r.regions) _ _ _ _ (faithful-listed most region region-faithful n) λ s _. ((((((((((tt, refl), refl), refl), refl), refl), refl), refl), refl), refl), refl)
