-- The table's getters are faithful: a record loses nothing of its message.
-- Assumes nothing.
use mathlib.Core.Path.{refl}
use mathlib.Core.Bool.{not, ◌&&◌}
use lib.Dec.{eqb}
use Rattle.format.specs.Faithful.{Faithful}
use Rattle.format.proofs.Faithful.{faithful-when-then}
use Rattle.format.proofs.FaithfulParts.{faithful-when-within}
use Rattle.kind_frame_packing.specs.FramePacking.{frame_packing}

pub faithful : Faithful frame_packing
unfolding frame_packing
faithful =
    λ _ _. λ c _. faithful-when-then _ _ (eqb c 0) _ _
    λ t _. λ q _. λ _ _. λ _ _. λ _ _. λ _ _. λ _ _. λ _ _. λ _ _. faithful-when-within _ _ (eqb q 0 && not (eqb t 5)) _ _ _
    λ _ _. λ _ _. λ _ _. λ _ _. λ _ _. λ _ _. λ _ _.
    ((((((((((((((((((tt, refl), refl), refl), refl), refl), refl), refl), refl), refl), refl), refl), refl), refl), refl), refl), refl), refl), refl)
