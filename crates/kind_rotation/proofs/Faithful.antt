-- The table's getters are faithful: a record loses nothing of its message.
-- Assumes nothing.
use mathlib.Core.Path.{refl}
use lib.Dec.{eqb}
use Rattle.format.specs.Faithful.{Faithful}
use Rattle.format.specs.Syntax.{i32}
use Rattle.format.proofs.Faithful.{faithful-when, faithful-part}
use Rattle.format.proofs.FaithfulParts.{faithful-i32}
use Rattle.kind_rotation.specs.Rotation.{turn, tilt, rotation}

pub faithful : Faithful rotation
unfolding rotation
faithful =
    λ cancel _. faithful-when _ _ (eqb cancel 0) _
    λ _ _. λ _ _. faithful-part (i32 turn) _ _ _ _ _ (faithful-i32 turn)
    λ yaw _. faithful-part (i32 tilt) _ _ _ _ _ (faithful-i32 tilt)
    λ pitch _. faithful-part (i32 turn) _ _ _ _ _ (faithful-i32 turn)
    λ roll _. ((((((tt, refl), refl), refl), refl), refl), refl)
