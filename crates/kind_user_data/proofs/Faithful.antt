-- The tables' getters are faithful: a record loses nothing of its head.
-- Assumes nothing.
use mathlib.Core.Path.{refl}
use lib.Dec.{eqb}
use borrow.Author.Tests.{ltb-true}
use Rattle.format.specs.Faithful.{Faithful}
use Rattle.format.proofs.Faithful.{faithful-when}
use Rattle.format.proofs.Bytes.{bytes_back}
use Rattle.kind_user_data.specs.Registered.{registered}
use Rattle.kind_user_data.specs.Unregistered.{unregistered}

pub registered-faithful : Faithful registered
unfolding registered
registered-faithful = λ c _. faithful-when _ _ (eqb c 255) _ λ _ _. ((tt, refl), refl)

pub unregistered-faithful : Faithful unregistered
unfolding unregistered
unregistered-faithful = λ c f. (tt, bytes_back 16 c (ltb-true _ _ f))
