-- The table's getters are faithful: a record loses nothing of its message.
-- Assumes nothing.
use Prim.Native.Nat.{ℕ, ◌+◌}
use mathlib.Core.Path.{refl}
use mathlib.Core.Bool.{◌||◌}
use native.Mathlib.Omega.{arith}
use lib.Dec.{eqb}
use borrow.Author.Tests.{le-leb}
use Rattle.format.specs.Format.{◌of◌}
use Rattle.format.specs.Syntax.{listed}
use Rattle.format.specs.Faithful.{Faithful}
use Rattle.format.proofs.Faithful.{faithful-when-then, faithful-else-then, faithful-else, faithful-part}
use Rattle.format.proofs.FaithfulParts.{assoc, faithful-listed}
use Rattle.kind_depth.specs.Depth.{element, element_if, most, listed_number, depth}

element-faithful : (flag : ℕ) → Faithful (element_if flag)
unfolding element
element-faithful flag = faithful-else _ _ (eqb flag 1) _ _ _ (λ _ _. λ _ _. λ _ _. λ _ _. ((((tt, refl), refl), refl), refl)) (tt, refl)

number-faithful : Faithful listed_number
number-faithful = λ _ _. (tt, refl)

pub faithful : Faithful depth
unfolding depth
faithful =
    λ near _. λ far _. λ least _. λ greatest _. λ t _.
    faithful-when-then _ _ (eqb least 1 || eqb greatest 1) _ _ λ _ _.
    faithful-part (element_if near) _ _ _ _ _ (element-faithful near) λ _ _.
    faithful-part (element_if far) _ _ _ _ _ (element-faithful far) λ _ _.
    faithful-part (element_if least) _ _ _ _ _ (element-faithful least) λ _ _.
    faithful-part (element_if greatest) _ _ _ _ _ (element-faithful greatest) λ _ _.
    faithful-else-then _ _ (eqb t 3) _ _ _ _
    (λ n _.
    assoc (listed most (n + 1) listed_number of (λ r. r.depth_nonlinear_representation_model)) _ _ _ _
    (faithful-part (listed most (n + 1) listed_number) (λ r. r.depth_nonlinear_representation_model) _ _ _ _ (faithful-listed most listed_number number-faithful (n + 1)) λ _ _.
    (((((((((((((tt, refl), refl), refl), refl), refl), refl), refl), refl), refl), refl), le-leb 1 (n + 1) (omega arith)), omega arith), refl)))
    (((((((((((tt, refl), refl), refl), refl), refl), refl), refl), refl), refl), refl), refl)
