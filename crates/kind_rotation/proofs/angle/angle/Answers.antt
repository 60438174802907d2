-- the number that was read, and what the range says of it
use lib.Signed.{le_z}
use Rattle.std.proofs.Common.{◌≡◌, refl, ℤ, pos, negsuc, Some, arith}
use Rattle.std.proofs.Math.Facts.{to_z-of_z}
use Rattle.std.specs.Ordering.{partial_le, int_cmp}
use Rattle.format.specs.Syntax.{i32}
use Rattle.format.proofs.Steps.{step-code, step-done}
use Rattle.kind_rotation.proofs.angle.angle.Goals as goal

-- a range compares a number with its ends as a format's rule does
ordered : (x y : ℤ) → partial_le (λ a b. Some (int_cmp a b)) x y ≡ le_z x y
ordered (pos a) (pos b) = grind arith
ordered (pos a) (negsuc b) = refl
ordered (negsuc a) (pos b) = refl
ordered (negsuc a) (negsuc b) = grind arith

pub returns-then-not-contains : goal.returns-then-not-contains
unfolding i32
returns-then-not-contains c = grind (arith, step-code, step-done, ordered, to_z-of_z)

pub returns : goal.returns
unfolding i32
returns c = grind (arith, step-code, step-done, ordered, to_z-of_z)
