-- A value of the type `Slots` has eight entries, and a law of reading one.
-- Assumes nothing.
use Prim.Native.Nat.{ℕ, zero, suc, ◌<◌}
use native.Mathlib.Nat.{le_of_suc-le-suc, not-suc-le-zero}
use mathlib.Core.Path.{◌≡◌, refl}
use mathlib.Core.List.{List, [], ◌∷◌}
use lib.ListN.{length, get_or}
use mir.Val.{Val}
use denote.Laws.{Is}
use Rattle.slots.specs.Slots.{Eight}
use Rattle.slots.specs.declared.Slots.{Slots}
use Rattle.slots.specs.contracts.Slots.{the_row}

-- of a parameter of this type a proof has the last fact as `c.well_formed.0`, or `c.well_formed.1.0` where it is the second parameter
pub eight : (s : Slots) (vs : List Val) → Is the_row s vs → Eight s
eight s vs h = h.1.1.0.1.0.1

-- within the list nothing hangs on what stands past its end
pub get_or-in {ℓ} : {A : Type ℓ} (l : List A) (i : ℕ) (a b : A) → i < length l → get_or l i a ≡ get_or l i b
get_or-in [] i a b h = absurd (not-suc-le-zero h)
get_or-in (x ∷ xs) zero a b h = refl
get_or-in (x ∷ xs) (suc i) a b h = get_or-in xs i a b (le_of_suc-le-suc h)
