-- `signed_of` and `twos_of` undo each other: i(32) is two's complement.
-- Assumes nothing.
use Prim.Native.Nat.{ℕ, suc, ◌-◌, ◌^◌, ◌≤◌, ◌<◌}
use mathlib.Core.Path.{◌≡◌, ap}
use mathlib.Core.Logic.{⊎_elim}
use native.Mathlib.Omega.{arith}
use lib.IntN.{ℤ, pos, negsuc}
use lib.Signed.{mag}
use borrow.Author.Tests.{lt-ltb, le-ltb}
use Rattle.bits.specs.Signed.{signed_of, twos_of}
use Rattle.bits.proofs.BitLaws.{below}

pub twos-signed : (x : ℕ) → x < 2 ^ 32 → twos_of (signed_of x) ≡ x
unfolding signed_of twos_of
twos-signed x h =
    ⊎_elim (λ l. simp (lt-ltb x (2 ^ 31) l)) (λ (l : 2 ^ 31 ≤ x). simp (le-ltb x (2 ^ 31) l) (omega arith)) (below x (2 ^ 31))

pub signed-twos : (z : ℤ) → mag z < 2 ^ 31 → signed_of (twos_of z) ≡ z
unfolding signed_of twos_of
signed-twos (pos n) h = simp (lt-ltb n (2 ^ 31) h)
signed-twos (negsuc n) h = simp (le-ltb (2 ^ 32 - suc n) (2 ^ 31) (omega arith)) (ap negsuc (omega arith))
