-- The bytes of a number have that number.
-- Assumes nothing.
use Prim.Native.Nat.{ℕ, zero, suc, ◌+◌, ◌*◌, ◌/◌, ◌%◌, ◌^◌, ◌<◌}
use mathlib.Core.Path.{◌≡◌, refl, ap, ◌∙◌, subst}
use mathlib.Core.List.{List, [], ◌∷◌, ◌++◌}
use native.Mathlib.Nat.{div-add-mod'}
use native.Mathlib.Omega.{arith}
use lib.Pow.{shr_lt}
use Rattle.bits.specs.Identifier.{bytes_of}
use Rattle.format.specs.Syntax.{bytes_from}

one_more : (x : ℕ) (ys : List ℕ) (y : ℕ) → bytes_from x (ys ++ (y ∷ [])) ≡ bytes_from x ys * 256 + y
one_more x [] y = refl
one_more x (z ∷ ys) y = one_more (x * 256 + z) ys y

pub bytes_back : (n v : ℕ) → v < 2 ^ (8 * n) → bytes_from 0 (bytes_of n v) ≡ v
unfolding bytes_of
bytes_back zero v h = omega arith
bytes_back (suc n) v h =
    let m : 8 * suc n ≡ 8 * n + 8 = omega arith in
    one_more 0 (bytes_of n (v / 256)) (v % 256)
    ∙ ap (λ x. x * 256 + v % 256) (bytes_back n (v / 256) (shr_lt {n = v} (8 * n) 8 (subst (λ k. v < 2 ^ k) m h)))
    ∙ div-add-mod' v 256
