-- Runs of stores into a list, and what is left of one that was lent.
-- Assumes nothing.
use Prim.Native.Nat.{ℕ, suc, ◌+◌, ◌≤◌, ◌<◌}
use mathlib.Core.Path.{◌≡◌, sym, ap, ◌∙◌}
use mathlib.Core.List.{List, [], ◌∷◌, ◌++◌}
use native.Mathlib.Nat.{zero-add, add-zero}
use native.Mathlib.Numerals.{add-one}
use native.Mathlib.Omega.{arith}
use lib.ListN.{length, get_or, set, take}
use Rattle.std.proofs.Common.{map}
use Rattle.std.proofs.lemmas.List.{length-map, get_or-map}
use lib.Seq.{sets, sets-eq, take-suc, length-take-le}
use Rattle.lent.specs.Lent.{Left, left, over}

-- two runs, one after the other, are one
pub sets-append : (xs ys l : List ℕ) (i : ℕ) → sets l i (xs ++ ys) ≡ sets (sets l i xs) (i + length xs) ys
sets-append [] ys l i = rw add-zero
sets-append (x ∷ xs) ys l i =
    let e : suc i + length xs ≡ i + suc (length xs) = omega arith in
    sets-append xs ys (set l i x) (suc i) ∙ ap (λ (k : ℕ). sets (sets (set l i x) (suc i) xs) k ys) e

-- one store more
pub sets_more : (l xs : List ℕ) (at j : ℕ) → j < length xs → set (sets l at (take j xs)) (at + j) (get_or xs j 0) ≡ sets l at (take (j + 1) xs)
sets_more l xs at j h =
    let n : length (take j xs) ≡ j = length-take-le j xs (omega arith) in
    let two = sets-append (take j xs) (get_or xs j 0 ∷ []) l at in
    sym (rw (add-one, take-suc xs j 0 h, two, n))

-- the same of the numbers of a run
pub put_more : {X : Type 0} (number : X → ℕ) (l : List ℕ) (xs : List X) (at j : ℕ) (x : X) → j < length xs → x ≡ get_or xs j x
    → set (sets l at (take j (map number xs))) (at + j) (number x) ≡ sets l at (take (j + 1) (map number xs))
put_more number l xs at j x h e =
    let n : j < length (map number xs) = omega (arith, length-map xs number) in
    rw (ap number e ∙ sym (get_or-map number xs j x 0 h)) (sets_more l (map number xs) at j n)

-- from the first place on
pub sets-front : (xs l : List ℕ) → length xs ≤ length l → sets l 0 xs ≡ over xs l
sets-front xs l h = rw (sets-eq xs l 0 (omega arith), zero-add)

-- a call's answer and what it leaves are told apart from others by either
pub same_left : {A : Type 0} {x y : A} {k l : List ℕ} → left x k ≡ left y l → (x ≡ y) × (k ≡ l)
same_left {A} e = (ap (λ (o : Left A). o.answer) e, ap (λ (o : Left A). o.lent) e)
