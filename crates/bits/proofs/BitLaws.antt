-- The laws of a payload's bits and of the number that bits make.
-- Assumes nothing.
use Prim.Native.Nat.{ℕ, zero, suc, ◌+◌, ◌-◌, ◌*◌, ◌/◌, ◌%◌, ◌^◌, ◌≤◌, ◌<◌}
use mathlib.Core.Path.{◌≡◌, refl, sym, ap, ap₂, ◌∙◌}
use mathlib.Core.Logic.{◌⊎◌, inl, inr}
use mathlib.Core.Bool.{Bool, true, false}
use mathlib.Core.List.{List, [], ◌∷◌, ◌++◌}
use native.Mathlib.Nat.{lt_of_lt_of_le, add-zero, zero-add, add-suc, suc-add, sub-zero, zero-sub, suc-sub-suc, pow-suc, add-mul, mul_assoc, add_assoc}
use native.Mathlib.Omega.{arith}
use lib.ListN.{length, take, drop, length-append}
use lib.Seq.{get_or-take, length-take-le}
use lib.Pow.{pow-add, pow_mono}
use lib.Dec.{ltb, eqb}
use borrow.Author.Tests.{ltb-true, ltb-false}
use Rattle.bits.specs.Bits.{bits_in, bit_at, part, from, bits_of, digit, unsigned_of}

-- of two numbers the first is below the second, or not
pub below : (a b : ℕ) → (a < b) ⊎ (b ≤ a)
below a b = go (ltb a b) refl
  where
    go : (t : Bool) → ltb a b ≡ t → (a < b) ⊎ (b ≤ a)
    go true e = inl (ltb-true a b e)
    go false e = inr (ltb-false a b e)

-- ---- bits and numbers

-- a remainder by 2 is the digit of the bit that it is
pub digit-rest : (r : ℕ) → r < 2 → digit (eqb r 1) ≡ r
digit-rest zero h = refl
digit-rest (suc zero) h = refl
digit-rest (suc (suc r)) h = absurd (omega arith)

-- bits one after the other
number_append : (v w : List Bool) → unsigned_of (v ++ w) ≡ unsigned_of v * 2 ^ length w + unsigned_of w
unfolding unsigned_of
number_append [] w = omega arith
number_append (b ∷ v) w =
    rw (number_append v w, length-append v w, pow-add 2 (length v) (length w), ← (mul_assoc (digit b) (2 ^ length v) (2 ^ length w)), ← (add_assoc (digit b * 2 ^ length v * 2 ^ length w) (unsigned_of v * 2 ^ length w) (unsigned_of w)), ← (add-mul (digit b * 2 ^ length v) (unsigned_of v) (2 ^ length w)))

-- n bits make a number below 2 ^ n
pub number_lt : (w : List Bool) → unsigned_of w < 2 ^ length w
unfolding unsigned_of
number_lt [] = omega arith
number_lt (false ∷ w) = rw pow-suc (omega (arith, number_lt w))
number_lt (true ∷ w) = rw pow-suc (omega (arith, number_lt w))

-- ---- parts of a payload

pub length_part : (s : List ℕ) (p n : ℕ) → length (part s p n) ≡ n
unfolding part
length_part s p zero = refl
length_part s p (suc n) = ap suc (length_part s (suc p) n)

pub part-add : (s : List ℕ) (p n m : ℕ) → part s p (n + m) ≡ part s p n ++ part s (p + n) m
unfolding part
part-add s p zero m = rw (zero-add, add-zero)
part-add s p (suc n) m = rw (suc-add, add-suc, ← (suc-add p n)) (ap (bit_at s p ∷◌) (part-add s (suc p) n m))

take_part : (s : List ℕ) (p n m : ℕ) → n ≤ m → take n (part s p m) ≡ part s p n
unfolding part
take_part s p zero m h = refl
take_part s p (suc n) zero h = absurd (omega arith)
take_part s p (suc n) (suc m) h = ap (bit_at s p ∷◌) (take_part s (suc p) n m (omega arith))

drop-part : (s : List ℕ) (p n m : ℕ) → drop n (part s p m) ≡ part s (p + n) (m - n)
unfolding part
drop-part s p zero m = rw (add-zero, sub-zero)
drop-part s p (suc n) zero = rw zero-sub
drop-part s p (suc n) (suc m) = rw (suc-sub-suc, add-suc, ← (suc-add p n)) (drop-part s (suc p) n m)

-- n bits fit k where n is at most k
pub part-fits : (s : List ℕ) (p n k : ℕ) → n ≤ k → unsigned_of (part s p n) < 2 ^ k
part-fits s p n k h = lt_of_lt_of_le (rw (length_part s p n) at (number_lt (part s p n))) (pow_mono h)

-- n bits and then m
pub number-split : (s : List ℕ) (p n m : ℕ) → unsigned_of (part s p (n + m)) ≡ unsigned_of (part s p n) * 2 ^ m + unsigned_of (part s (p + n) m)
number-split s p n m =
    rw (part-add s p n m, number_append (part s p n) (part s (p + n) m), length_part s (p + n) m)

-- one bit more
pub number-next : (s : List ℕ) (p n : ℕ) → unsigned_of (part s p (n + 1)) ≡ unsigned_of (part s p n) * 2 + digit (bit_at s (p + n))
unfolding part unsigned_of
number-next s p n = number-split s p n 1 ∙ omega arith

-- ---- all bits from a position on

pub length_from : (s : List ℕ) (p : ℕ) → length (from s p) ≡ bits_in s - p
unfolding from
length_from s p = length_part s p (bits_in s - p)

pub from_end : (s : List ℕ) (p : ℕ) → bits_in s ≤ p → from s p ≡ []
unfolding from part
from_end s p h = let e : bits_in s - p ≡ 0 = omega arith in ap (part s p) e

pub drop-from : (s : List ℕ) (p n : ℕ) → drop n (from s p) ≡ from s (p + n)
unfolding from
drop-from s p n = drop-part s p n (bits_in s - p) ∙ ap (part s (p + n)) (omega arith)

pub take-from : (s : List ℕ) (p n : ℕ) → n ≤ bits_in s - p → take n (from s p) ≡ part s p n
unfolding from
take-from s p n h = take_part s p n (bits_in s - p) h

-- ---- a payload that is cut

bit-take : (n : ℕ) (s : List ℕ) (i : ℕ) → i < 8 * n → bit_at (take n s) i ≡ bit_at s i
unfolding bit_at
bit-take n s i h = ap (λ x. eqb (x / 2 ^ (7 - i % 8) % 2) 1) (get_or-take n s (i / 8) 0 (omega arith))

part-take : (n : ℕ) (s : List ℕ) (p m : ℕ) → p + m ≤ 8 * n → part (take n s) p m ≡ part s p m
unfolding part
part-take n s p zero h = refl
part-take n s p (suc m) h = ap₂ ◌∷◌ (bit-take n s p (omega arith)) (part-take n s (suc p) m (omega arith))

-- the bits of a payload's first n bytes are its first bits
pub bits-take : (n : ℕ) (s : List ℕ) → n ≤ length s → bits_of (take n s) ≡ take (8 * n) (bits_of s)
unfolding from
bits-take n s h =
    let l : length (take n s) ≡ n = length-take-le n s h in
    ap (λ k. part (take n s) 0 (8 * k - 0)) l
    ∙ part-take n s 0 (8 * n - 0) (omega arith)
    ∙ ap (part s 0) (omega arith)
    ∙ sym (take_part s 0 (8 * n) (bits_in s - 0) (omega arith))
