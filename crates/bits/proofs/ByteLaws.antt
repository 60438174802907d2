-- Whole bytes: what number they make, and how two shifts take bits out of their middle.
-- Assumes nothing.
use Prim.Native.Nat.{ℕ, zero, suc, ◌+◌, ◌-◌, ◌*◌, ◌/◌, ◌%◌, ◌^◌, ◌≤◌, ◌<◌}
use mathlib.Core.Path.{◌≡◌, sym, ap, ◌∙◌}
use mathlib.Core.List.{List}
use native.Mathlib.Nat.{le_refl}
use native.Mathlib.Numerals.{add-one}
use native.Mathlib.Omega.{arith}
use lib.ListN.{get_or}
use lib.Pow.{high, low, field, shl-shr, shr-shr}
use Rattle.bits.specs.Bits.{bit_at, part, digit, unsigned_of}
use Rattle.bits.proofs.BitLaws.{digit-rest, number-next, number-split, part-fits}

-- ---- bytes

-- the first m bits of byte k
top-bits : (s : List ℕ) (k m : ℕ) → get_or s k 0 < 256 → m ≤ 8 → unsigned_of (part s (8 * k) m) ≡ get_or s k 0 / 2 ^ (8 - m)
unfolding part unsigned_of bit_at
top-bits s k zero h l = omega arith
top-bits s k (suc m) h l =
    let x = get_or s k 0 in
    let byte : (8 * k + m) / 8 ≡ k = omega arith in
    let place : (8 * k + m) % 8 ≡ m = omega arith in
    let bit : digit (bit_at s (8 * k + m)) ≡ x / 2 ^ (7 - m) % 2 = rw (byte, place) (digit-rest (x / 2 ^ (7 - m) % 2) (omega arith)) in
    let more : 8 - m ≡ 7 - m + 1 = omega arith in
    let less : 8 - suc m ≡ 7 - m = omega arith in
    let before : unsigned_of (part s (8 * k) m) ≡ x / 2 ^ (7 - m) / 2 = top-bits s k m h (omega arith) ∙ ap (λ i. x / 2 ^ i) more ∙ sym (shr-shr x (7 - m) 1) in
    ap (λ i. unsigned_of (part s (8 * k) i)) (sym (add-one m)) ∙ number-next s (8 * k) m ∙ rw (before, bit, less) (omega arith)

-- byte k is the number that its eight bits make
pub byte-number : (s : List ℕ) (k : ℕ) → get_or s k 0 < 256 → get_or s k 0 ≡ unsigned_of (part s (8 * k) 8)
byte-number s k h = omega (arith, top-bits s k 8 h (le_refl 8))

-- the number of n bits, and of the m bits from q on, where the n end
pub joined : (s : List ℕ) (p n q m : ℕ) {a b : ℕ} → a ≡ unsigned_of (part s p n) → b ≡ unsigned_of (part s q m) → p + n ≡ q → a * 2 ^ m + b ≡ unsigned_of (part s p (n + m))
joined s p n q m e f g = rw (e, f, ← g) (sym (number-split s p n m))

-- ---- out of the middle

-- a shift up and one down leave n digits, which were the n from d on
two-shifts : (x up n d : ℕ) → x * 2 ^ up % 2 ^ (n + (up + d)) / 2 ^ (up + d) ≡ x / 2 ^ d % 2 ^ n
two-shifts x up n d = field (x * 2 ^ up) n (up + d) ∙ rw (← (shr-shr (x * 2 ^ up) up d), shl-shr x up)

-- n bits that have some before them, and d after them
within : (s : List ℕ) (p before n d : ℕ) → unsigned_of (part s p (before + n + d)) / 2 ^ d % 2 ^ n ≡ unsigned_of (part s (p + before) n)
within s p before n d =
    rw (number-split s p (before + n) d, high (unsigned_of (part s p (before + n))) d (part-fits s (p + (before + n)) d d (le_refl d)), number-split s p before n)
    (low (unsigned_of (part s p before)) n (part-fits s (p + before) n n (le_refl n)))

-- n bits out of the size bits from the start of their first byte: the number of these is shifted up in a word of w bits until the n bits are its first,
-- and then down until they are its last
pub shifted : (s : List ℕ) (at n size w up down : ℕ) {all : ℕ}
    → all ≡ unsigned_of (part s (8 * (at / 8)) size)
    → at % 8 + n ≤ size
    → up + size ≡ w + at % 8
    → down + n ≡ w
    → all * 2 ^ up % 2 ^ w / 2 ^ down ≡ unsigned_of (part s at n)
shifted s at n size w up down {all} e h u v =
    let d = size - (at % 8 + n) in
    let sum : size ≡ at % 8 + n + d = omega arith in
    let down_by : down ≡ up + d = omega arith in
    let word : w ≡ n + (up + d) = omega arith in
    let place : 8 * (at / 8) + at % 8 ≡ at = omega arith in
    rw (word, down_by) (two-shifts all up n d)
    ∙ ap (λ x. x / 2 ^ d % 2 ^ n) (e ∙ ap (λ k. unsigned_of (part s (8 * (at / 8)) k)) sum)
    ∙ within s (8 * (at / 8)) (at % 8) n d
    ∙ ap (λ p. unsigned_of (part s p n)) place
