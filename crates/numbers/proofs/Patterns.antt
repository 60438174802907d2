-- A float's three fields and its 64 bits: which number a pattern is read as, and that its own bits are the pattern.
-- What degrees and both kinds of depth number need is shown here once, over the scale. Assumes nothing.
use mathlib.Core.Path.{◌≡◌, refl, sym, ap, ◌∙◌, subst}
use Prim.Native.Nat.{ℕ, zero, suc, ◌+◌, ◌-◌, ◌*◌, ◌%◌, ◌^◌, ◌≤◌, ◌<◌}
use native.Mathlib.Nat.{add-mod_left, mod-eq_of_lt, lt_of_lt_of_le, mul_assoc, pow-succ'}
use native.Mathlib.Omega.{arith}
use mathlib.Core.Bool.{Bool, not}
use lib.Dec.{T, ltb, eqb}
use borrow.Author.Tests.{le-ltb}
use lib.Pow.{pow-add, pow_pos, pow_mono, shl_lt, shl_exact}
use lib.Count.{count_leading_zeros, leading_top}
use lib.Ieee.{Float, binary64, size, round, of_bits, to_bits, is_nan, nan_bits}
use lib.Ieee.Bits.{nan_bits_above, nan_bits_is, to_bits-of_bits}
use lib.Ieee.Digits.{size-lt, size-le, size_reaches}
use lib.Ieee.Exact.{HasValue}
use Rattle.std.specs.Prelude.{if◌then◌else◌}
use Rattle.numbers.proofs.Exact.{size-at, exact}
use Rattle.numbers.specs.Floats.{pattern, lead, scaled_bits}

-- ---- `lead n` is the k with 2 ^ k ≤ n < 2 ^ (k + 1)

-- there is no other such k
lead_is : (k n : ℕ) → 2 ^ k ≤ n → n < 2 ^ suc k → lead n ≡ k
unfolding lead
lead_is k n lo hi = ap (λ (z : ℕ). z - 1) (size-at k n lo hi) ∙ omega arith

some_size : (n : ℕ) → size (suc n) ≡ suc (lead (suc n))
unfolding lead
some_size n = go (size (suc n)) (size-lt (suc n))
  where
    go : (z : ℕ) → suc n < 2 ^ z → z ≡ suc (z - 1)
    go zero h = absurd (omega arith)
    go (suc z) h = omega arith

-- n + 1 is at least 2 ^ k
lead-lo : (n : ℕ) → 2 ^ lead (suc n) ≤ suc n
lead-lo n = size_reaches (suc n) (lead (suc n)) (let e : size (suc n) ≡ suc (lead (suc n)) = some_size n in omega arith)

-- and below 2 ^ (k + 1)
lead-hi : (n : ℕ) → suc n < 2 ^ suc (lead (suc n))
lead-hi n = subst (λ (z : ℕ). suc n < 2 ^ z) (some_size n) (size-lt (suc n))

lead-le : (n j : ℕ) → suc n < 2 ^ suc j → lead (suc n) ≤ j
lead-le n j h =
    let e : size (suc n) ≡ suc (lead (suc n)) = some_size n in
    let l : size (suc n) ≤ suc j = size-le (suc n) (suc j) h in
    omega arith

-- the place of the highest one bit, as 64 bits are counted from the front
pub top_bit : (n : ℕ) → 0 < n → n < 2 ^ 64 → (count_leading_zeros 64 n ≤ 63) × (63 - count_leading_zeros 64 n ≡ lead n)
top_bit n p h =
    let r = leading_top 64 n p h in
    let l : lead n ≡ r.0 = lead_is r.0 n r.2 r.3 in
    let e : count_leading_zeros 64 n + suc r.0 ≡ 64 = r.1 in
    (omega arith, omega arith)

-- ---- the fields

-- a number of v bits, moved up by j places of the fraction field's 52, fits it
pub shifted : (n v j : ℕ) → n < 2 ^ v → v + j ≤ 52 → n * 2 ^ j < 2 ^ 52
shifted n v j h l = lt_of_lt_of_le (shl_lt v j h) (pow_mono {i = v + j} {j = 52} l)

-- and a shift of 64 bits loses none of it
pub shifted-whole : (n v j : ℕ) → n < 2 ^ v → v + j ≤ 52 → n * 2 ^ j % 2 ^ 64 ≡ n * 2 ^ j
shifted-whole n v j h l = shl_exact v j 64 h (omega arith)

-- so the code's shift fits the field
pub shifted_fits : (n v j : ℕ) → n < 2 ^ v → v + j ≤ 52 → n * 2 ^ j % 2 ^ 64 < 2 ^ 52
shifted_fits n v j h l = subst (λ (y : ℕ). y < 2 ^ 52) (sym (shifted-whole n v j h l)) (shifted n v j h l)

-- n without its highest one bit, which stands at k
pub record Cut (n k : ℕ) : Type 0 where
  pub low : k ≤ 52
  pub under : 2 ^ k ≤ n
  pub above : n < 2 ^ suc k
  pub rest : n - 2 ^ k < 2 ^ k
  pub part : (n - 2 ^ k) * 2 ^ (52 - k) < 2 ^ 52

-- every n above 0 that a float holds whole is cut so at `lead n`
pub cut : (n : ℕ) → 0 < n → n < 2 ^ 53 → Cut n (lead n)
cut zero p h = absurd (omega arith)
cut (suc n) p h =
    let k = lead (suc n) in
    let k-le : k ≤ 52 = lead-le n 52 h in
    let lo : 2 ^ k ≤ suc n = lead-lo n in
    let hi : suc n < 2 ^ suc k = lead-hi n in
    let double : 2 ^ suc k ≡ 2 * 2 ^ k = pow-succ' 2 k in
    let off : suc n - 2 ^ k < 2 ^ k = omega arith in
    record { low = k-le; under = lo; above = hi; rest = off; part = shifted (suc n - 2 ^ k) k (52 - k) off (omega arith) }

-- `scaled_bits` by the fields, for any k with 2 ^ k ≤ n < 2 ^ (k + 1)
pub scaled-by-k : (s x n k : ℕ) → 2 ^ k ≤ n → n < 2 ^ suc k → scaled_bits s x n ≡ pattern s (x + k) ((n - 2 ^ k) * 2 ^ (52 - k))
unfolding scaled_bits
scaled-by-k s x zero k lo hi = absurd (let p : 0 < 2 ^ k = pow_pos k in omega arith)
scaled-by-k s x (suc n) k lo hi = ap (λ (j : ℕ). pattern s (x + j) ((suc n - 2 ^ j) * 2 ^ (52 - j))) (lead_is k (suc n) lo hi)

-- ---- a finite number's bits are no NaN's, and are the float's own bits

-- bits with the three fields of a finite number: below 2047 the exponent field is neither an infinity's nor a NaN's
pub record Finite (bits : ℕ) : Type 0 where
  pub sign : ℕ
  pub exponent : ℕ
  pub fraction : ℕ
  pub sign_fits : sign < 2
  pub exponent_fits : exponent < 2047
  pub fraction_fits : fraction < 2 ^ 52
  pub is : bits ≡ pattern sign exponent fraction

below : (s m : ℕ) → s < 2 → m < 2 ^ 63 → (s * 2 ^ 63 + m) % 2 ^ 63 ≡ m
below zero m hs h = ap (λ (y : ℕ). y % 2 ^ 63) (omega arith) ∙ mod-eq_of_lt h
below (suc zero) m hs h = ap (λ (y : ℕ). y % 2 ^ 63) (omega arith) ∙ add-mod_left (2 ^ 63) m ∙ mod-eq_of_lt h
below (suc (suc s)) m hs h = absurd (omega arith)

-- a finite number's bits are no NaN's
pub no_nan : (bits : ℕ) → Finite bits → T (not (nan_bits binary64 bits))
no_nan bits f =
    let low = f.exponent * 2 ^ 52 + f.fraction in
    subst (λ (b : Bool). T (not b))
    (sym
    (nan_bits_above binary64 bits
    ∙ ap (λ (y : ℕ). ltb (2047 * 2 ^ 52) (y % 2 ^ 63)) f.is
    ∙ ap (λ (y : ℕ). ltb (2047 * 2 ^ 52) y) (below f.sign low f.sign_fits (omega arith))
    ∙ le-ltb (2047 * 2 ^ 52) low (omega arith)))
    tt

-- a float that is read off such bits is a number: it has bits of its own
pub a-number : (bits : ℕ) → Finite bits → T (not (is_nan (of_bits binary64 bits)))
a-number bits f = subst (λ (b : Bool). T (not b)) (nan_bits_is binary64 bits) (no_nan bits f)

-- and they are those that it was read off
pub back : (bits : ℕ) → Finite bits → to_bits binary64 (of_bits binary64 bits) ≡ bits
back bits f = to_bits-of_bits binary64 bits (omega arith) (a-number bits f)

zero-finite : Finite 0
zero-finite =
    record {
      sign = 0;
      exponent = 0;
      fraction = 0;
      sign_fits = omega arith;
      exponent_fits = omega arith;
      fraction_fits = omega arith;
      is = refl;
    }

-- a whole number at a scale is finite
pub scaled-finite : (s x n : ℕ) → s < 2 → x < 1024 → n < 2 ^ 53 → Finite (scaled_bits s x n)
unfolding scaled_bits
scaled-finite s x zero hs hx hn = zero-finite
scaled-finite s x (suc n) hs hx hn =
    let f = cut (suc n) (omega arith) hn in
    record {
      sign = s;
      exponent = x + lead (suc n);
      fraction = (suc n - 2 ^ lead (suc n)) * 2 ^ (52 - lead (suc n));
      sign_fits = hs;
      exponent_fits = omega (arith, f.low);
      fraction_fits = f.part;
      is = refl;
    }

-- ---- which number a pattern is read as

sign-place : (s : ℕ) → s < 2 → (if eqb s 1 then 2 ^ 63 else 0) ≡ s * 2 ^ 63
sign-place zero h = refl
sign-place (suc zero) h = refl
sign-place (suc (suc s)) h = absurd (omega arith)

-- the float nearest to num / den is exactly that, negative where the sign bit is 1, and the bits are read as it
abbrev pub Is : ℕ → ℕ → ℕ → ℕ → Type 0
Is s num den bits =
    HasValue (round binary64 (eqb s 1) num den) (eqb s 1) num den
    × (round binary64 (eqb s 1) num den ≡ of_bits binary64 bits)

-- q, of k + 1 binary digits, at the exponent field d + 1: it is q * 2 ^ (52 - k + d) of the smallest floats
pub pattern-is : (s q k d num den : ℕ) → s < 2 → k ≤ 52 → d < 2046 → 2 ^ k ≤ q → q < 2 ^ suc k → 0 < den
    → num * 2 ^ 1074 ≡ q * 2 ^ (52 - k + d) * den
    → Is s num den (pattern s (suc d) ((q - 2 ^ k) * 2 ^ (52 - k)))
pattern-is s q k d num den hs hk hd lo hi p e =
    let r = exact binary64 (eqb s 1) q k (52 - k) d (omega arith) lo hi num den p (omega arith) e in (
      r.0,
      r.1 ∙ ap (λ (y : ℕ). of_bits binary64 (y + (suc d * 2 ^ 52 + (q - 2 ^ k) * 2 ^ (52 - k)))) (sign-place s hs),
    )

-- n at the scale x is n / 2 ^ (1023 - x)
pub scaled-is : (s x n : ℕ) → s < 2 → 0 < x → x < 1024 → 0 < n → n < 2 ^ 53 → Is s n (2 ^ (1023 - x)) (scaled_bits s x n)
scaled-is s x n hs px hx pn hn =
    let k = lead n in
    let f = cut n pn hn in
    let l : k ≤ 52 = f.low in
    let d = x + k - 1 in
    let sum : 52 - k + d + (1023 - x) ≡ 1074 = omega arith in
    let r =
    pattern-is s n k d n (2 ^ (1023 - x)) hs l (omega arith) f.under f.above (pow_pos (1023 - x))
    (ap (λ (y : ℕ). n * y) (ap (λ (y : ℕ). 2 ^ y) (sym sum) ∙ pow-add 2 (52 - k + d) (1023 - x))
    ∙ sym (mul_assoc n (2 ^ (52 - k + d)) (2 ^ (1023 - x)))) in
    let field : suc d ≡ x + k = omega arith in (
      r.0,
      r.1
          ∙ ap (λ (y : ℕ). of_bits binary64 (pattern s y ((n - 2 ^ k) * 2 ^ (52 - k)))) field
          ∙ ap (of_bits binary64) (sym (scaled-by-k s x n k f.under f.above)),
    )

-- what an exact rounding says of the bits alone
pub value : (s num den bits : ℕ) → Is s num den bits → HasValue (of_bits binary64 bits) (eqb s 1) num den
value s num den bits r = subst (λ (x : Float). HasValue x (eqb s 1) num den) r.1 r.0
