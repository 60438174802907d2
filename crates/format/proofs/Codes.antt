-- The code of a number is its only one.
-- Assumes nothing.
use Prim.Native.Nat.{ℕ, zero, suc, ◌+◌, ◌-◌, ◌*◌, ◌/◌, ◌%◌, ◌^◌, ◌≤◌, ◌<◌}
use mathlib.Core.Path.{◌≡◌, refl, sym, ap, ap₂, ◌∙◌, subst}
use mathlib.Core.Bool.{Bool, true, false}
use mathlib.Core.Logic.{◌⊎◌, inl, inr}
use mathlib.Core.List.{List, [], ◌∷◌, ◌++◌}
use native.Mathlib.Nat.{mod-lt, div-add-mod', pow-suc}
use native.Mathlib.Omega.{arith}
use lib.ListN.{length, replicate}
use lib.Pow.{pow_pos, pow_mono, high, low, shr_lt}
use lib.Dec.{leb, eqb}
use borrow.Author.Tests.{leb-true, leb-false, ltb-true, lt-ltb}
use Rattle.bits.specs.Bits.{unsigned_of, digit}
use Rattle.bits.specs.Coding.{Shape, unsigned, exp_golomb, CodedShape}
use Rattle.bits.proofs.BitLaws.{below, digit-rest, number_lt}
use Rattle.format.specs.Writing.{digits, log, code, fits}
use Rattle.format.proofs.Alike.{bounds}
use Rattle.format.proofs.Always.{code_below}

length_digits : (n c : ℕ) → length (digits n c) ≡ n
unfolding digits
length_digits zero c = refl
length_digits (suc n) c = ap suc (length_digits n (c % 2 ^ n))

number_digits : (n c : ℕ) → c < 2 ^ n → unsigned_of (digits n c) ≡ c
unfolding digits unsigned_of
number_digits zero c h = omega arith
number_digits (suc n) c h =
    let top : c / 2 ^ n < 2 = shr_lt {n = c} 1 n (subst (λ k. c < 2 ^ k) (omega arith) h) in
    ap₂ (λ a b. a * 2 ^ length (digits n (c % 2 ^ n)) + b) (digit-rest (c / 2 ^ n) top) (number_digits n (c % 2 ^ n) (mod-lt c (pow_pos n)))
    ∙ ap (λ l. c / 2 ^ n * 2 ^ l + c % 2 ^ n) (length_digits n (c % 2 ^ n))
    ∙ div-add-mod' c (2 ^ n)

eqb-digit : (b : Bool) → eqb (digit b) 1 ≡ b
eqb-digit true = refl
eqb-digit false = refl

-- the bits of their own number
digits_number : (w : List Bool) → digits (length w) (unsigned_of w) ≡ w
unfolding digits unsigned_of
digits_number [] = refl
digits_number (b ∷ w) =
    ap₂ (λ x y. eqb x 1 ∷ digits (length w) y) (high (digit b) (length w) (number_lt w)) (low (digit b) (length w) (number_lt w))
    ∙ ap₂ ◌∷◌ (eqb-digit b) (digits_number w)

-- the largest power that is at most c
record Log (k c z : ℕ) : Type 0 where
  most : z ≤ k
  least : 2 ^ z ≤ c
  above : c < 2 ^ suc z

log_is : (k c : ℕ) → 0 < c → c < 2 ^ suc k → Log k c (log k c)
unfolding log
log_is zero c pos h = record { most = omega arith; least = omega arith; above = h }
log_is (suc k) c pos h = go (leb (2 ^ suc k) c) refl (λ l. log_is k c pos l)
  where
    go : (t : Bool) → leb (2 ^ suc k) c ≡ t → (c < 2 ^ suc k → Log k c (log k c)) → Log (suc k) c (log (suc k) c)
    go true e ih = rw (e, log) (record { most = omega arith; least = leb-true _ _ e; above = h })
    go false e ih = let r = ih (leb-false _ _ e) in rw (e, log) (record { most = omega (arith, r.most); least = r.least; above = r.above })

-- there is one only
not-above : (c y z : ℕ) → c < 2 ^ suc y → 2 ^ z ≤ c → y < z → ⊥
not-above c y z h l m =
    let n : 2 ^ suc y ≤ 2 ^ z = pow_mono m in
    omega arith

one-log : (k c y z : ℕ) → Log k c y → 2 ^ z ≤ c → c < 2 ^ suc z → y ≡ z
one-log k c y z a l h = go (below y z) (below z y)
  where
    go : (y < z) ⊎ (z ≤ y) → (z < y) ⊎ (y ≤ z) → y ≡ z
    go (inl m) n = absurd (not-above c y z a.above l m)
    go (inr m) (inl n) = absurd (not-above c z y h a.least n)
    go (inr m) (inr n) = omega arith

-- a number that fits has a code ..
pub code-coded : (h : Shape) (c : ℕ) → fits h c ≡ true → CodedShape h (code h c) c
unfolding code
code-coded (unsigned n) c f = record { long = length_digits n c; says = number_digits n c (ltb-true _ _ f) }
code-coded exp_golomb c f =
    let l = log_is 31 (suc c) (omega arith) (ltb-true _ _ f) in
    let z = log 31 (suc c) in
    let least : 2 ^ z ≤ suc c = l.least in
    let above : suc c < 2 ^ suc z = l.above in
    let x : unsigned_of (digits z (suc c - 2 ^ z)) ≡ suc c - 2 ^ z = number_digits z (suc c - 2 ^ z) (omega (arith, pow-suc 2 z)) in
    record { zeros = z; last = digits z (suc c - 2 ^ z); few = omega (arith, l.most); long = length_digits z _; split = refl; says = omega (arith, pow_pos z) }

-- .. and only a number that fits has one, which is the only one
pub record Only (h : Shape) (w : List Bool) (c : ℕ) : Type 0 where
  pub is : w ≡ code h c
  pub fit : fits h c ≡ true

pub code-only : (h : Shape) (w : List Bool) (c : ℕ) → CodedShape h w c → Only h w c
unfolding code
code-only (unsigned n) w c d = record { is = sym (digits_number w) ∙ ap₂ digits d.long d.says; fit = lt-ltb _ _ (code_below d) }
code-only exp_golomb w c d =
    let z = d.zeros in
    let b = bounds w c d in
    let whole : suc c < 2 ^ 32 = omega (arith, b.high, pow_mono {i = suc z} {j = 32} (omega (arith, d.few))) in
    let y : log 31 (suc c) ≡ z = one-log 31 (suc c) (log 31 (suc c)) z (log_is 31 (suc c) (omega arith) whole) b.low b.high in
    let x : suc c - 2 ^ z ≡ unsigned_of d.last = omega (arith, d.says, pow_pos z) in
    record {
      is =
          d.split
          ∙ ap (λ l. replicate z false ++ true ∷ l) (sym (digits_number d.last) ∙ ap₂ digits d.long (sym x))
          ∙ ap (λ k. replicate k false ++ true ∷ digits k (suc c - 2 ^ k)) (sym y);
      fit = lt-ltb _ _ whole;
    }
