-- A fraction that a format holds exactly, by the fields of its bit pattern. Once for both formats and every exponent.
-- Assumes nothing.
use mathlib.Core.Path.{◌≡◌, sym, ap, ◌∙◌, subst}
use Prim.Native.Nat.{ℕ, suc, ◌+◌, ◌-◌, ◌*◌, ◌/◌, ◌^◌, ◌≤◌, ◌<◌}
use native.Mathlib.Nat.{le_antisymm, lt_of_le_of_lt, lt_of_lt_of_le, lt_of_not-le, lt_irrefl, mul_assoc, mul_right_comm, mul-le-mul_right, mul-div_cancel, eq_of_mul-eq-mul_right, add_assoc, add-mul, suc-mul, suc-add, add-sub_of_le}
use native.Mathlib.Omega.{arith}
use mathlib.Core.Bool.{Bool}
use lib.Pow.{pow-add, pow_pos, pow_mono, shl_lt}
use lib.Ieee.{Float, nan, inf, fin, Format, prec, emax, low, up, down, size, round, hid, ones, top, of_bits, to_bits}
use lib.Ieee.Digits.{size-lt, size-le}
use lib.Ieee.Fits.{two, down_pos, round-fits}
use lib.Ieee.Bits.{of_bits-to_bits}
use lib.Ieee.Exact.{HasValue, round_exact}
use Rattle.std.specs.Prelude.{if◌then◌else◌}

-- 2 ^ a ≤ n < 2 ^ (a + 1) has a + 1 digits
pub size-at : (a n : ℕ) → 2 ^ a ≤ n → n < 2 ^ suc a → size n ≡ suc a
size-at a n lo hi =
    le_antisymm (size-le n (suc a) hi)
    (lt_of_not-le (λ (g : size n ≤ a). lt_irrefl (2 ^ a) (lt_of_le_of_lt lo (lt_of_lt_of_le (size-lt n) (pow_mono g)))))

-- from one fraction to another of the same size
rescale : (x : Float) (s : Bool) (a c num den : ℕ) → 0 < den → num * c ≡ a * den → HasValue x s num den → HasValue x s a c
rescale nan s a c num den p h v = v
rescale (inf t) s a c num den p h v = v
rescale (fin t m e) s a c num den p h v = (
  v.0,
  eq_of_mul-eq-mul_right den p (m * up e * c) (a * down e)
      (mul_right_comm (m * up e) c den
      ∙ ap (λ (x : ℕ). x * c) v.1
      ∙ mul_right_comm num (down e) c
      ∙ ap (λ (x : ℕ). x * down e) h
      ∙ mul_right_comm a den (down e)),
)

-- the bits of a finite value that is a of the format's smallest values
to_bits_is : (f : Format) (x : Float) (s : Bool) (a : ℕ) → HasValue x s a (2 ^ low f)
    → to_bits f x ≡ (if s then top f else 0) + (size a - prec f) * hid f + a / 2 ^ (size a - prec f)
unfolding to_bits
to_bits_is f nan s a v = absurd v
to_bits_is f (inf t) s a v = absurd v
to_bits_is f (fin t m e) s a v =
    ap (λ (n : ℕ). (if t then top f else 0) + (size n - prec f) * hid f + n / 2 ^ (size n - prec f)) (ap (λ (y : ℕ). y / down e) v.1 ∙ mul-div_cancel a (down_pos e))
    ∙ ap (λ (b : Bool). (if b then top f else 0) + (size a - prec f) * hid f + a / 2 ^ (size a - prec f)) v.0

-- the sum of the three fields, with the leading digit added to the exponent's
regroup : (c d h t q : ℕ) → q ≡ h + t → c + d * h + q ≡ c + (suc d * h + t)
regroup c d h t q e = ap (λ (y : ℕ). c + d * h + y) e ∙ add_assoc c (d * h) (h + t) ∙ ap (λ (y : ℕ). c + y) (sym (add_assoc (d * h) h t) ∙ ap (λ (y : ℕ). y + t) (sym (suc-mul d h)))

module _ (f : Format) (s : Bool) (q k i d : ℕ) (wide : prec f ≡ suc (k + i)) (lo : 2 ^ k ≤ q) (hi : q < 2 ^ suc k) where
  size_is : size (q * 2 ^ (i + d)) ≡ suc (k + (i + d))
  size_is = size-at (k + (i + d)) (q * 2 ^ (i + d))
      (subst (λ (y : ℕ). y ≤ q * 2 ^ (i + d)) (sym (pow-add 2 k (i + d))) (mul-le-mul_right (2 ^ (i + d)) lo))
      (subst (λ (y : ℕ). q * 2 ^ (i + d) < 2 ^ y) (suc-add k (i + d)) (shl_lt (suc k) (i + d) hi))

  dropped : size (q * 2 ^ (i + d)) - prec f ≡ d
  dropped = let z : size (q * 2 ^ (i + d)) ≡ suc (k + (i + d)) = size_is in omega arith

  kept : q * 2 ^ (i + d) / 2 ^ d ≡ q * 2 ^ i
  kept = ap (λ (y : ℕ). y / 2 ^ d) (ap (λ (y : ℕ). q * y) (pow-add 2 i d) ∙ sym (mul_assoc q (2 ^ i) (2 ^ d))) ∙ mul-div_cancel (q * 2 ^ i) (pow_pos d)

  lead-off : q * 2 ^ i ≡ hid f + (q - 2 ^ k) * 2 ^ i
  lead-off =
      ap (λ (y : ℕ). y * 2 ^ i) (sym (add-sub_of_le lo))
      ∙ add-mul (2 ^ k) (q - 2 ^ k) (2 ^ i)
      ∙ ap (λ (y : ℕ). y + (q - 2 ^ k) * 2 ^ i) (sym (pow-add 2 k i) ∙ ap (λ (y : ℕ). 2 ^ y) (omega arith))

  -- a finite value that is q * 2 ^ (i + d) of the smallest values, q having k + 1 digits: its field is d + 1
  bits_at : (x : Float) → HasValue x s (q * 2 ^ (i + d)) (2 ^ low f) → to_bits f x ≡ (if s then top f else 0) + (suc d * hid f + (q - 2 ^ k) * 2 ^ i)
  bits_at x v =
      to_bits_is f x s (q * 2 ^ (i + d)) v
      ∙ ap (λ (z : ℕ). (if s then top f else 0) + z * hid f + q * 2 ^ (i + d) / 2 ^ z) dropped
      ∙ regroup (if s then top f else 0) d (hid f) ((q - 2 ^ k) * 2 ^ i) (q * 2 ^ (i + d) / 2 ^ d) (kept ∙ lead-off)

  fine : suc d < ones f → q * 2 ^ (i + d) < 2 ^ (low f + suc (emax f))
  fine h = lt_of_lt_of_le (shl_lt (suc k) (i + d) hi) (pow_mono (omega (arith, two f)))

  narrow : q < 2 ^ prec f
  narrow = lt_of_lt_of_le hi (pow_mono (omega arith))

  -- a fraction that is such a value is rounded to it, so it is what the pattern of those fields is read as
  pub exact : (num den : ℕ) → 0 < den → suc d < ones f → num * 2 ^ low f ≡ q * 2 ^ (i + d) * den
      → HasValue (round f s num den) s num den × (round f s num den ≡ of_bits f ((if s then top f else 0) + (suc d * hid f + (q - 2 ^ k) * 2 ^ i)))
  exact num den p h e =
      let v = round_exact f s num den q (i + d) p narrow (fine h) e in (
        v,
        sym (of_bits-to_bits f (round f s num den) (round-fits f s num den))
            ∙ ap (of_bits f) (bits_at (round f s num den) (rescale (round f s num den) s (q * 2 ^ (i + d)) (2 ^ low f) num den p e v)),
      )
