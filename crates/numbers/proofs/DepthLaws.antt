-- The laws of a depth number: the paper's words for the bits, the exact number that they are read as, and the float's own bits.
-- Each holds of every sign, length and mantissa, and every exponent below 127. `HasValue x s a c` says that x is a finite float, negative where
-- s is true, whose size is a / c. Assumes nothing.
use mathlib.Core.Path.{◌≡◌, refl, sym, ap, ◌∙◌, subst}
use Prim.Native.Nat.{ℕ, zero, suc, ◌+◌, ◌-◌, ◌*◌, ◌^◌, ◌≤◌, ◌<◌}
use native.Mathlib.Nat.{add-sub_cancel_left, lt_of_lt_of_le, mul_assoc, mul_comm, pow-succ'}
use native.Mathlib.Omega.{arith}
use mathlib.Core.Bool.{Bool, true, false}
use borrow.Author.Tests.{eqb-true}
use lib.Dec.{eqb}
use lib.IntN.{pos}
use lib.Pow.{pow-add, pow_pos, pow_mono}
use lib.Ieee.{fin, binary64, of_bits, to_bits}
use lib.Ieee.Exact.{HasValue}
use Rattle.std.specs.Prelude.{if◌then◌else◌}
use Rattle.numbers.proofs.Patterns.{Finite, shifted, scaled-by-k, scaled-finite, Is, pattern-is, scaled-is, value, back}
use Rattle.numbers.specs.Floats.{pattern}
use Rattle.numbers.specs.Depth.{DepthElement, Mantissa, depth_bits, depth_number}
use Rattle.numbers.specs.declared.depth.DepthNumber.TheVariants.{Absent, Unspecified, Number}

-- ---- the paper's words

-- for e ≥ 1 the exponent field is e + 992 and the fraction field n × 2^(52-v)
pub normal-bits : (s e v n : ℕ) → 0 < e → depth_bits s e v n ≡ pattern s (e + 992) (n * 2 ^ (52 - v))
unfolding depth_bits
normal-bits s zero v n h = absurd (omega arith)
normal-bits s (suc e) v n h = refl

-- for e = 0 and 2^k ≤ n < 2^(k+1) they are 993 - v + k and (n - 2^k) × 2^(52-k)
pub small-by-k : (s v n k : ℕ) → 2 ^ k ≤ n → n < 2 ^ suc k → depth_bits s 0 v n ≡ pattern s (993 - v + k) ((n - 2 ^ k) * 2 ^ (52 - k))
unfolding depth_bits
small-by-k s v n k lo hi = scaled-by-k s (993 - v) n k lo hi

-- zero is positive zero, whatever its sign: its bits are 0
pub zero_bits : (s v : ℕ) → depth_bits s 0 v 0 ≡ 0
unfolding depth_bits
zero_bits s v = refl

-- and it is read as positive zero
pub zero-value : (s v : ℕ) → of_bits binary64 (depth_bits s 0 v 0) ≡ fin false 0 (pos 0)
unfolding depth_bits of_bits
zero-value s v = refl

-- ---- the value

-- a mantissa has fewer binary digits than a float holds
pub narrow : (v n : ℕ) → v ≤ 32 → n < 2 ^ v → n < 2 ^ 53
narrow v n hv hn = lt_of_lt_of_le hn (pow_mono {i = v} {j = 53} (omega arith))

-- for e from 1 to 126 the number is (-1)^s × 2^(e-31) × (1 + n/2^v), that is 2^e × (2^v + n) over 2^(31+v)
pub normal-value : (s e v n : ℕ) → Mantissa s v n → 0 < e → e < 127
    → HasValue (of_bits binary64 (depth_bits s e v n)) (eqb s 1) (2 ^ e * (2 ^ v + n)) (2 ^ (31 + v))
normal-value s e v n m pe he =
    let hv : v ≤ 32 = m.length_fits in
    let hn : n < 2 ^ v = m.mantissa_fits in
    let q = 2 ^ v + n in
    let d = e + 991 in
    let i = 52 - v in
    let double : 2 ^ suc v ≡ 2 * 2 ^ v = pow-succ' 2 v in
    let sum : i + d + (31 + v) ≡ e + 1074 = omega arith in
    let scale : 2 ^ e * q * 2 ^ 1074 ≡ q * 2 ^ (i + d) * 2 ^ (31 + v) =
    ap (λ (y : ℕ). y * 2 ^ 1074) (mul_comm (2 ^ e) q)
    ∙ mul_assoc q (2 ^ e) (2 ^ 1074)
    ∙ ap (λ (y : ℕ). q * y) (sym (pow-add 2 e 1074) ∙ ap (λ (y : ℕ). 2 ^ y) (sym sum) ∙ pow-add 2 (i + d) (31 + v))
    ∙ sym (mul_assoc q (2 ^ (i + d)) (2 ^ (31 + v))) in
    let r : Is s (2 ^ e * q) (2 ^ (31 + v)) (pattern s (suc d) ((q - 2 ^ v) * 2 ^ i)) =
    pattern-is s q v d (2 ^ e * q) (2 ^ (31 + v)) m.sign_fits (omega arith) (omega arith) (omega arith) (omega arith) (pow_pos (31 + v)) scale in
    let field : suc d ≡ e + 992 = omega arith in
    let same : pattern s (suc d) ((q - 2 ^ v) * 2 ^ i) ≡ depth_bits s e v n =
    ap (λ (y : ℕ). pattern s (suc d) (y * 2 ^ i)) (add-sub_cancel_left (2 ^ v) n)
    ∙ ap (λ (y : ℕ). pattern s y (n * 2 ^ i)) field
    ∙ sym (normal-bits s e v n pe) in
    value s (2 ^ e * q) (2 ^ (31 + v)) (depth_bits s e v n) (r.0, r.1 ∙ ap (of_bits binary64) same)

-- for e = 0 and n > 0 it is (-1)^s × n / 2^(30+v)
pub small-value : (s v n : ℕ) → Mantissa s v n → 0 < n → HasValue (of_bits binary64 (depth_bits s 0 v n)) (eqb s 1) n (2 ^ (30 + v))
unfolding depth_bits
small-value s v n m pn =
    let hv : v ≤ 32 = m.length_fits in
    let r : Is s n (2 ^ (1023 - (993 - v))) (depth_bits s 0 v n) =
    scaled-is s (993 - v) n m.sign_fits (omega arith) (omega arith) pn (narrow v n hv m.mantissa_fits) in
    let scale : 1023 - (993 - v) ≡ 30 + v = omega arith in
    subst (λ (y : ℕ). HasValue (of_bits binary64 (depth_bits s 0 v n)) (eqb s 1) n (2 ^ y)) scale
    (value s n (2 ^ (1023 - (993 - v))) (depth_bits s 0 v n) r)

-- ---- the float's own bits

-- the parts of a coded element are those of a sign and a mantissa
pub element-mantissa : (s e l n : ℕ) → DepthElement s e l n → Mantissa s (l + 1) n
element-mantissa s e l n h =
    record { sign_fits = h.sign_fits; length_fits = omega (arith, h.length_fits); mantissa_fits = h.mantissa_fits }

-- the bits of every number are a finite float's
pub depth-finite : (s e v n : ℕ) → Mantissa s v n → e < 127 → Finite (depth_bits s e v n)
unfolding depth_bits
depth-finite s zero v n m he = scaled-finite s (993 - v) n m.sign_fits (omega arith) (narrow v n m.length_fits m.mantissa_fits)
depth-finite s (suc e) v n m he =
    record {
      sign = s;
      exponent = suc e + 992;
      fraction = n * 2 ^ (52 - v);
      sign_fits = m.sign_fits;
      exponent_fits = omega arith;
      fraction_fits = shifted n v (52 - v) m.mantissa_fits (omega (arith, m.length_fits));
      is = refl;
    }

-- the float that is read off them has those bits for its own
pub depth-back : (s e v n : ℕ) → Mantissa s v n → e < 127 → to_bits binary64 (of_bits binary64 (depth_bits s e v n)) ≡ depth_bits s e v n
depth-back s e v n m he = back (depth_bits s e v n) (depth-finite s e v n m he)

-- ---- which elements are numbers

-- exponent 127 is unspecified
pub unspecified-at-127 : (s l n : ℕ) → depth_number s 127 l n ≡ Unspecified
unspecified-at-127 s l n = refl

-- and no other exponent is
pub unspecified-only-at-127 : (s e l n : ℕ) → depth_number s e l n ≡ Unspecified → e ≡ 127
unspecified-only-at-127 s e l n = go (eqb e 127) refl
  where
    go : (b : Bool) → eqb e 127 ≡ b → (if b then Unspecified else Number (of_bits binary64 (depth_bits s e (l + 1) n))) ≡ Unspecified → e ≡ 127
    go true t h = eqb-true e 127 t
    go false t h = absurd (let z : ◌≡◌ {A = ℕ} 0 1 = cc in omega arith)

-- no element's parts are absent: that is its flag's to say
pub never-absent : (s e l n : ℕ) → depth_number s e l n ≡ Absent → ⊥
never-absent s e l n = go (eqb e 127)
  where
    go : (b : Bool) → (if b then Unspecified else Number (of_bits binary64 (depth_bits s e (l + 1) n))) ≡ Absent → ⊥
    go true h = let z : ◌≡◌ {A = ℕ} 0 1 = cc in omega arith
    go false h = let z : ◌≡◌ {A = ℕ} 0 1 = cc in omega arith
