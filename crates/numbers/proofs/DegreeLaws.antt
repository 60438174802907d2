-- The laws of a rotation's degrees: the paper's words for the bits, the exact number that they are read as, and the float's own bits.
-- Each holds of every number that 32 bits can code, -2^31 too. `HasValue x s a c` says that x is a finite float, negative where s is true,
-- whose size is a / c. Assumes nothing.
use mathlib.Core.Path.{◌≡◌, refl, ap, ◌∙◌}
use Prim.Native.Nat.{ℕ, zero, suc, ◌+◌, ◌-◌, ◌*◌, ◌^◌, ◌≤◌, ◌<◌}
use native.Mathlib.Nat.{add_comm, mul_assoc, mul-pos, mul_comm, zero-lt-suc}
use native.Mathlib.Omega.{arith}
use mathlib.Core.Bool.{Bool, true, false}
use lib.Dec.{eqb}
use lib.IntN.{ℤ, pos, negsuc, nat_abs}
use lib.Ieee.{Float, nan, inf, fin, binary64, up, down, unlike, round, of_int, of_bits, to_bits, div}
use lib.Ieee.Fits.{down_pos}
use lib.Ieee.Exact.{HasValue}
use lib.Ieee.Back.{round_whole}
use lib.Ieee.Scale.{round_same}
use mir.Val.{SFits}
use Rattle.std.proofs.Math.Facts.{to_z-of_z}
use mir.Syntax.{w32}
use Rattle.numbers.proofs.Patterns.{Finite, a-number, scaled-by-k, scaled-finite, scaled-is, value, back}
use Rattle.numbers.specs.Floats.{pattern, scaled_bits}
use Rattle.numbers.specs.Degrees.{In32, sign_bit, degree_bits}

-- ---- which numbers are meant

-- every value of the machine's i32 lies from -2^31 to 2^31 - 1
pub every-i32 : (c : ℤ) → SFits w32 c → In32 c
every-i32 (pos n) h = h.sfits
every-i32 (negsuc n) h = h.sfits

size_fits : (c : ℤ) → In32 c → nat_abs c < 2 ^ 53
size_fits (pos n) h = omega arith
size_fits (negsuc n) h = omega arith

sign_fits : (c : ℤ) → sign_bit c < 2
sign_fits (pos n) = omega arith
sign_fits (negsuc n) = omega arith

-- ---- the paper's words

-- for 2^k ≤ |c| < 2^(k+1) the exponent field is k + 1007 and the fraction field (|c| - 2^k) × 2^(52-k)
pub angle-by-k : (c : ℤ) (k : ℕ) → 2 ^ k ≤ nat_abs c → nat_abs c < 2 ^ suc k
    → degree_bits c ≡ pattern (sign_bit c) (k + 1007) ((nat_abs c - 2 ^ k) * 2 ^ (52 - k))
unfolding degree_bits
angle-by-k c k lo hi =
    scaled-by-k (sign_bit c) 1007 (nat_abs c) k lo hi
    ∙ ap (λ (x : ℕ). pattern (sign_bit c) x ((nat_abs c - 2 ^ k) * 2 ^ (52 - k))) (add_comm 1007 k)

-- 0 gives positive zero, whose bits are 0
pub zero_bits : degree_bits (pos 0) ≡ 0
unfolding degree_bits
zero_bits = refl

-- ---- the float's own bits

-- every coded number's bits are a finite float's
pub degree-finite : (c : ℤ) → In32 c → Finite (degree_bits c)
unfolding degree_bits
degree-finite c h = scaled-finite (sign_bit c) 1007 (nat_abs c) (sign_fits c) (omega arith) (size_fits c h)

-- the float that is read off them has those bits for its own
pub degree-back : (c : ℤ) → In32 c → to_bits binary64 (of_bits binary64 (degree_bits c)) ≡ degree_bits c
degree-back c h = back (degree_bits c) (degree-finite c h)

-- ---- the value

zero-value : HasValue (of_bits binary64 (degree_bits (pos 0))) false 0 65536
unfolding of_bits degree_bits
zero-value = (refl, refl)

-- the bits are read as exactly c / 65,536: a finite float, negative where c is, of the size |c| / 65,536
pub degree-value : (c : ℤ) → In32 c → HasValue (of_bits binary64 (degree_bits c)) (eqb (sign_bit c) 1) (nat_abs c) 65536
unfolding degree_bits
degree-value (pos zero) h = zero-value
degree-value (pos (suc n)) h =
    value 0 (suc n) 65536 (degree_bits (pos (suc n)))
    (scaled-is 0 1007 (suc n) (omega arith) (omega arith) (omega arith) (omega arith) (omega arith))
degree-value (negsuc n) h =
    value 1 (suc n) 65536 (degree_bits (negsuc n))
    (scaled-is 1 1007 (suc n) (omega arith) (omega arith) (omega arith) (omega arith) (omega arith))

-- ---- the quotient by 65,536 of a float that is the whole number n

like : (t s : Bool) → t ≡ s → unlike t false ≡ s
like true s e = e
like false s e = e

quotient : (x : Float) (s : Bool) (n : ℕ) → HasValue x s n 1 → div binary64 x (fin false 1 (pos 16)) ≡ round binary64 s n 65536
unfolding div
quotient nan s n v = absurd v
quotient (inf t) s n v = absurd v
quotient (fin t m e) s n v =
    ap (λ (b : Bool). round binary64 b (m * up e * 1) (65536 * down e)) (like t s v.0)
    ∙ round_same binary64 s (m * up e * 1) (65536 * down e) n 65536 (mul-pos (zero-lt-suc 65535) (down_pos e)) (zero-lt-suc 65535)
    (ap (λ (y : ℕ). y * 65536) v.1 ∙ mul_assoc n (down e) 65536 ∙ ap (λ (y : ℕ). n * y) (mul_comm (down e) 65536))

-- what the code's 65536.0 is
by-65536 : of_bits binary64 0x40F0_0000_0000_0000 ≡ fin false 1 (pos 16)
unfolding of_bits
by-65536 = refl

zero-over : div binary64 (round binary64 false 0 1) (of_bits binary64 0x40F0_0000_0000_0000) ≡ of_bits binary64 (degree_bits (pos 0))
unfolding div round of_bits degree_bits
zero-over = refl

some-over : (s n : ℕ) → s < 2 → suc n < 2 ^ 53
    → div binary64 (round binary64 (eqb s 1) (suc n) 1) (of_bits binary64 0x40F0_0000_0000_0000) ≡ of_bits binary64 (scaled_bits s 1007 (suc n))
some-over s n hs h =
    ap (div binary64 (round binary64 (eqb s 1) (suc n) 1)) by-65536
    ∙ quotient (round binary64 (eqb s 1) (suc n) 1) (eqb s 1) (suc n) (round_whole binary64 (eqb s 1) (suc n) (omega arith))
    ∙ (scaled-is s 1007 (suc n) hs (omega arith) (omega arith) (omega arith) h).1

-- the code's cast and quotient give the float of those bits, with no rounding on the way
pub over-65536 : (c : ℤ) → In32 c → div binary64 (of_int binary64 c) (of_bits binary64 0x40F0_0000_0000_0000) ≡ of_bits binary64 (degree_bits c)
unfolding of_int degree_bits
over-65536 (pos zero) h = zero-over
over-65536 (pos (suc n)) h = some-over 0 n (omega arith) (omega arith)
over-65536 (negsuc n) h = some-over 1 n (omega arith) (omega arith)

-- what the goals of a coded number's degrees want: its bits are read back as the number, the quotient is exact, and its float is no NaN
pub ruleset degrees = (to_z-of_z, every-i32, over-65536, a-number, degree-finite, degree-back)
