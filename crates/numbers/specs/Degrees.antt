-- A rotation in degrees, as kind 154 says it. Definitions only.
use Rattle.std.specs.Prelude.{ℕ, suc, ◌≤◌, ◌<◌, ◌^◌, ℤ, pos, negsuc, nat_abs}
use Rattle.std.specs.Float.{binary64}
use Rattle.std.specs.Float.Ieee.{of_bits}
use Rattle.numbers.specs.Floats.{scaled_bits}
use Rattle.numbers.specs.declared.degrees.Degrees.{Degrees}

-- i(32) is two's complement: from -2^31 to 2^31 - 1. `negsuc n` is -(n + 1)
abbrev pub In32 : ℤ → Type 0
In32 (pos n) = n < 2 ^ 31
In32 (negsuc n) = suc n ≤ 2 ^ 31

-- "the sign bit is 1 only where c is negative"
abbrev pub sign_bit : ℤ → ℕ
sign_bit (pos n) = 0
sign_bit (negsuc n) = 1

-- "for a coded number c with 2^k ≤ |c| < 2^(k+1) .. the exponent field is k + 1007 and the fraction field
-- (|c| - 2^k) × 2^(52-k); 0 gives positive zero"
unfoldable pub degree_bits : ℤ → ℕ
unfolding scaled_bits
degree_bits c = scaled_bits (sign_bit c) 1007 (nat_abs c)

-- "the rotation in degrees, as three 64-bit floats, each exactly the coded number over 65,536"
abbrev pub degrees_of : ℤ → ℤ → ℤ → Degrees
degrees_of yaw pitch roll =
    record {
      yaw = of_bits binary64 (degree_bits yaw);
      pitch = of_bits binary64 (degree_bits pitch);
      roll = of_bits binary64 (degree_bits roll);
    }

-- "Any field that a message does not carry .. is 0 in its record": all three positive zero, whose bits are 0
abbrev pub no_degrees : Degrees
no_degrees = record { yaw = of_bits binary64 0; pitch = of_bits binary64 0; roll = of_bits binary64 0 }
