-- Depth numbers, as "Depth numbers" says them. Definitions only.
use Rattle.std.specs.Prelude.{ℕ, zero, suc, ◌+◌, ◌-◌, ◌*◌, ◌≤◌, ◌<◌, ◌^◌, eqb, if◌then◌else◌}
use Rattle.std.specs.Float.{binary64}
use Rattle.std.specs.Float.Ieee.{of_bits}
use Rattle.numbers.specs.Floats.{pattern, scaled_bits}
use Rattle.numbers.specs.declared.depth.DepthNumber.{DepthNumber}
use Rattle.numbers.specs.declared.depth.DepthNumber.TheVariants.{Unspecified, Number}

-- "An element is sign u(1), exponent u(7), mantissa length less one u(5), mantissa."
pub record DepthElement (sign exponent length_minus1 mantissa : ℕ) : Type 0 where
  pub sign_fits : sign < 2
  pub exponent_fits : exponent < 128
  pub length_fits : length_minus1 < 32
  pub mantissa_fits : mantissa < 2 ^ (length_minus1 + 1)

-- the same without the exponent, of a "mantissa n of v bits"
pub record Mantissa (s v n : ℕ) : Type 0 where
  pub sign_fits : s < 2
  pub length_fits : v ≤ 32
  pub mantissa_fits : n < 2 ^ v

-- "With sign s, exponent e, mantissa n of v bits": the 64 bits, for an e below 127.
-- "For e ≥ 1 its exponent field is e + 992 and its fraction field n × 2^(52-v). For e = 0 and n > 0, with
-- 2^k ≤ n < 2^(k+1), they are 993 - v + k and (n - 2^k) × 2^(52-k). Zero is always positive zero."
unfoldable pub depth_bits : ℕ → ℕ → ℕ → ℕ → ℕ
unfolding scaled_bits
depth_bits s zero v n = scaled_bits s (993 - v) n
depth_bits s (suc e) v n = pattern s (suc e + 992) (n * 2 ^ (52 - v))

-- the bits of a coded element, and 0 where its exponent is 127
abbrev pub coded_bits : ℕ → ℕ → ℕ → ℕ → ℕ
coded_bits s e length_minus1 n = if eqb e 127 then 0 else depth_bits s e (length_minus1 + 1) n

-- "Exponent 127 is unspecified." Every other element is a number. (That it is absent is said by its flag, not here.)
abbrev pub depth_number : ℕ → ℕ → ℕ → ℕ → DepthNumber
depth_number s e length_minus1 n =
    if eqb e 127 then Unspecified else Number (of_bits binary64 (depth_bits s e (length_minus1 + 1) n))
