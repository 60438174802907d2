-- The 64 bits of a float, by its three fields. Definitions only.
use Rattle.std.specs.Prelude.{ℕ, zero, suc, ◌+◌, ◌-◌, ◌*◌, ◌^◌}
use Rattle.std.specs.Float.Ieee.{size}

-- a sign bit, an exponent field and a fraction field, as one number of 64 bits
abbrev pub pattern : ℕ → ℕ → ℕ → ℕ
pattern sign exponent fraction = sign * 2 ^ 63 + (exponent * 2 ^ 52 + fraction)

-- the k with 2^k ≤ n < 2^(k+1), for an n above 0: one less than n has binary digits
unfoldable pub lead : ℕ → ℕ
unfolding size
lead n = size n - 1

-- The form that degrees and the depth numbers of exponent 0 share: a whole number n at a scale. x is the exponent field of 1.
-- For 2^k ≤ n < 2^(k+1) the exponent field is x + k and the fraction field (n - 2^k) × 2^(52-k); 0 gives positive zero.
unfoldable pub scaled_bits : ℕ → ℕ → ℕ → ℕ
unfolding lead
scaled_bits sign x zero = 0
scaled_bits sign x (suc m) =
    let n = suc m in
    let k = lead n in
    pattern sign (x + k) ((n - 2 ^ k) * 2 ^ (52 - k))
