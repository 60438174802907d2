-- Worked examples: the paper's 90 degrees and z near 1.5, and the ends of what can be coded. Assumes nothing.
use mathlib.Core.Path.{◌≡◌, refl}
use mathlib.Core.Bool.{false, true}
use native.Mathlib.Omega.{arith}
use lib.IntN.{pos, negsuc}
use lib.Ieee.{fin, binary64, of_bits}
use Rattle.numbers.specs.Degrees.{In32, degree_bits}
use Rattle.numbers.specs.Depth.{depth_bits, coded_bits, depth_number}
use Rattle.numbers.specs.declared.depth.DepthNumber.TheVariants.{Unspecified, Number}

-- coded 005A0000: 90 degrees, 45 × 2
ninety : degree_bits (pos 0x5A_0000) ≡ 0x4056_8000_0000_0000
unfolding degree_bits
ninety = refl

ninety-float : of_bits binary64 (degree_bits (pos 0x5A_0000)) ≡ fin false 45 (pos 1)
unfolding of_bits degree_bits
ninety-float = refl

-- coded -1: the least angle below zero, -1 / 65,536
minus_one : degree_bits (negsuc 0) ≡ 0xBEF0_0000_0000_0000
unfolding degree_bits
minus_one = refl

minus-one-float : of_bits binary64 (degree_bits (negsuc 0)) ≡ fin true 1 (negsuc 15)
unfolding of_bits degree_bits
minus-one-float = refl

-- coded -11,796,480: -180 degrees
minus-180 : degree_bits (negsuc 11796479) ≡ 0xC066_8000_0000_0000
unfolding degree_bits
minus-180 = refl

-- coded -2^31, the least i32: -32,768 degrees
least : degree_bits (negsuc 0x7FFF_FFFF) ≡ 0xC0E0_0000_0000_0000
unfolding degree_bits
least = refl

-- which the laws cover
least-covered : In32 (negsuc 0x7FFF_FFFF)
least-covered = omega arith

-- coded 2^31 - 1, the largest i32
largest : degree_bits (pos 0x7FFF_FFFF) ≡ 0x40DF_FFFF_FFC0_0000
unfolding degree_bits
largest = refl

-- sign 0, exponent 31, mantissa 1 of one bit: z near 1.5, 3 × 2^-1
near : depth_bits 0 31 1 1 ≡ 0x3FF8_0000_0000_0000
unfolding depth_bits
near = refl

near-number : depth_number 0 31 0 1 ≡ Number (fin false 3 (negsuc 0))
unfolding depth_bits of_bits
near-number = refl

-- sign 1, exponent 0, mantissa 1 of 32 bits: the number nearest to zero, -2^-62
nearest_zero : depth_bits 1 0 32 1 ≡ 0xBC10_0000_0000_0000
unfolding depth_bits
nearest_zero = refl

-- sign 0, exponent 126, mantissa of 32 ones: the largest number
farthest : depth_bits 0 126 32 0xFFFF_FFFF ≡ 0x45EF_FFFF_FFF0_0000
unfolding depth_bits
farthest = refl

-- exponent 127, whatever the rest: unspecified, and bits of 0
none : depth_number 1 127 31 0xFFFF_FFFF ≡ Unspecified
none = refl

none-bits : coded_bits 1 127 31 0xFFFF_FFFF ≡ 0
none-bits = refl
