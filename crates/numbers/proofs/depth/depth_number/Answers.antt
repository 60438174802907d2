-- below exponent 127 the bits are no NaN's
use borrow.Author.Tests.{ne_eqb}
use Rattle.std.proofs.Common.{◌+◌, arith}
use Rattle.numbers.proofs.Patterns.{no_nan}
use Rattle.numbers.proofs.DepthLaws.{element-mantissa, depth-finite}
use Rattle.numbers.specs.Depth.{depth_bits}
use Rattle.numbers.proofs.depth.depth_number.Goals as goal

pub float_from_bits-result : goal.float_from_bits-result
float_from_bits-result c =
    let a = c.args in
    let v = a.length_minus1 + 1 in
    let m = element-mantissa a.sign a.exponent a.length_minus1 a.mantissa c.requires in
    rw (c.depth_bits-bits.ensures, ne_eqb a.exponent 127 (omega arith)) (no_nan (depth_bits a.sign a.exponent v a.mantissa) (depth-finite a.sign a.exponent v a.mantissa m (omega arith)))
