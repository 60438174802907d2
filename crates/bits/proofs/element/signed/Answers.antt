-- the machine reads a number off its bits as `signed_of` does, and twice the complement is the number
use borrow.Author.Tests.{lt-ltb, le-ltb}
use lib.IntN.{negsuc}
use Rattle.std.proofs.Common.{◌≡◌, ◌-◌, ap, arith}
use Rattle.bits.specs.Signed.{signed_of}
use Rattle.bits.proofs.element.signed.Goals as goal

pub returns-then-coded-lt2147483648 : goal.returns-then-coded-lt2147483648
unfolding signed_of
returns-then-coded-lt2147483648 c = simp (lt-ltb c.args.coded 2147483648 (omega arith))

pub returns-else-coded-lt2147483648 : goal.returns-else-coded-lt2147483648
unfolding signed_of
returns-else-coded-lt2147483648 c =
    let x = c.args.coded in
    let e : 4294967295 - (4294967295 - x) ≡ x = omega arith in
    simp (e, le-ltb x 2147483648 (omega arith)) (ap negsuc (omega arith))
