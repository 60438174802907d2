-- a byte, and the byte after it
use Rattle.std.proofs.Common.{◌+◌, ◌*◌, arith}
use Rattle.bits.proofs.ByteLaws.{byte-number, joined}
use Rattle.bits.proofs.element.pair.Goals as goal

pub returns : goal.returns
returns c =
    let s = c.args.s.now in
    let k = c.args.k in
    joined s (8 * k) 8 (8 * (k + 1)) 8
    (byte-number s k (omega (arith, c.type_inv.s k)))
    (byte-number s (k + 1) (omega (arith, c.type_inv.s (k + 1))))
    (omega arith)
