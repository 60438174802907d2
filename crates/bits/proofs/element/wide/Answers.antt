-- bits of four bytes, and bits of five, by the law `shifted`
use Rattle.std.proofs.Common.{◌+◌, ◌*◌, ◌/◌, arith}
use Rattle.bits.proofs.BitLaws.{part-fits}
use Rattle.bits.proofs.ByteLaws.{byte-number, joined, shifted}
use Rattle.bits.proofs.element.wide.Goals as goal

pub returns-then-before-n-le32 : goal.returns-then-before-n-le32
returns-then-before-n-le32 c =
    let a = c.args in
    let first = a.at / 8 in
    let four = joined a.s.now (8 * first) 16 (8 * (first + 2)) 16 c.pair.ensures c.pair-2.ensures (omega arith) in
    shifted a.s.now a.at a.n 32 32 _ _ four (omega arith) (omega arith) (omega arith)

pub returns : goal.returns
returns c =
    let a = c.args in
    let first = a.at / 8 in
    let four = joined a.s.now (8 * first) 16 (8 * (first + 2)) 16 c.pair.ensures c.pair-2.ensures (omega arith) in
    let byte = byte-number a.s.now (first + 4) (omega (arith, c.type_inv.s (first + 4))) in
    let five = joined a.s.now (8 * first) 32 (8 * (first + 4)) 8 four byte (omega arith) in
    shifted a.s.now a.at a.n 40 64 _ _ five (omega arith) (omega arith) (omega arith)

pub overflow_cast-result-2 : goal.overflow_cast-result-2
overflow_cast-result-2 c =
    record { fits = rw (returns c) (part-fits c.args.s.now c.args.at c.args.n 32 (omega arith)) }
