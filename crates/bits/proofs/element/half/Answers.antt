-- bits of two bytes, and bits of three, by the law `shifted`
use Rattle.std.proofs.Common.{◌+◌, ◌*◌, ◌/◌, arith}
use Rattle.bits.proofs.BitLaws.{part-fits}
use Rattle.bits.proofs.ByteLaws.{byte-number, joined, shifted}
use Rattle.bits.proofs.element.half.Goals as goal

pub returns-then-before-n-le16 : goal.returns-then-before-n-le16
returns-then-before-n-le16 c =
    let a = c.args in
    shifted a.s.now a.at a.n 16 16 _ _ c.pair-two.ensures (omega arith) (omega arith) (omega arith)

pub returns : goal.returns
returns c =
    let a = c.args in
    let first = a.at / 8 in
    let byte = byte-number a.s.now (first + 2) (omega (arith, c.type_inv.s (first + 2))) in
    let all = joined a.s.now (8 * first) 16 (8 * (first + 2)) 8 c.pair-two.ensures byte (omega arith) in
    shifted a.s.now a.at a.n 24 32 _ _ all (omega arith) (omega arith) (omega arith)

pub overflow_cast-result-4 : goal.overflow_cast-result-4
overflow_cast-result-4 c =
    record { fits = rw (returns c) (part-fits c.args.s.now c.args.at c.args.n 16 (omega arith)) }
