-- no bits, bits of one byte, and bits of two, by the law `shifted`
use Rattle.std.proofs.Common.{rules, ◌/◌, arith}
use Rattle.bits.specs.Bits.{part, unsigned_of}
use Rattle.bits.proofs.BitLaws.{part-fits}
use Rattle.bits.proofs.ByteLaws.{byte-number, shifted}
use Rattle.bits.proofs.element.narrow.Goals as goal

pub returns-then-n-eq0 : goal.returns-then-n-eq0
unfolding part unsigned_of
returns-then-n-eq0 c = search rules

pub returns-then-before-n-le8 : goal.returns-then-before-n-le8
returns-then-before-n-le8 c =
    let a = c.args in
    let byte = byte-number a.s.now (a.at / 8) (omega (arith, c.type_inv.s (a.at / 8))) in
    shifted a.s.now a.at a.n 8 8 _ _ byte (omega arith) (omega arith) (omega arith)

pub returns : goal.returns
returns c =
    let a = c.args in
    shifted a.s.now a.at a.n 16 16 _ _ c.pair.ensures (omega arith) (omega arith) (omega arith)

pub overflow_cast-result-4 : goal.overflow_cast-result-4
overflow_cast-result-4 c =
    record { fits = rw (returns c) (part-fits c.args.s.now c.args.at c.args.n 8 (omega arith)) }
