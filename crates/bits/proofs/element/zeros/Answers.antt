-- the zeros that the next 32 bits start with, or as many as are left
use lib.Count.{count_leading_zeros}
use Rattle.std.proofs.Common.{◌∙◌, sym, ap, arith}
use Rattle.bits.proofs.ElementLaws.{leading-left, leading-whole}
use Rattle.bits.proofs.element.zeros.Goals as goal

pub overflow_sub-result-then-rest-lt32 : goal.overflow_sub-result-then-rest-lt32
overflow_sub-result-then-rest-lt32 c =
    let left = leading-left 32 c.args.s.now c.args.at _ c.remaining-rest.ensures (omega arith) ∙ ap (count_leading_zeros 32) (sym c.unsigned.ensures) in
    omega (arith, left)

pub returns-then-rest-lt32 : goal.returns-then-rest-lt32
returns-then-rest-lt32 c =
    let left = leading-left 32 c.args.s.now c.args.at _ c.remaining-rest.ensures (omega arith) ∙ ap (count_leading_zeros 32) (sym c.unsigned.ensures) in
    omega (arith, left)

pub returns : goal.returns
returns c = ap (count_leading_zeros 32) c.unsigned-2.ensures ∙ sym (leading-whole 32 c.args.s.now c.args.at (omega arith))
