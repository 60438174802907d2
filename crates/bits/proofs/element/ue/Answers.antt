-- the zeros, and what is left of the ue(v) after them
use Rattle.std.proofs.Common.{◌<◌, ◌∙◌, sym, ap, arith}
use Rattle.bits.specs.Bits.{from}
use Rattle.std.proofs.lemmas.Result.{err_from_is_err_and}
use Rattle.bits.proofs.BitLaws.{length_from}
use Rattle.bits.proofs.ElementLaws.{leading-most, leading-inside, less_one, ue-at, ue-at-zeros, ue-some}
use Rattle.bits.proofs.element.ue.Goals as goal

pub returns-then-z-eq32 : goal.returns-then-z-eq32
returns-then-z-eq32 c = sym (ue-at-zeros _ _ (omega arith))

pub overflow_add-one : goal.overflow_add-one
overflow_add-one c =
    let a = c.args in
    omega (arith, leading-inside 32 (from a.s.now a.c.at), length_from a.s.now a.c.at)

pub overflow_add-z : goal.overflow_add-z
overflow_add-z c = omega (arith, leading-most 32 (from c.args.s.now c.args.c.at))

pub u-requires : goal.u-requires
u-requires c = omega (arith, leading-most 32 (from c.args.s.now c.args.c.at))

pub returns-in_err-x : goal.returns-in_err-x
returns-in_err-x c =
    let few : c.zeros-z.result < 32 = omega (arith, leading-most 32 (from c.args.s.now c.args.c.at)) in
    let p = err_from_is_err_and c.from_residual.result c.from_residual.ensures.1 in
    rw (p.1, p.2) (sym (ue-at c.args.s.now c.args.c.at c.zeros-z.result c.zeros-z.ensures few ∙ ap less_one (sym c.in_err-x.ensures)))

pub overflow_sub-result : goal.overflow_sub-result
overflow_sub-result c =
    let few : c.zeros-z.result < 32 = omega (arith, leading-most 32 (from c.args.s.now c.args.c.at)) in
    omega (arith, ue-some c.args.s.now c.args.c.at c.zeros-z.result c.zeros-z.ensures few (sym c.in_ok-x.ensures))

pub returns : goal.returns
returns c =
    let few : c.zeros-z.result < 32 = omega (arith, leading-most 32 (from c.args.s.now c.args.c.at)) in
    sym (ue-at _ _ c.zeros-z.result c.zeros-z.ensures few ∙ ap less_one (sym c.in_ok-x.ensures))
