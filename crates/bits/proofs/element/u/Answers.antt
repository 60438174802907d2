-- all n bits are there, or some lack
use Rattle.std.proofs.Common.{◌+◌, sym, ap, ◌∙◌, arith}
use Rattle.bits.specs.Out.{taken}
use Rattle.bits.proofs.BitLaws.{part-fits}
use Rattle.bits.proofs.ElementLaws.{u-value, u-short}
use Rattle.bits.proofs.element.u.Goals as goal

pub returns-then-remaining-width : goal.returns-then-remaining-width
returns-then-remaining-width g c = sym (u-short _ _ _ (omega arith))

pub unsigned-requires : goal.unsigned-requires
unsigned-requires g c = omega (arith, g.met.T.Unsigned.at_most_32)

pub of-requires : goal.of-requires
of-requires g c = rw c.unsigned.ensures (part-fits c.args.s.now c.args.c.at c.args.n g.T.Unsigned.room (omega arith))

pub returns : goal.returns
returns g c = ap (λ v. taken v (c.args.c.at + c.args.n)) (c.of.ensures ∙ c.unsigned.ensures) ∙ sym (u-value _ _ _ (omega arith))
