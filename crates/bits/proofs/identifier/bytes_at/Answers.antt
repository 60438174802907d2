-- each byte is eight bits of the payload
use Rattle.std.proofs.Common.{◌≡◌, ◌+◌, ◌*◌, ◌∙◌, ap, refl, append-nil, arith}
use Rattle.bits.specs.Identifier.{bytes_of}
use Rattle.bits.proofs.BitLaws.{part-fits}
use Rattle.bits.proofs.IdentifierLaws.{filled, fill-next}
use Rattle.bits.proofs.identifier.bytes_at.Goals as goal

pub loop-i-init : goal.loop-i-init
unfolding bytes_of
loop-i-init c = refl

pub overflow_cast-bytes : goal.overflow_cast-bytes
overflow_cast-bytes c = omega (arith, part-fits c.args.s.now (c.args.at + 8 * c.loop-i.i) 8 8 (omega arith))

pub loop-i-preserved : goal.loop-i-preserved
loop-i-preserved c = rw (c.loop-i.invariant, c.unsigned.ensures) (fill-next c.args.s.now c.args.at c.loop-i.i (omega arith))

pub returns : goal.returns
returns c =
    let all : c.loop-i.i ≡ 16 = omega arith in
    c.loop-i.invariant ∙ ap (filled c.args.s.now c.args.at) all ∙ append-nil _
