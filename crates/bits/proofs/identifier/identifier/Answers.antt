-- all 128 bits are there, or some lack
use Rattle.std.proofs.Common.{◌+◌, sym, ap, ◌∙◌, arith}
use Rattle.bits.specs.Out.{taken}
use Rattle.bits.specs.Identifier.{identifier_of}
use Rattle.bits.proofs.ElementLaws.{u-value, u-short}
use Rattle.bits.proofs.identifier.identifier.Goals as goal

pub returns-then-remaining-lt128 : goal.returns-then-remaining-lt128
returns-then-remaining-lt128 c = ap identifier_of (sym (u-short _ _ 128 (omega arith)))

pub returns : goal.returns
returns c = ap (λ b. taken b (c.args.c.at + 128)) c.bytes_at.ensures ∙ ap identifier_of (sym (u-value _ _ 128 (omega arith)))
