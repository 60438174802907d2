-- by the entry: 1, 2, or the number of what the payload comes to
use lib.ListN.{length-take}
use Rattle.std.proofs.Common.{◌∙◌, sym, ap, arith}
use Rattle.bits.specs.Refusals as refusals
use Rattle.answers.specs.Answer.{answer_number}
use Rattle.reader.proofs.EntryLaws.{payload-fits}
use Rattle.reader.proofs.Calls.{by-entry}
use Rattle.reader.proofs.verdict.number.Goals as goal

pub returns-in-Unlisted : goal.returns-in-Unlisted
returns-in-Unlisted c =
    c.number.ensures ∙ ap refusals.refusal_number c.kind.ensures ∙ sym (ap answer_number (by-entry _ _ _ (sym c.in-Unlisted.ensures)))

pub returns-in-Oversized : goal.returns-in-Oversized
returns-in-Oversized c =
    c.number-in-Oversized.ensures ∙ ap refusals.refusal_number c.size.ensures ∙ sym (ap answer_number (by-entry _ _ _ (sym c.in-Oversized.ensures)))

pub outcome_of-requires : goal.outcome_of-requires
outcome_of-requires c = rw (c.front.ensures, length-take) (omega (arith, (payload-fits _ _ _ (sym c.in-Payload.ensures)).0))

pub returns-in-Payload : goal.returns-in-Payload
returns-in-Payload c =
    c.number-in-Payload.ensures ∙ rw (c.outcome_of.ensures, c.front.ensures) (sym (ap answer_number (by-entry _ _ _ (sym c.in-Payload.ensures))))
