-- 1, then 2, then what the payload comes to
use lib.ListN.{length-take}
use Rattle.std.proofs.Common.{◌∙◌, refl, sym, ap, arith}
use Rattle.bits.specs.Refusals.{refusal_number}
use Rattle.reader.proofs.EntryLaws.{payload-fits}
use Rattle.reader.proofs.Calls.{by-entry}
use Rattle.record_row.proofs.HandingLaws.{by_answer, unread}
use Rattle.record_row.proofs.handing.write.Goals as goal

pub returns-in-Unlisted : goal.returns-in-Unlisted
returns-in-Unlisted c =
    unread _ (by-entry _ _ _ (sym c.in-Unlisted.ensures)) refl (c.number.ensures ∙ ap refusal_number c.kind.ensures)

pub returns-in-Oversized : goal.returns-in-Oversized
returns-in-Oversized c =
    unread _ (by-entry _ _ _ (sym c.in-Oversized.ensures)) refl (c.number-in-Oversized.ensures ∙ ap refusal_number c.size.ensures)

pub of_kind-requires : goal.of_kind-requires
of_kind-requires c = rw (c.front.ensures, length-take) (omega (arith, (payload-fits _ _ _ (sym c.in-Payload.ensures)).0))

pub returns-in-Payload : goal.returns-in-Payload
returns-in-Payload c =
    rw c.number-in-Payload.ensures
    (by_answer _ (rw c.front.ensures (sym (by-entry _ _ _ (sym c.in-Payload.ensures)))) c.of_kind.ensures)
