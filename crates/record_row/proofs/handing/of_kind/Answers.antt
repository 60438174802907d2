-- of kinds 177 and 5 their own record is handed out, and of any other what the message has
use Rattle.std.proofs.Common.{◌∙◌, ap}
use Rattle.answers.specs.Listed.{nothing, reading_of}
use Rattle.answers.specs.Answer.{answer_of}
use Rattle.answers.specs.declared.Brief.{Brief}
use Rattle.answers.specs.declared.kind.Kind.TheVariants.{Depth, Unregistered}
use Rattle.messages.proofs.Alone.{alone, unnamed}
use Rattle.record_row.proofs.HandingLaws.{depth-wrote, unregistered-wrote, by_answer}
use Rattle.record_row.proofs.handing.of_kind.Goals as goal

pub returns-in-Depth : goal.returns-in-Depth
returns-in-Depth c =
    rw c.in-Depth.is (depth-wrote _ (reading_of Depth c.args.s.now) c.depth-a.ensures c.hand.ensures)

pub returns-in-Unregistered : goal.returns-in-Unregistered
returns-in-Unregistered c =
    rw c.in-Unregistered.is (unregistered-wrote _ (reading_of Unregistered c.args.s.now) c.unregistered-a.ensures c.hand-in-Unregistered.ensures)

pub returns-in_default : goal.returns-in_default
returns-in_default c =
    let none = unnamed c.args.kind c.in_default.not-RegionWise c.in_default.not-Depth c.in_default.not-Unregistered in
    by_answer _
    (ap (λ (b : Brief). answer_of b nothing) c.brief_of.ensures ∙ alone c.args.kind none (reading_of c.args.kind c.args.s.now))
    c.hand_brief.ensures
