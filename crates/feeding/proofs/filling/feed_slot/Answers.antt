-- the slot is judged first
use Rattle.std.proofs.Common.{◌∙◌, sym, ap}
use Rattle.held.specs.declared.Held.{Held}
use Rattle.slots.specs.Slots.{holding}
use Rattle.slots.proofs.Laws.{where-open, where-shut}
use Rattle.feeding.specs.Feed.{shut_answer}
use Rattle.feeding.specs.Filling.{replied}
use Rattle.feeding.specs.declared.filling.Reply.{Reply}
use Rattle.feeding.proofs.FeedLaws.{shut_replied}
use Rattle.feeding.proofs.filling.feed_slot.Goals as goal

pub returns-then-not-is_open : goal.returns-then-not-is_open
returns-then-not-is_open c =
    let here = c.args.here.now in
    rw c.shut.ensures
    (sym (ap replied (where-shut here (shut_answer c.args.kind) _ (sym c.is_open.ensures ∙ c.if-not-is_open.true)) ∙ ap (λ (r : Reply). (here, r)) (shut_replied c.args.kind)))

pub returns : goal.returns
unfolding holding
returns c =
    let here = c.args.here.now in
    ap (λ (w : Held × Reply). (holding here w.0, w.1)) c.feed_held.ensures
    ∙ sym (ap replied (where-open here (shut_answer c.args.kind) _ (sym c.is_open.ensures ∙ c.if-not-is_open.false)))
