-- the slot's own feed, where there is such a slot
use Rattle.std.proofs.Common.{◌∙◌, sym, ap, arith}
use Rattle.slots.specs.declared.Slot.{Slot}
use Rattle.slots.proofs.Laws.{lifted-past, lifted-stored, lifted-said}
use Rattle.feeding.specs.Feed.{shut_answer, feeding}
use Rattle.feeding.specs.Filling.{replied, reply_of}
use Rattle.feeding.specs.declared.filling.Reply.{Reply}
use Rattle.feeding.proofs.FeedLaws.{shut_replied}
use Rattle.feeding.proofs.filling.feed.Goals as goal

pub returns-then-n-ge8 : goal.returns-then-n-ge8
returns-then-n-ge8 c =
    let a = c.args in
    rw c.shut.ensures
    (sym (ap replied (lifted-past (feeding a.kind a.size a.bytes.now) (shut_answer a.kind) a.slots.now a.n (omega arith)) ∙ ap (λ (r : Reply). (a.slots.now, r)) (shut_replied a.kind)))

pub returns : goal.returns
returns c =
    let a = c.args in
    lifted-stored (λ (x : Slot). replied (feeding a.kind a.size a.bytes.now x)) (reply_of (shut_answer a.kind)) a.slots.now a.n _ _ (omega arith) (omega arith) c.feed_slot.ensures
    ∙ lifted-said reply_of (feeding a.kind a.size a.bytes.now) (shut_answer a.kind) a.slots.now a.n
