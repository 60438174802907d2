-- the slot's own feed, where there is such a slot
use Rattle.std.proofs.Common.{sym, arith}
use Rattle.slots.proofs.Laws.{lifted-past, lifted-stored}
use Rattle.feeding.specs.Feed.{shut_answer, feeding}
use Rattle.feeding.proofs.feed.Goals as goal

pub returns-then-n-ge8 : goal.returns-then-n-ge8
returns-then-n-ge8 c = rw c.shut.ensures (sym (lifted-past (feeding _ _ _) (shut_answer _) c.args.slots.now c.args.n (omega arith)))

pub returns : goal.returns
returns c = lifted-stored (feeding _ _ _) (shut_answer _) c.args.slots.now c.args.n _ _ (omega arith) (omega arith) c.feed_slot.ensures
