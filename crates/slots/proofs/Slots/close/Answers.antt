-- the slot's own call, where there is such a slot
use Rattle.std.proofs.Common.{sym, arith}
use Rattle.slots.specs.Slots.{refused, closing}
use Rattle.slots.proofs.Laws.{lifted-past, lifted-stored}
use Rattle.slots.proofs.Slots.close.Goals as goal

pub returns-then-n-ge8 : goal.returns-then-n-ge8
returns-then-n-ge8 c = rw c.slot.ensures (sym (lifted-past closing refused c.args.self.now c.args.n (omega arith)))

pub returns : goal.returns
returns c = lifted-stored closing refused c.args.self.now c.args.n _ _ (omega arith) (omega arith) c.close.ensures
