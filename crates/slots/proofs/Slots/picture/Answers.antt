-- the slot's own call, where there is such a slot
use Rattle.std.proofs.Common.{sym, arith}
use Rattle.held.specs.Held.{nothing}
use Rattle.slots.specs.Slots.{refused, picturing}
use Rattle.slots.proofs.Laws.{lifted-past, lifted-stored}
use Rattle.slots.proofs.Slots.picture.Goals as goal

pub returns-then-n-ge8 : goal.returns-then-n-ge8
returns-then-n-ge8 c = rw (c.slot.ensures, c.nothing.ensures) (sym (lifted-past picturing (refused, nothing) c.args.self.now c.args.n (omega arith)))

pub returns : goal.returns
returns c = lifted-stored picturing (refused, nothing) c.args.self.now c.args.n _ _ (omega arith) (omega arith) c.picture.ensures
