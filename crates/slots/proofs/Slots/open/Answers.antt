-- there are eight, and past them none to open
use Rattle.std.proofs.Common.{sym, ap, arith}
use Rattle.slots.specs.Slots.{done, refused, fresh_slot, opening}
use Rattle.slots.specs.declared.Slot.{Slot}
use Rattle.slots.proofs.Laws.{lifted-past, lifted-stored}
use Rattle.slots.proofs.Slots.«open».Goals as goal

pub returns-then-n-ge8 : goal.returns-then-n-ge8
returns-then-n-ge8 c = rw c.slot.ensures (sym (lifted-past opening refused c.args.self.now c.args.n (omega arith)))

pub returns : goal.returns
returns c = lifted-stored opening refused c.args.self.now c.args.n fresh_slot (c.fresh.result, done) (omega arith) (omega arith) (ap (λ (x : Slot). (x, done)) c.fresh.ensures)
