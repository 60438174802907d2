-- there are eight, and past them a closed one
use borrow.Author.Tests.{ltb-true, ltb-false}
use Rattle.std.proofs.Common.{sym, ◌∙◌, arith}
use Rattle.slots.proofs.Laws.{slot-past, slot-within}
use Rattle.slots.proofs.Slots.slot.Goals as goal

pub returns-in-Some : goal.returns-in-Some
returns-in-Some c =
    let h = c.in-Some.ensures.lookup in
    h.1 ∙ slot-within c.args.self.now c.args.n _ (omega arith) (omega (arith, ltb-true _ _ (sym h.0)))

pub returns-in-None : goal.returns-in-None
returns-in-None c =
    let h = c.in-None.ensures.lookup in
    c.closed.ensures ∙ sym (slot-past c.args.self.now c.args.n (omega arith) (omega (arith, ltb-false _ _ (sym h.0))))
