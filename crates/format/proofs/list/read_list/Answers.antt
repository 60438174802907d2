-- none, one more, and all of the entries are read, whatever format the closure reads
use Rattle.std.proofs.Common.{sym, subst, length, arith}
use Rattle.bits.proofs.Exits.{exit}
use Rattle.format.proofs.Filling.{Filling, first, one_more, stopped, filled}
use Rattle.format.proofs.list.read_list.Goals as goal

pub loop-i-init : goal.loop-i-init
loop-i-init g c f s z h =
    let n = length c.args.list.now in
    subst (λ xs. Filling f n s c.args.count c.args.c.at xs 0 c.args.c.at) (sym z) (first f n s _ _ c.requires.few)

pub returns-in_err-entry : goal.returns-in_err-entry
returns-in_err-entry g c f s z h =
    rw (exit c.from_residual.result c.from_residual.ensures.1) (sym (stopped f _ s _ _ (c.loop-i.invariant f s z h) (omega arith) (sym (h _ _ c.in_err-entry.ensures))))

pub loop-i-preserved : goal.loop-i-preserved
loop-i-preserved g c f s z h = one_more f _ s _ _ (c.loop-i.invariant f s z h) (omega arith) (sym (h _ _ c.in_ok-entry.ensures))

pub returns : goal.returns
returns g c f s z h = sym (filled f _ s _ _ (c.loop-i.invariant f s z h) (omega arith))
