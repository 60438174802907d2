-- the bytes from `at` on are still to be taken
use Rattle.std.proofs.Common.{ℕ, ◌≡◌, ◌∙◌, sym, List, take, drop, arith}
use Rattle.script.specs.Input.{Step, line_on, rest}
use Rattle.script.specs.declared.input.Input.{Input}
use Rattle.script.proofs.Taken.{over, placed, ends, goes_on}
use Rattle.script.proofs.input.Input.through.Goals as goal

-- s is what there is of the chunk
of-chunk : (i : Input) (s chunk line : List ℕ) (o : Step) → s ≡ take i.end chunk → o ≡ line_on i (drop i.at s) line → o ≡ line_on i (rest i chunk) line
of-chunk i s chunk line o e p = rw (← e) p

pub loop-at-preserved : goal.loop-at-preserved
loop-at-preserved c =
    let l = c.loop-at in
    let e = rw (sym l.invariant.0) at c.with-r.ensures in
    let p = placed c.front-s.result.now l.line l.r _ (omega arith) e in
    let g = goes_on c.front-s.result.now l.line l.r _ (omega arith) e c.if-r.false in
    (omega (arith, p), sym g ∙ l.invariant.1)

pub returns-then-r : goal.returns-then-r
returns-then-r c =
    let l = c.loop-at in
    let e = rw (sym l.invariant.0) at c.with-r.ensures in
    of-chunk c.args.self c.front-s.result.now c.args.chunk.now c.args.line.now _ c.front-s.ensures
    (sym (ends c.front-s.result.now l.line l.r _ (omega arith) e c.if-r.true) ∙ l.invariant.1)

pub returns-after-loop-at : goal.returns-after-loop-at
returns-after-loop-at c =
    let l = c.loop-at in
    of-chunk c.args.self c.front-s.result.now c.args.chunk.now c.args.line.now _ c.front-s.ensures
    (sym (over c.front-s.result.now l.line l.r (omega arith)) ∙ l.invariant.1)
