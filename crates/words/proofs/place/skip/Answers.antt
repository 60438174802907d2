-- the characters that are taken are those that stand at the front
use Rattle.std.proofs.Common.{rules, tests, arith, ◌≡◌, ◌-◌, length, length-drop, drop, take, eqb}
use lib.Seq.{take_all}
use Rattle.std.proofs.lemmas.Iterator.{YieldsList-from_slice}
use Rattle.std.proofs.lemmas.Iterator.Search.{YieldsList-from_take_while}
use Rattle.std.proofs.lemmas.Iterator.Consumers.{count_from_yields_List}
use Rattle.words.proofs.Runs.{counted}
use Rattle.words.proofs.place.skip.Goals as goal

pub returns-clause-value : goal.returns-clause-value
returns-clause-value c =
    let n = length c.args.s.now - c.args.from in
    let l = drop c.args.from c.args.s.now in
    let whole : take n l ≡ l = take_all n l (omega (arith, length-drop c.args.from c.args.s.now)) in
    let k = count_from_yields_List c.take_while.result c.count.result c.count.ensures.ran (YieldsList-from_take_while _ (λ x. eqb x c.args.b) (YieldsList-from_slice (take n l) (cc)) c.take_while.ensures.closure c.take_while.ensures.done (λ x b q k. search (rules, tests))) in
    omega (arith, rw whole at k, counted c.args.b l)
