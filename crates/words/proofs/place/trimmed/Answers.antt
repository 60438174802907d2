-- the characters that are taken are those that stand at the end
use Rattle.std.proofs.Common.{rules, tests, arith, eqb, reverse}
use Rattle.std.proofs.lemmas.Iterator.Adapters.{YieldsList-from_rev_slice}
use Rattle.std.proofs.lemmas.Iterator.Search.{YieldsList-from_take_while}
use Rattle.std.proofs.lemmas.Iterator.Consumers.{count_from_yields_List}
use Rattle.words.proofs.Runs.{counted}
use Rattle.words.proofs.place.trimmed.Goals as goal

pub returns : goal.returns
returns c =
    let k = count_from_yields_List c.take_while.result c.count.result c.count.ensures.ran (YieldsList-from_take_while _ (λ x. eqb x 32) (YieldsList-from_rev_slice c.args.s.now (cc)) c.take_while.ensures.closure c.take_while.ensures.done (λ x b q k. search (rules, tests))) in
    omega (arith, k, counted 32 (reverse c.args.s.now))
