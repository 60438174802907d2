-- as many numbers as the loop has come to stand in their places
use Rattle.std.proofs.Common.{◌≡◌, take, map}
use Rattle.std.proofs.lemmas.List.Edits.{sets}
use Rattle.lent.proofs.put.Given as goal

abbrev pub invariant-loop-j : goal.invariant-loop-j
invariant-loop-j g l = l.lent ≡ sets l.initial.lent l.at (take l.j (map g.T.Number.number l.from))
