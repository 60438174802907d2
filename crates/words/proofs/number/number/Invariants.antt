-- the digits that are left are still to be put after v
use Rattle.std.proofs.Common.{◌≡◌, drop}
use Rattle.words.specs.Number.{digits, number_of}
use Rattle.words.proofs.number.number.Given as goal

abbrev pub invariant-loop-b : goal.invariant-loop-b
invariant-loop-b l = digits (drop l.b-index l.s) l.v ≡ number_of l.s
