use Rattle.std.proofs.Common.{◌<◌}
use Rattle.show.proofs.fraction.multiple.Given as goal

abbrev pub invariant-loop : goal.invariant-loop
invariant-loop l = (l.high < 1000000000000000) × (l.low < 1000000000000000)
