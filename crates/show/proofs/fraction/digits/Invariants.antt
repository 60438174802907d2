use Rattle.std.proofs.Common.{◌<◌, ◌≤◌}
use Rattle.show.proofs.fraction.digits.Given as goal

abbrev pub invariant-loop-rest : goal.invariant-loop-rest
invariant-loop-rest l =
    (l.rest < l.parts) × (l.rest ≤ 2305843009213693952) × (l.parts ≤ 4611686018427387904)

abbrev pub decreases-loop-rest : goal.decreases-loop-rest
decreases-loop-rest l = l.parts
