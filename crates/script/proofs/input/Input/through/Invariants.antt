-- the bytes from `at` on are still to be taken
use Rattle.std.proofs.Common.{◌≡◌, drop}
use Rattle.script.specs.Input.{line_on}
use Rattle.script.proofs.input.Input.through.Given as goal

abbrev pub invariant-loop-at : goal.invariant-loop-at
invariant-loop-at l =
    (l.r.at ≡ l.at) × (line_on l.r (drop l.r.at l.s) l.line ≡ line_on l.initial.r (drop l.initial.r.at l.s) l.initial.line)
