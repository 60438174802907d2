-- as many bytes as the loop has come to are filled
use Rattle.std.proofs.Common.{◌≡◌}
use Rattle.bits.proofs.IdentifierLaws.{filled}
use Rattle.bits.proofs.identifier.bytes_at.Given as goal

abbrev pub invariant-loop-i : goal.invariant-loop-i
invariant-loop-i l = l.bytes ≡ filled l.s l.at l.i
