-- what is left at i, behind the n bytes that are written, is what the whole text comes to
use Rattle.std.proofs.Common.{length, ◌-◌, ◌≡◌, ◌≤◌}
use Rattle.words.specs.Hex.{spelling, into}
use Rattle.words.proofs.Spellings.{still}
use Rattle.words.proofs.hex.bytes.Given as goal

abbrev pub invariant-loop-i : goal.invariant-loop-i
invariant-loop-i l =
    (length l.out ≡ length l.initial.out) × (l.n ≤ length l.out) × (still l.s l.i l.n l.out ≡ into l.initial.out (spelling 0 0 l.s))

abbrev pub decreases-loop-i : goal.decreases-loop-i
decreases-loop-i l = length l.s - l.i
