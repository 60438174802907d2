-- the list has the first i entries and then zeros, whatever format the closure reads
use Rattle.std.proofs.Common.{◌≡◌, ℕ, List, length}
use Rattle.std.specs.Prelude.{replicate}
use Rattle.format.specs.Format.{Format, zeros}
use Rattle.format.specs.Readers.{Reads}
use Rattle.format.proofs.Filling.{Filling}
use Rattle.format.proofs.list.read_list.Given as goal

abbrev pub invariant-loop-i : goal.invariant-loop-i
invariant-loop-i g l =
    (f : Format _ _) (s : List ℕ) → l.initial.list ≡ replicate (length l.initial.list) (zeros f) → Reads (goal.F-post g l.read) f s
    → Filling f (length l.initial.list) s l.count l.initial.at.at l.list l.i l.at.at
