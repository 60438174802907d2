-- The contract of the function that changes the slots determines what it leaves of them.
-- Assumes nothing.
use mathlib.Core.Path.{refl, sym, ◌∙◌}
use contract.Lifetimes.{Lfts}
use denote.Triple.Clauses.{AtExit}
use borrow.Fn.Kinds.{ended_of}
use Rattle.bits.proofs.Determined.{DeterminesAll}
use Rattle.slots.specs.declared.Slots.{Slots}
use Rattle.desk.proofs.answer.answer.Kinds as answer-kinds
use Rattle.desk.proofs.answer.answer.Reads as answer-reads

-- the second parameter, at exit
abbrev left : (κs : Lfts 3) → AtExit (ended_of 3 answer-kinds.ps answer-kinds.r) κs → Slots
left κs s = s.1.0.now

pub answer-determined : DeterminesAll 3 answer-kinds.ps answer-kinds.r left answer-reads.Post
answer-determined κs a x y s t p q = (refl, p ∙ sym q)
