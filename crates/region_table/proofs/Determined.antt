-- The contracts of `rows::write`, `table_of`, `table_slot` and `table` determine their results, and the lent numbers as they leave them.
-- Assumes nothing.
use Prim.Native.Nat.{ℕ}
use mathlib.Core.Path.{sym, ◌∙◌}
use mathlib.Core.List.{List}
use contract.Lifetimes.{Lfts}
use denote.Triple.Clauses.{AtExit}
use borrow.Fn.Kinds.{ended_of}
use Rattle.bits.proofs.Determined.{DeterminesAll}
use Rattle.lent.proofs.Stores.{same_left}
use Rattle.region_table.proofs.rows.write.Kinds as write-kinds
use Rattle.region_table.proofs.rows.write.Reads as write-reads
use Rattle.region_table.proofs.table_of.Kinds as table-of-kinds
use Rattle.region_table.proofs.table_of.Reads as table-of-reads
use Rattle.region_table.proofs.table_slot.Kinds as table-slot-kinds
use Rattle.region_table.proofs.table_slot.Reads as table-slot-reads
use Rattle.region_table.proofs.table.Kinds as table-kinds
use Rattle.region_table.proofs.table.Reads as table-reads

-- the third parameter, at exit
abbrev pub written : (κs : Lfts 1) → AtExit (ended_of 1 write-kinds.ps write-kinds.r) κs → List ℕ
written κs s = s.1.1.0.now

pub write-determined : DeterminesAll 1 write-kinds.ps write-kinds.r written write-reads.Post
write-determined κs a x y s t p q = same_left (p ∙ sym q)

-- the second parameter, at exit
abbrev pub of-held : (κs : Lfts 1) → AtExit (ended_of 1 table-of-kinds.ps table-of-kinds.r) κs → List ℕ
of-held κs s = s.1.0.now

pub table-of-determined : DeterminesAll 1 table-of-kinds.ps table-of-kinds.r of-held table-of-reads.Post
table-of-determined κs a x y s t p q = same_left (p ∙ sym q)

abbrev pub of-slot : (κs : Lfts 1) → AtExit (ended_of 1 table-slot-kinds.ps table-slot-kinds.r) κs → List ℕ
of-slot κs s = s.1.0.now

pub table-slot-determined : DeterminesAll 1 table-slot-kinds.ps table-slot-kinds.r of-slot table-slot-reads.Post
table-slot-determined κs a x y s t p q = same_left (p ∙ sym q)

abbrev pub lent : (κs : Lfts 1) → AtExit (ended_of 1 table-kinds.ps table-kinds.r) κs → List ℕ
lent κs s = s.1.1.0.now

pub table-determined : DeterminesAll 1 table-kinds.ps table-kinds.r lent table-reads.Post
table-determined κs a x y s t p q = same_left (p ∙ sym q)
