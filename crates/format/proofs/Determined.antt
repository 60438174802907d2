-- The contract of each public function determines its result: `guard_type`, `at_most` and `read_list`.
-- Assumes nothing.
use mathlib.Core.Path.{◌≡◌, sym, ◌∙◌}
use denote.RattleType.{RattleType}
use denote.Param.Laws.{Laws, IsCopy}
use Prim.Native.Nat.{ℕ}
use mathlib.Core.List.{List}
use lib.ListN.{length, replicate}
use contract.Lifetimes.{Lfts}
use denote.Triple.Clauses.{AtExit}
use borrow.Fn.Kinds.{Dens, res_t, ended_of}
use mir.Syntax.{Dict}
use Rattle.format.specs.Format.{Format, zeros}
use Rattle.format.specs.Readers.{Reads, list_out}
use Rattle.format.specs.contracts.list.read_list.{F-post}
use Rattle.format.specs.contracts.list.read_list.F-Fn as Fn
use Rattle.std.specs.declared.clone.Clone
use Rattle.bits.specs.declared.unsigned.Unsigned.{Ghosts}
use Rattle.bits.specs.contracts.unsigned.U32Unsigned.TheImpl as u32-impl
use Rattle.std.specs.contracts.prelude.U32Clone.TheImpl as u32-clone
use Rattle.bits.proofs.Widths.{u32_type, u32_laws, u32_copied}
use Rattle.bits.proofs.Determined.{Determines, told, told-by-number}
use Rattle.format.proofs.guard.guard_type.Kinds as guard-type-kinds
use Rattle.format.proofs.guard.guard_type.Reads as guard-type-reads
use Rattle.format.proofs.limit.at_most.Kinds as at-most-kinds
use Rattle.format.proofs.limit.at_most.Reads as at-most-reads
use Rattle.format.proofs.list.read_list.Kinds as read-list-kinds
use Rattle.format.proofs.list.read_list.Reads as read-list-reads

pub guard-type-determined : Determines 1 guard-type-kinds.ps guard-type-kinds.r guard-type-reads.Post
guard-type-determined κs a x y s t p q = told x y (p ∙ sym q)

module _ (T : RattleType) (L : Laws T) (C : IsCopy T) (N : Ghosts T.Denot) (N-dict : Dict) (K : Clone.Ghosts T.Denot) (K-dict : Dict)
    (tells : (x y : T.Denot) → N.number x ≡ N.number y → x ≡ y) where
  pub at-most-determined : Determines 2 (at-most-kinds.ps T L C) (at-most-kinds.r T L C) (at-most-reads.Post T L C N N-dict K K-dict)
  at-most-determined κs a x y s t p q = told-by-number N.number tells x y (p ∙ sym q)

-- at u32
pub at-most-u32-determined : Determines 2 (at-most-kinds.ps u32_type u32_laws u32_copied) (at-most-kinds.r u32_type u32_laws u32_copied) (at-most-reads.Post u32_type u32_laws u32_copied u32-impl.ghosts u32-impl.dict u32-clone.ghosts u32-clone.dict)
at-most-u32-determined = at-most-determined u32_type u32_laws u32_copied u32-impl.ghosts u32-impl.dict u32-clone.ghosts u32-clone.dict (λ x y e. e)

-- what `read_list` answers with what it leaves of the lent list, where that is one of zeros and each call of the closure reads f from the bytes s
module _ (T F : RattleType) (L : Laws T) (M : Laws F) (C : IsCopy T) (K : Clone.Ghosts T.Denot) (K-dict : Dict) (G : Fn.Ghosts T F) (d e g h : Dict)
    (f : Format T.Denot T.Denot) (s : List ℕ) where
  pub read-list-determined : let ps = read-list-kinds.ps T F L M C in let r = read-list-kinds.r T F L M C in
      (κs : Lfts 3) (a : Dens κs ps) (x y : (res_t r κs).Denot) (t u : AtExit (ended_of 3 ps r) κs)
      → a.0.now ≡ replicate (length a.0.now) (zeros f)
      → Reads (F-post T F K K-dict G d e g h a.1.1.1.0) f s
      → read-list-reads.Post T F L M C K K-dict G d e g h κs a x t
      → read-list-reads.Post T F L M C K K-dict G d e g h κs a y u
      → list_out x t.0.now ≡ list_out y u.0.now
  read-list-determined κs a x y t u z l p q = p f s z l ∙ sym (q f s z l)
