-- The contract of each public function determines its result: any two results that meet it, at the same arguments, are equal.
-- The public functions here are the elements, the numbers of a record's types, the tail, the refusals that are made and their numbers.
-- `Post` is a function's `ensures` as the check reads it off the source, so no contract is written a second time here.
-- Assumes nothing.
use Prim.Native.Nat.{ℕ, ◌-◌}
use mathlib.Core.Path.{◌≡◌, refl, sym, ap, ap₂, ◌∙◌}
use mathlib.Core.List.{List, [], ◌∷◌}
use lib.ListN.{get_or}
use contract.Lifetimes.{Lfts}
use denote.Triple.Clauses.{AtExit}
use borrow.Fn.Kinds.{ParamKind, ResultKind, Dens, res_t, ended_of}
use borrow.Fn.Kinds as kinds
use Rattle.bits.specs.Out.{Out, taken, refused}
use Rattle.bits.specs.Refusals.{refusal_number}
use Rattle.std.specs.Prelude.{Result, Ok, Err}
use Rattle.bits.specs.Answers.{out_by, out_of}
use Rattle.bits.specs.declared.unsigned.Unsigned.{Ghosts}
use Rattle.std.specs.declared.clone.Clone
use denote.RattleType.{RattleType}
use denote.Param.Laws.{Laws, IsCopy}
use mir.Syntax.{Dict}
use Rattle.bits.specs.contracts.unsigned.U8Unsigned.TheImpl as u8-impl
use Rattle.std.specs.contracts.prelude.U8Clone.TheImpl as u8-clone
use Rattle.bits.specs.contracts.unsigned.U16Unsigned.TheImpl as u16-impl
use Rattle.std.specs.contracts.prelude.U16Clone.TheImpl as u16-clone
use Rattle.bits.specs.contracts.unsigned.U32Unsigned.TheImpl as u32-impl
use Rattle.std.specs.contracts.prelude.U32Clone.TheImpl as u32-clone
use Rattle.bits.specs.declared.cursor.Cursor.{Cursor}
use Rattle.bits.specs.declared.refusal.Refusal.{Refusal}
use Rattle.bits.specs.declared.refusal.Refusal.TheVariants.{Kind, Size, Short, Zeros, Rule, Regions, Tail, Slot, Table, Rows}
use Rattle.bits.proofs.Widths.{u8_type, u8_laws, u8_copied, u16_type, u16_laws, u16_copied, u32_type, u32_laws, u32_copied}
use Rattle.bits.proofs.element.u.Kinds as u-kinds
use Rattle.bits.proofs.element.u.Reads as u-reads
use Rattle.bits.proofs.unsigned.U8Unsigned.of.Kinds as u8-of-kinds
use Rattle.bits.proofs.unsigned.U8Unsigned.of.Reads as u8-of-reads
use Rattle.bits.proofs.unsigned.U16Unsigned.of.Kinds as u16-of-kinds
use Rattle.bits.proofs.unsigned.U16Unsigned.of.Reads as u16-of-reads
use Rattle.bits.proofs.unsigned.U32Unsigned.of.Kinds as u32-of-kinds
use Rattle.bits.proofs.unsigned.U32Unsigned.of.Reads as u32-of-reads
use Rattle.bits.proofs.element.ue.Kinds as ue-kinds
use Rattle.bits.proofs.element.ue.Reads as ue-reads
use Rattle.bits.proofs.element.signed.Kinds as signed-kinds
use Rattle.bits.proofs.element.signed.Reads as signed-Reads
use Rattle.bits.proofs.identifier.identifier.Kinds as identifier-kinds
use Rattle.bits.proofs.identifier.identifier.Reads as identifier-reads
use Rattle.bits.proofs.ending.tail.Kinds as tail-kinds
use Rattle.bits.proofs.ending.tail.Reads as tail-reads
use Rattle.bits.proofs.refusal.Refusal.number.Kinds as refusal-number-kinds
use Rattle.bits.proofs.refusal.Refusal.number.Reads as refusal-number-reads
use Rattle.bits.proofs.refusal.Refusal.rule.Kinds as rule-kinds
use Rattle.bits.proofs.refusal.Refusal.rule.Reads as rule-reads
use Rattle.bits.proofs.refusal.Refusal.regions.Kinds as regions-kinds
use Rattle.bits.proofs.refusal.Refusal.regions.Reads as regions-reads
use Rattle.bits.proofs.refusal.Refusal.kind.Kinds as kind-made-kinds
use Rattle.bits.proofs.refusal.Refusal.kind.Reads as kind-made-reads
use Rattle.bits.proofs.refusal.Refusal.size.Kinds as size-made-kinds
use Rattle.bits.proofs.refusal.Refusal.size.Reads as size-made-reads
use Rattle.bits.proofs.refusal.Refusal.slot.Kinds as slot-made-kinds
use Rattle.bits.proofs.refusal.Refusal.slot.Reads as slot-made-reads
use Rattle.bits.proofs.refusal.Refusal.table.Kinds as table-made-kinds
use Rattle.bits.proofs.refusal.Refusal.table.Reads as table-made-reads
use Rattle.bits.proofs.refusal.Refusal.rows.Kinds as rows-made-kinds
use Rattle.bits.proofs.refusal.Refusal.rows.Reads as rows-made-reads

-- the arguments a fix the result: x and y, each with whatever stands at exit, are the same
abbrev pub Determines : (n : ℕ) (ps : List (ParamKind n)) (r : ResultKind n) → kinds.Out n ps r → Type 0
Determines n ps r Post =
    (κs : Lfts n) (a : Dens κs ps) (x y : (res_t r κs).Denot) (s t : AtExit (ended_of n ps r) κs)
    → Post κs a x s
    → Post κs a y t
    → x ≡ y

-- the same of a function that writes to what it is lent: the arguments a fix the result, and what `seen` sees of what stands at exit
abbrev pub DeterminesAll : (n : ℕ) (ps : List (ParamKind n)) (r : ResultKind n) {X : Type 0} → ((κs : Lfts n) → AtExit (ended_of n ps r) κs → X) → kinds.Out n ps r → Type 0
DeterminesAll n ps r seen Post =
    (κs : Lfts n) (a : Dens κs ps) (x y : (res_t r κs).Denot) (s t : AtExit (ended_of n ps r) κs)
    → Post κs a x s
    → Post κs a y t
    → (x ≡ y) × (seen κs s ≡ seen κs t)

-- and of one that hands back a part of what it is lent: the arguments a fix what `held` says that the part holds, not where it lies
abbrev pub DeterminesPart : (n : ℕ) (ps : List (ParamKind n)) (r : ResultKind n) {X : Type 0} → ((κs : Lfts n) → (res_t r κs).Denot → X) → kinds.Out n ps r → Type 0
DeterminesPart n ps r held Post =
    (κs : Lfts n) (a : Dens κs ps) (x y : (res_t r κs).Denot) (s t : AtExit (ended_of n ps r) κs)
    → Post κs a x s
    → Post κs a y t
    → held κs x ≡ held κs y

-- ---- a meaning tells the cases of an answer apart where the answer can be had back from it

told-by : {R X : Type 0} (meaning : R → X) (back : X → R) → ((r : R) → back (meaning r) ≡ r) → (r t : R) → meaning r ≡ meaning t → r ≡ t
told-by meaning back same r t e = sym (same r) ∙ ap back e ∙ same t

-- the answer that means o
abbrev pub answer_of : {A : Type 0} → Out A → Result (A × Cursor) Refusal
answer_of (taken a q) = Ok (a, record { at = q })
answer_of (refused r) = Err r

had : {A : Type 0} (r : Result (A × Cursor) Refusal) → answer_of (out_of r) ≡ r
had (Ok r) = refl
had (Err r) = refl

pub told : {A : Type 0} (r t : Result (A × Cursor) Refusal) → out_of r ≡ out_of t → r ≡ t
told = told-by out_of answer_of had

pub read_told : (r t : Result (ℕ × Cursor) Refusal) → out_of r ≡ out_of t → r ≡ t
read_told = told

-- and where the numbers that were read tell the values apart
pub told-by-number : {A : Type 0} (number : A → ℕ) → ((a b : A) → number a ≡ number b → a ≡ b) → (r t : Result (A × Cursor) Refusal) → out_by number r ≡ out_by number t → r ≡ t
told-by-number number tells (Ok x) (Ok y) e =
    let v : number x.0 ≡ number y.0 = cc in
    let c : x.1.at ≡ y.1.at = cc in
    ap₂ (λ a q. Ok (a, record { at = q })) (tells x.0 y.0 v) c
told-by-number number tells (Err x) (Err y) e = let v : x ≡ y = cc in ap Err v
told-by-number number tells (Ok x) (Err y) e = cc
told-by-number number tells (Err x) (Ok y) e = cc

-- and the numbers tell the refusals apart: this list has each at its number
refusals : List Refusal
refusals = Kind ∷ Size ∷ Short ∷ Zeros ∷ Rule ∷ Regions ∷ Tail ∷ Slot ∷ Table ∷ Rows ∷ []

numbered : (r : Refusal) → get_or refusals (refusal_number r - 1) Kind ≡ r
unfolding refusals
numbered Kind = refl
numbered Size = refl
numbered Short = refl
numbered Zeros = refl
numbered Rule = refl
numbered Regions = refl
numbered Tail = refl
numbered Slot = refl
numbered Table = refl
numbered Rows = refl

pub refusal-told : (r t : Refusal) → refusal_number r ≡ refusal_number t → r ≡ t
refusal-told = told-by refusal_number (λ n. get_or refusals (n - 1) Kind) numbered

-- ---- the public functions

-- u(n) at any type of a record's number
module _ (T : RattleType) (L : Laws T) (C : IsCopy T) (N : Ghosts T.Denot) (N-dict : Dict) (K : Clone.Ghosts T.Denot) (K-dict : Dict)
    (tells : (x y : T.Denot) → N.number x ≡ N.number y → x ≡ y) where
  pub u-determined : Determines 2 (u-kinds.ps T L C) (u-kinds.r T L C) (u-reads.Post T L C N N-dict K K-dict)
  u-determined κs a x y s t p q = told-by-number N.number tells x y (p ∙ sym q)

-- at u8, u16 and u32
pub byte-determined : Determines 2 (u-kinds.ps u8_type u8_laws u8_copied) (u-kinds.r u8_type u8_laws u8_copied) (u-reads.Post u8_type u8_laws u8_copied u8-impl.ghosts u8-impl.dict u8-clone.ghosts u8-clone.dict)
byte-determined = u-determined u8_type u8_laws u8_copied u8-impl.ghosts u8-impl.dict u8-clone.ghosts u8-clone.dict (λ x y e. e)

pub word-determined : Determines 2 (u-kinds.ps u16_type u16_laws u16_copied) (u-kinds.r u16_type u16_laws u16_copied) (u-reads.Post u16_type u16_laws u16_copied u16-impl.ghosts u16-impl.dict u16-clone.ghosts u16-clone.dict)
word-determined = u-determined u16_type u16_laws u16_copied u16-impl.ghosts u16-impl.dict u16-clone.ghosts u16-clone.dict (λ x y e. e)

pub u-u32-determined : Determines 2 (u-kinds.ps u32_type u32_laws u32_copied) (u-kinds.r u32_type u32_laws u32_copied) (u-reads.Post u32_type u32_laws u32_copied u32-impl.ghosts u32-impl.dict u32-clone.ghosts u32-clone.dict)
u-u32-determined = u-determined u32_type u32_laws u32_copied u32-impl.ghosts u32-impl.dict u32-clone.ghosts u32-clone.dict (λ x y e. e)

pub u8-of-determined : Determines 0 u8-of-kinds.ps u8-of-kinds.r u8-of-reads.Post
u8-of-determined κs a x y s t p q = p ∙ sym q

pub u16-of-determined : Determines 0 u16-of-kinds.ps u16-of-kinds.r u16-of-reads.Post
u16-of-determined κs a x y s t p q = p ∙ sym q

pub u32-of-determined : Determines 0 u32-of-kinds.ps u32-of-kinds.r u32-of-reads.Post
u32-of-determined κs a x y s t p q = p ∙ sym q

pub ue-determined : Determines 1 ue-kinds.ps ue-kinds.r ue-reads.Post
ue-determined κs a x y s t p q = told x y (p ∙ sym q)

pub signed-determined : Determines 0 signed-kinds.ps signed-kinds.r signed-Reads.Post
signed-determined κs a x y s t p q = p ∙ sym q

pub identifier-determined : Determines 1 identifier-kinds.ps identifier-kinds.r identifier-reads.Post
identifier-determined κs a x y s t p q = told x y (p ∙ sym q)

pub tail-determined : Determines 1 tail-kinds.ps tail-kinds.r tail-reads.Post
tail-determined κs a x y s t p q = p ∙ sym q

pub refusal-number-determined : Determines 0 refusal-number-kinds.ps refusal-number-kinds.r refusal-number-reads.Post
refusal-number-determined κs a x y s t p q = p ∙ sym q

pub rule-determined : Determines 0 rule-kinds.ps rule-kinds.r rule-reads.Post
rule-determined κs a x y s t p q = p ∙ sym q

pub regions-determined : Determines 0 regions-kinds.ps regions-kinds.r regions-reads.Post
regions-determined κs a x y s t p q = p ∙ sym q

pub kind-made-determined : Determines 0 kind-made-kinds.ps kind-made-kinds.r kind-made-reads.Post
kind-made-determined κs a x y s t p q = p ∙ sym q

pub size-made-determined : Determines 0 size-made-kinds.ps size-made-kinds.r size-made-reads.Post
size-made-determined κs a x y s t p q = p ∙ sym q

pub slot-made-determined : Determines 0 slot-made-kinds.ps slot-made-kinds.r slot-made-reads.Post
slot-made-determined κs a x y s t p q = p ∙ sym q

pub table-made-determined : Determines 0 table-made-kinds.ps table-made-kinds.r table-made-reads.Post
table-made-determined κs a x y s t p q = p ∙ sym q

pub rows-made-determined : Determines 0 rows-made-kinds.ps rows-made-kinds.r rows-made-reads.Post
rows-made-determined κs a x y s t p q = p ∙ sym q
