-- Each entry's contract determines its answer, the slots that it hands back, and what it was lent as it leaves it.
-- Assumes nothing.
use Prim.Native.Nat.{ℕ}
use mathlib.Core.Path.{◌≡◌, sym, ap, ◌∙◌}
use mathlib.Core.List.{List}
use contract.Lifetimes.{Lfts}
use denote.Triple.Clauses.{AtExit}
use borrow.Fn.Kinds.{ended_of}
use Rattle.bits.proofs.Determined.{Determines, DeterminesAll}
use Rattle.lent.specs.Lent.{left}
use Rattle.lent.proofs.Stores.{same_left}
use Rattle.held.specs.declared.Held.{Held}
use Rattle.slots.specs.declared.Slots.{Slots}
use Rattle.region_table.specs.Rows.{Table, wrote}
use Rattle.isolation.specs.Runs.{Call}
use Rattle.host.specs.Slot.{left_in_numbers}
use Rattle.host.specs.Seen.{Seen, called, fed, pictured, c_step}
use Rattle.host.specs.declared.slot.Tabled.{Tabled}
use Rattle.host.proofs.bruskelde_read.Kinds as read-kinds
use Rattle.host.proofs.bruskelde_read.Reads as read-reads
use Rattle.host.proofs.bruskelde_fields.Kinds as fields-kinds
use Rattle.host.proofs.bruskelde_fields.Reads as fields-reads
use Rattle.host.proofs.bruskelde_part.Kinds as part-kinds
use Rattle.host.proofs.bruskelde_part.Reads as part-reads
use Rattle.host.proofs.slot.bruskelde_slots_size.Kinds as slots-size-kinds
use Rattle.host.proofs.slot.bruskelde_slots_size.Reads as slots-size-reads

pub read-determined : Determines 1 read-kinds.ps read-kinds.r read-reads.Post
read-determined κs a x y s t p q = p ∙ sym q

-- the fourth parameter, at exit
abbrev pub row : (κs : Lfts 2) → AtExit (ended_of 2 fields-kinds.ps fields-kinds.r) κs → List ℕ
row κs s = s.1.1.1.0.now

pub fields-determined : DeterminesAll 2 fields-kinds.ps fields-kinds.r row fields-reads.Post
fields-determined κs a x y s t p q = same_left (p ∙ sym q)

pub part-determined : Determines 1 part-kinds.ps part-kinds.r part-reads.Post
part-determined κs a x y s t p q = p ∙ sym q

pub slots-size-determined : Determines 0 slots-size-kinds.ps slots-size-kinds.r slots-size-reads.Post
slots-size-determined κs a x y s t p q = p ∙ sym q

-- ---- the entries that change the slots in place

-- Of these the check makes no `Post`. An entry's proof is of the contract as the source has it, and ends in one of the equations here, so it
-- is these that have to determine the answer, all eight slots, and what is shown or written. `bruskelde_start` says the slots outright.
module _ (s : Slots) (c : Call) where
  pub called-determined : {t u : Slots} {n m : ℕ} → (t, called n) ≡ c_step s c → (u, called m) ≡ c_step s c → (t ≡ u) × (n ≡ m)
  called-determined p q =
      let e : called _ ≡ called _ = ap (λ (w : Slots × Seen). w.1) (p ∙ sym q) in
      (ap (λ (w : Slots × Seen). w.0) (p ∙ sym q), cc)

  pub fed-determined : {t u : Slots} {n m e d : ℕ} → (t, fed n e) ≡ c_step s c → (u, fed m d) ≡ c_step s c → (t ≡ u) × ((n ≡ m) × (e ≡ d))
  fed-determined p q =
      let e : fed _ _ ≡ fed _ _ = ap (λ (w : Slots × Seen). w.1) (p ∙ sym q) in
      (ap (λ (w : Slots × Seen). w.0) (p ∙ sym q), (cc, cc))

  pub pictured-determined : {t u : Slots} {n m : ℕ} {h g : Held} → (t, pictured n h) ≡ c_step s c → (u, pictured m g) ≡ c_step s c → (t ≡ u) × ((n ≡ m) × (h ≡ g))
  pictured-determined p q =
      let e : pictured _ _ ≡ pictured _ _ = ap (λ (w : Slots × Seen). w.1) (p ∙ sym q) in
      (ap (λ (w : Slots × Seen). w.0) (p ∙ sym q), (cc, cc))

pub table-determined : (t : Table) (lent : List ℕ) {x y : Tabled} {k l : List ℕ} → left x k ≡ left_in_numbers (wrote t lent) → left y l ≡ left_in_numbers (wrote t lent) → (x ≡ y) × (k ≡ l)
table-determined t lent p q = same_left (p ∙ sym q)
