-- The slots as a feed leaves them and its reply are what the run's step leaves and shows. No proof takes these: an entry goes by `feeding`'s contract.
-- Assumes nothing.
use Prim.Native.Nat.{ℕ, ◌<◌}
use mathlib.Core.Path.{◌≡◌, ap, sym, ◌∙◌}
use mathlib.Core.Bool.{true, not}
use mathlib.Core.List.{List}
use lib.Dec.{T, eqb, eqb→eq}
use borrow.Author.Tests.{eqb-false}
use Rattle.answers.specs.Listed.{number}
use Rattle.held.specs.Lasting.{Lasting, kind_of, HeldOf}
use Rattle.held.specs.Held.{replaced}
use Rattle.slots.specs.Slots.{is_open, holding, slot_at, with_slot}
use Rattle.slots.specs.declared.Slots.{Slots}
use Rattle.feeding.specs.Filling.{filling}
use Rattle.feeding.specs.declared.filling.Reply.{Reply}
use Rattle.in_place.proofs.Parts.{no}
use Rattle.isolation.specs.Runs.{feeds}
use Rattle.host.specs.Seen.{Seen, fed, c_step}
use Rattle.host.proofs.StepLaws.{fill-same, fill-new}

abbrev pub fed-claim : ℕ → Slots → ℕ → ℕ → List ℕ → Reply → Slots → Type 0
fed-claim kind h n size bytes r t = ◌≡◌ {A = Slots × Seen} (t, fed r.number r.extension) (c_step h (feeds n kind size bytes))

-- 8
abbrev pub refusal : Reply
refusal = record { number = 8; extension = 0 }

-- r is what a payload of kind k fills, in parts: where its mark is 0 the slot stays, and else its record of kind k is the new one
module _ (k : Lasting) (h : Slots) (n size : ℕ) (bytes : List ℕ) (l : n < 8) (o : is_open (slot_at h n) ≡ true) {F : Type 0} (parts : F → Reply × (ℕ × HeldOf k)) {r g : F} (e : r ≡ g) where
  pub untaken : parts g ≡ filling k size bytes → T (eqb (parts r).1.0 0) → fed-claim (number (kind_of k)) h n size bytes (parts r).0 h
  untaken f y = let x = ap parts e ∙ f in rw (ap (λ (p : Reply × (ℕ × HeldOf k)). p.0) x) (fill-same k h n size bytes l o (sym (ap (λ (p : Reply × (ℕ × HeldOf k)). p.1.0) x) ∙ eqb→eq (parts r).1.0 0 y))

  pub taken : parts g ≡ filling k size bytes → T (not (eqb (parts r).1.0 0)) → fed-claim (number (kind_of k)) h n size bytes (parts r).0 (with_slot h n (holding (slot_at h n) (replaced k (slot_at h n).held (parts r).1.1)))
  taken f y =
      let x = ap parts e ∙ f in
      rw (ap (λ (p : Reply × (ℕ × HeldOf k)). p.0) x, ap (λ (p : Reply × (ℕ × HeldOf k)). p.1.1) x)
      (fill-new k h n size bytes l o (λ z. eqb-false (parts r).1.0 0 (no (eqb (parts r).1.0 0) y) (ap (λ (p : Reply × (ℕ × HeldOf k)). p.1.0) x ∙ z)))
