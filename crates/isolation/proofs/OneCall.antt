-- One call: at its own slot it is a turn of that slot alone, it changes no other slot, and where it is refused or set aside it changes none.
-- Assumes nothing.
use Prim.Native.Nat.{ℕ, ◌≤◌, ◌<◌}
use mathlib.Core.Path.{◌≡◌, refl, sym, ap, subst}
use mathlib.Core.Logic.{◌⊎◌, inl, inr}
use borrow.Author.Tests.{eqb-true, eqb-false}
use Rattle.bits.proofs.BitLaws.{below}
use Rattle.runs.specs.Cell.{Cell}
use Rattle.slots.specs.Slots.{Eight, slot_at, ButFor}
use Rattle.slots.specs.declared.Slot.{Slot}
use Rattle.slots.specs.declared.Slots.{Slots}
use Rattle.slots.proofs.Laws.{either, lifted-within, lifted-past, lifted_own, lifted-but-for, lifted-same}
use Rattle.feeding.proofs.FeedLaws.{feed-untaken}
use Rattle.isolation.specs.Runs.{Call, opens, closes, sequences, pictures, feeds, tables, slot_of, Reply, said, shown, turn, missing, step, on, Unchanging}

pub own : (s : Slots) (c : Call) → Eight s → slot_of c < 8
    → ◌≡◌ {A = Slot × Reply} (slot_at (step s c).0 (slot_of c), (step s c).1) (turn (slot_at s (slot_of c)) c)
own s c = lifted_own (λ x. turn x c) (missing c) s (slot_of c)

-- a call on one slot changes no other
pub but-for : (s : Slots) (c : Call) → ButFor (slot_of c) s (step s c).0
but-for s c = lifted-but-for (λ x. turn x c) (missing c) s (slot_of c)

-- ---- a call that is refused or set aside

-- leaves its slot as it was
turn-unchanged : (x : Slot) (c : Call) → Unchanging (turn x c).1 → (turn x c).0 ≡ x
turn-unchanged x (opens n) u = absurd u
turn-unchanged x (closes n) u = either x _ _ (λ w. Unchanging (said w.1) → w.0 ≡ x) (λ o v. absurd v) (λ o v. refl) u
turn-unchanged x (sequences n) u = either x _ _ (λ w. Unchanging (said w.1) → w.0 ≡ x) (λ o v. absurd v) (λ o v. refl) u
turn-unchanged x (pictures n) u = either x _ _ (λ w. Unchanging (shown w.1) → w.0 ≡ x) (λ o v. absurd v) (λ o v. refl) u
turn-unchanged x (feeds n kind size bytes) u = feed-untaken kind size bytes x u
turn-unchanged x (tables n lent) u = either x _ _ (λ w. w.0 ≡ x) (λ o. refl) (λ o. refl)

-- and so changes no slot at all
pub unchanged : (s : Slots) (c : Call) → Unchanging (step s c).1 → (step s c).0 ≡ s
unchanged s c u = go (below (slot_of c) 8)
  where
    call : Slot → Slot × Reply
    call x = turn x c

    go : (slot_of c < 8) ⊎ (8 ≤ slot_of c) → (step s c).0 ≡ s
    go (inl h) = lifted-same call (missing c) s (slot_of c) (turn-unchanged (slot_at s (slot_of c)) c (subst (λ (w : Slots × Reply). Unchanging w.1) (lifted-within call (missing c) s (slot_of c) h) u))
    go (inr h) = ap (λ (w : Slots × Reply). w.0) (lifted-past call (missing c) s (slot_of c) h)

-- ---- slot k is a cell

own_at : (k : ℕ) (s : Slots) (c : Call) → slot_of c ≡ k → Eight s → k < 8 → ◌≡◌ {A = Slot × Reply} (slot_at (step s c).0 k, (step s c).1) (turn (slot_at s k) c)
own_at k s c n e h = subst (λ (j : ℕ). ◌≡◌ {A = Slot × Reply} (slot_at (step s c).0 j, (step s c).1) (turn (slot_at s j) c)) n (own s c e (rw n h))

pub slot : (k : ℕ) → k < 8 → Cell step turn Eight (on k) (λ s. slot_at s k)
slot k h =
    record {
      keeps = λ s c. (but-for s c).eight;
      own = λ s c e a. own_at k s c (eqb-true (slot_of c) k a) e h;
      other = λ s c e a. (but-for s c).others k (λ p. eqb-false (slot_of c) k a (sym p));
    }
