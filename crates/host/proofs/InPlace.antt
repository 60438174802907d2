-- The slots as code leaves them that changes one where it lies: `here` is what it reads there, which names some slot d for what stands past the
-- eighth. Each ends in a law of `StepLaws`.
-- Assumes nothing.
use Prim.Native.Nat.{ℕ, ◌<◌}
use mathlib.Core.Path.{◌≡◌, refl, sym, ap, ◌∙◌, subst}
use mathlib.Core.Logic.{◌≢◌}
use mathlib.Core.Bool.{true, false}
use mathlib.Core.List.{List}
use lib.ListN.{get_or, set}
use borrow.Author.Tests.{eq-eqb, ne_eqb}
use Rattle.held.specs.Lasting.{Lasting, frame_packing, orientation, equirectangular, rotation, region_wise, HeldOf, kind_of, persistence_of, value_of}
use Rattle.held.specs.Held.{none_of, kept_of, held_of, kept, replaced}
use Rattle.held.proofs.HeldLaws.{held_same}
use Rattle.slots.specs.Slots.{Eight, is_open, holding, slot_at, with_slot}
use Rattle.slots.specs.declared.Slot.{Slot}
use Rattle.slots.specs.declared.Slots.{Slots}
use Rattle.slots.proofs.Laws.{slot-within, with-same}
use Rattle.answers.specs.Listed.{number}
use Rattle.feeding.specs.Filling.{filling}
use Rattle.feeding.specs.declared.filling.Reply.{Reply}
use Rattle.isolation.specs.Runs.{pictures, feeds}
use Rattle.host.specs.Seen.{Seen, fed, pictured, c_step}
use Rattle.host.proofs.StepLaws.{pictures-open}
use Rattle.host.proofs.FeedClaims.{untaken, taken}

-- a picture's turn at one kind
abbrev pub drops : Lasting → Slot → Slot
drops k s = holding s (replaced k s.held (kept_of k (held_of k s.held)))

module _ (k : Lasting) (s : Slot) where
  pub dropped : persistence_of k (value_of k (held_of k s.held)) ≡ 0 → drops k s ≡ holding s (replaced k s.held (none_of k))
  unfolding kept_of
  dropped p = rw (eq-eqb _ _ p)

  pub stayed : persistence_of k (value_of k (held_of k s.held)) ≢ 0 → drops k s ≡ s
  unfolding kept_of holding
  stayed p = rw (ne_eqb _ _ p, held_same k s.held)

-- after the five, one after the other
all-dropped : (s : Slot) → drops region_wise (drops rotation (drops equirectangular (drops orientation (drops frame_packing s)))) ≡ holding s (kept s.held)
unfolding kept holding
all-dropped s = refl

pub drop-by-drop : (s s₁ s₂ s₃ s₄ s₅ : Slot) → s₁ ≡ drops frame_packing s → s₂ ≡ drops orientation s₁ → s₃ ≡ drops equirectangular s₂ → s₄ ≡ drops rotation s₃ → s₅ ≡ drops region_wise s₄
    → s₅ ≡ holding s (kept s.held)
drop-by-drop s _ _ _ _ _ e₁ e₂ e₃ e₄ e₅ = rw (e₅, e₄, e₃, e₂, e₁) (all-dropped s)

-- the slot that code names for what stands past the eighth, from what it found there
abbrev pub default_of : (s : Slots) (n : ℕ) (d : Slot) → (get_or s.slots n d).«open» ≡ 1 → Slot
default_of s n d p = d

module _ (s : Slots) (n : ℕ) (d : Slot) (e : Eight s) (l : n < 8) where
  pub found : get_or s.slots n d ≡ slot_at s n
  found = slot-within s n d e l

  pub shut-here : (get_or s.slots n d).«open» ≢ 1 → is_open (slot_at s n) ≡ false
  unfolding is_open
  shut-here p = rw (← found) (ne_eqb _ _ p)

  pub open-here : (get_or s.slots n d).«open» ≡ 1 → is_open (slot_at s n) ≡ true
  unfolding is_open
  open-here p = rw (← found) (eq-eqb _ _ p)

  -- what lies there is lent and comes back as it was
  pub left : {y : Seen} {z : Slots × Seen} → ◌≡◌ {A = Slots × Seen} (s, y) z → ◌≡◌ {A = Slots × Seen} (record { slots = set s.slots n (get_or s.slots n d) }, y) z
  unfolding with_slot
  left {y} {z} q = subst (λ (x : Slot). ◌≡◌ {A = Slots × Seen} (with_slot s n x, y) z) (sym found) (ap (λ (t : Slots). (t, y)) (with-same s n) ∙ q)

  -- one of its records is replaced
  pub filled-here : (k : Lasting) (x : HeldOf k) {y : Seen} {z : Slots × Seen}
      → ◌≡◌ {A = Slots × Seen} (with_slot s n (holding (slot_at s n) (replaced k (slot_at s n).held x)), y) z
      → ◌≡◌ {A = Slots × Seen} (with_slot s n (holding (get_or s.slots n d) (replaced k (get_or s.slots n d).held x)), y) z
  filled-here k x {y} {z} q = subst (λ (h : Slot). ◌≡◌ {A = Slots × Seen} (with_slot s n (holding h (replaced k h.held x)), y) z) (sym found) q

  -- it is shown, and then each record is kept or dropped
  pub shown-here : (x : Slot) → x ≡ holding (get_or s.slots n d) (kept (get_or s.slots n d).held) → (get_or s.slots n d).«open» ≡ 1
      → ◌≡◌ {A = Slots × Seen} (with_slot s n x, pictured 0 (get_or s.slots n d).held) (c_step s (pictures n))
  shown-here x q p =
      rw q (subst (λ (h : Slot). ◌≡◌ {A = Slots × Seen} (with_slot s n (holding h (kept h.held)), pictured 0 h.held) (c_step s (pictures n))) (sym found) (pictures-open s n l (open-here p)))

-- r is what a payload of kind k fills, in parts: where its mark is 0 the slot stays, and else its record of kind k is the new one
module _ (k : Lasting) (s : Slots) (n size : ℕ) (bytes : List ℕ) (d : Slot) (e : Eight s) (l : n < 8) (p : (get_or s.slots n d).«open» ≡ 1) {F : Type 0} (parts : F → Reply × (ℕ × HeldOf k)) {r g : F} (q : r ≡ g) where
  pub fills-nothing : parts g ≡ filling k size bytes → (parts r).1.0 ≡ 0
      → ◌≡◌ {A = Slots × Seen} (with_slot s n (get_or s.slots n d), fed (parts r).0.number (parts r).0.extension) (c_step s (feeds n (number (kind_of k)) size bytes))
  unfolding with_slot
  fills-nothing f y = left s n d e l (untaken k s n size bytes l (open-here s n d e l p) parts q f (rw (eq-eqb _ _ y) tt))

  pub fills : parts g ≡ filling k size bytes → (parts r).1.0 ≢ 0
      → ◌≡◌ {A = Slots × Seen} (with_slot s n (holding (get_or s.slots n d) (replaced k (get_or s.slots n d).held (parts r).1.1)), fed (parts r).0.number (parts r).0.extension)
      (c_step s (feeds n (number (kind_of k)) size bytes))
  fills f y = filled-here s n d e l k (parts r).1.1 (taken k s n size bytes l (open-here s n d e l p) parts q f (rw (ne_eqb _ _ y) tt))
