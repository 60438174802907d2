-- What the layers above know of the slots: of one slot and the calls on it, of reading and replacing one of the eight, and of a call on one
-- that is lifted to the eight: its answer, what it leaves at its slot, that it leaves the others, and where it is refused.
-- Assumes nothing.
use Prim.Native.Nat.{ℕ, zero, suc, ◌≤◌, ◌<◌}
use native.Mathlib.Omega.{arith}
use mathlib.Core.Bool.{Bool, true, false}
use mathlib.Core.Path.{◌≡◌, refl, sym, ap, ◌∙◌}
use mathlib.Core.Logic.{◌≢◌, ◌↔◌, ◌⊎◌, inl, inr, ⊎_elim}
use lib.ListN.{length-set, get_or, set, replicate, get_or-eq_default}
use lib.Seq.{get_or-set_same, get_or-set_other, set-get_or}
use borrow.Author.Tests.{lt-ltb, le-ltb}
use Rattle.bits.proofs.BitLaws.{below}
use Rattle.std.specs.Prelude.{if◌then◌else◌}
use Rattle.held.specs.Held.{nothing, kept}
use Rattle.slots.specs.Slots.{Answer, done, call_number, refused, fresh_slot, closed_slot, is_open, holding, when_open, opening, closing, sequencing, picturing, start, Eight, slot_at, with_slot, lifted, Shut, ButFor}
use Rattle.held.specs.declared.Held.{Held}
use Rattle.slots.specs.declared.Slot.{Slot}
use Rattle.slots.specs.declared.Slots.{Slots}
use Rattle.slots.proofs.Entries.{get_or-in}

-- ---- one slot

pub fresh-open : is_open fresh_slot ≡ true
unfolding is_open fresh_slot
fresh-open = refl

pub fresh_holds : fresh_slot.held ≡ nothing
unfolding fresh_slot
fresh_holds = refl

pub closed-shut : is_open closed_slot ≡ false
unfolding is_open closed_slot
closed-shut = refl

pub closed-holds : closed_slot.held ≡ nothing
unfolding closed_slot
closed-holds = refl

pub holding-open : (x : Slot) (h : Held) → is_open (holding x h) ≡ is_open x
unfolding is_open holding
holding-open x h = refl

pub holding-holds : (x : Slot) (h : Held) → (holding x h).held ≡ h
unfolding holding
holding-holds x h = refl

pub holding-same : (x : Slot) → holding x x.held ≡ x
unfolding holding
holding-same x = refl

pub apart : {b : Bool} → b ≡ true → b ≡ false → ⊥
apart t f = let z : ◌≡◌ {A = ℕ} 0 1 = cc in omega arith

-- a call on a slot that must be open: either it is, or the slot stays and the call is refused
module _ {A : Type 0} (x : Slot) (shut : A) (acted : Slot × A) where
  pub where-open : is_open x ≡ true → when_open x shut acted ≡ acted
  where-open o = rw o

  pub where-shut : is_open x ≡ false → when_open x shut acted ≡ (x, shut)
  where-shut o = rw o

  pub either : (P : Slot × A → Type 0) → (is_open x ≡ true → P acted) → (is_open x ≡ false → P (x, shut)) → P (when_open x shut acted)
  either P f g = go (is_open x) refl
    where
      go : (b : Bool) → is_open x ≡ b → P (if b then acted else (x, shut))
      go true o = f o
      go false o = g o

-- ---- reading a slot and replacing it

pub slot-past : (s : Slots) (n : ℕ) → Eight s → 8 ≤ n → slot_at s n ≡ closed_slot
unfolding slot_at
slot-past s n e h = get_or-eq_default s.slots closed_slot (omega arith)

-- what code reads of one of the eight, which names some slot d for what stands past them
pub slot-within : (s : Slots) (n : ℕ) (d : Slot) → Eight s → n < 8 → get_or s.slots n d ≡ slot_at s n
unfolding slot_at
slot-within s n d e h = get_or-in s.slots n d closed_slot (omega arith)

slot-with : (s : Slots) (n : ℕ) (x : Slot) → Eight s → n < 8 → slot_at (with_slot s n x) n ≡ x
unfolding slot_at with_slot
slot-with s n x e h = get_or-set_same s.slots n x closed_slot (omega arith)

slot-with-other : (s : Slots) (n m : ℕ) (x : Slot) → m ≢ n → slot_at (with_slot s n x) m ≡ slot_at s m
unfolding slot_at with_slot
slot-with-other s n m x h = get_or-set_other s.slots n m x closed_slot h

with-eight : (s : Slots) (n : ℕ) (x : Slot) → Eight s → Eight (with_slot s n x)
unfolding with_slot
with-eight s n x e = length-set s.slots n x ∙ e

pub with-same : (s : Slots) (n : ℕ) → with_slot s n (slot_at s n) ≡ s
unfolding with_slot slot_at
with-same s n = ap (λ xs. record { slots = xs }) (set-get_or s.slots n closed_slot)

pub start-eight : Eight start
unfolding start
start-eight = refl

replicate-all : (k n : ℕ) (x : Slot) → get_or (replicate k x) n x ≡ x
replicate-all zero n x = refl
replicate-all (suc k) zero x = refl
replicate-all (suc k) (suc n) x = replicate-all k n x

pub start-closed : (n : ℕ) → slot_at start n ≡ closed_slot
unfolding slot_at start
start-closed n = replicate-all 8 n closed_slot

pub shut-past : (s : Slots) (n : ℕ) → Eight s → 8 ≤ n → is_open (slot_at s n) ≡ false
shut-past s n e h = rw (slot-past s n e h) closed-shut

pub shut-off : (s : Slots) (n : ℕ) → Eight s → Shut s n → is_open (slot_at s n) ≡ false
shut-off s n e h = ⊎_elim (shut-past s n e) (λ o. o) h

-- ---- a call on one slot, lifted to the eight

module _ {A : Type 0} (call : Slot → Slot × A) (missing : A) (s : Slots) (n : ℕ) where
  pub lifted-within : n < 8 → lifted call missing s n ≡ (with_slot s n (call (slot_at s n)).0, (call (slot_at s n)).1)
  unfolding lifted
  lifted-within h = rw (lt-ltb n 8 h)

  pub lifted-past : 8 ≤ n → lifted call missing s n ≡ (s, missing)
  unfolding lifted
  lifted-past h = rw (le-ltb n 8 h)

  -- at its slot it is the call on that slot alone
  pub lifted_own : Eight s → n < 8 → ◌≡◌ {A = Slot × A} (slot_at (lifted call missing s n).0 n, (lifted call missing s n).1) (call (slot_at s n))
  lifted_own e h = rw (lifted-within h, slot-with s n (call (slot_at s n)).0 e h)

  -- it changes no other
  pub lifted-but-for : ButFor n s (lifted call missing s n).0
  lifted-but-for = go (below n 8)
    where
      go : (n < 8) ⊎ (8 ≤ n) → ButFor n s (lifted call missing s n).0
      go (inl h) = rw (lifted-within h) (record { eight = with-eight s n (call (slot_at s n)).0; others = λ m. slot-with-other s n m (call (slot_at s n)).0 })
      go (inr h) = rw (lifted-past h) (record { eight = λ e. e; others = λ m d. refl })

  -- and none at all where it leaves its own as it was
  pub lifted-same : (call (slot_at s n)).0 ≡ slot_at s n → (lifted call missing s n).0 ≡ s
  lifted-same q = go (below n 8)
    where
      go : (n < 8) ⊎ (8 ≤ n) → (lifted call missing s n).0 ≡ s
      go (inl h) = rw (lifted-within h, q) (with-same s n)
      go (inr h) = rw (lifted-past h)

  -- its answer, where past the eighth it is that of a closed slot
  pub lifted-answer : Eight s → (call closed_slot).1 ≡ missing → (lifted call missing s n).1 ≡ (call (slot_at s n)).1
  lifted-answer e m = go (below n 8)
    where
      go : (n < 8) ⊎ (8 ≤ n) → (lifted call missing s n).1 ≡ (call (slot_at s n)).1
      go (inl h) = rw (lifted-within h)
      go (inr h) = rw (lifted-past h, slot-past s n e h) (sym m)

-- what code leaves that reads slot n, makes the call on it and stores what is left
pub lifted-stored : {A : Type 0} (call : Slot → Slot × A) (missing : A) (s : Slots) (n : ℕ) (d : Slot) (turned : Slot × A) → Eight s → n < 8
    → turned ≡ call (get_or s.slots n d) → (record { slots = set s.slots n turned.0 }, turned.1) ≡ lifted call missing s n
unfolding with_slot
lifted-stored call missing s n d turned e h q = rw (lifted-within call missing s n h, q, slot-within s n d e h)

-- the answer in other words, before it is lifted or after
pub lifted-said : {A B : Type 0} (say : A → B) (call : Slot → Slot × A) (missing : A) (s : Slots) (n : ℕ)
    → lifted (λ x. ((call x).0, say (call x).1)) (say missing) s n ≡ ((lifted call missing s n).0, say (lifted call missing s n).1)
lifted-said say call missing s n = go (below n 8)
  where
    go : (n < 8) ⊎ (8 ≤ n) → lifted (λ x. ((call x).0, say (call x).1)) (say missing) s n ≡ ((lifted call missing s n).0, say (lifted call missing s n).1)
    go (inl h) = rw (lifted-within (λ x. ((call x).0, say (call x).1)) (say missing) s n h, lifted-within call missing s n h)
    go (inr h) = rw (lifted-past (λ x. ((call x).0, say (call x).1)) (say missing) s n h, lifted-past call missing s n h)

-- ---- 8: there is no such slot or, but for opening, it is closed

pub opened-8 : (s : Slots) (n : ℕ) → (call_number (lifted opening refused s n).1 ≡ 8) ↔ (8 ≤ n)
opened-8 s n = go (below n 8)
  where
    go : (n < 8) ⊎ (8 ≤ n) → (call_number (lifted opening refused s n).1 ≡ 8) ↔ (8 ≤ n)
    go (inl h) = rw (lifted-within opening refused s n h) (λ q. absurd (omega arith), λ g. absurd (omega arith))
    go (inr h) = rw (lifted-past opening refused s n h) (λ q. h, λ g. refl)

-- of any call on a slot that must be open, by any number that tells its refusal from what it answers else
pub shut-8 : {A : Type 0} (number : A → ℕ) (shut : A) (acts : Slot → Slot × A) → number shut ≡ 8 → ((x : Slot) → number (acts x).1 ≢ 8)
    → (s : Slots) (n : ℕ) → Eight s → (number (lifted (λ x. when_open x shut (acts x)) shut s n).1 ≡ 8) ↔ Shut s n
shut-8 {A} number shut acts is not s n e = (to (below n 8), back)
  where
    call : Slot → Slot × A
    call x = when_open x shut (acts x)

    answered : (lifted call shut s n).1 ≡ (call (slot_at s n)).1
    answered = lifted-answer call shut s n e (ap (λ (w : Slot × A). w.1) (where-shut closed_slot shut (acts closed_slot) closed-shut))

    to : (n < 8) ⊎ (8 ≤ n) → number (lifted call shut s n).1 ≡ 8 → Shut s n
    to (inr h) q = inl h
    to (inl h) q = go (is_open (slot_at s n)) refl
      where
        go : (b : Bool) → is_open (slot_at s n) ≡ b → Shut s n
        go true o = absurd (not (slot_at s n) (ap (λ (w : Slot × A). number w.1) (sym (where-open (slot_at s n) shut (acts (slot_at s n)) o)) ∙ sym (ap number answered) ∙ q))
        go false o = inr o

    back : Shut s n → number (lifted call shut s n).1 ≡ 8
    back h = ap number answered ∙ ap (λ (w : Slot × A). number w.1) (where-shut (slot_at s n) shut (acts (slot_at s n)) (shut-off s n e h)) ∙ is

done-not-8 : call_number done ≢ 8
done-not-8 q = omega arith

pub closed-8 : (s : Slots) (n : ℕ) → Eight s → (call_number (lifted closing refused s n).1 ≡ 8) ↔ Shut s n
closed-8 = shut-8 call_number refused (λ x. (closed_slot, done)) refl (λ x. done-not-8)

pub sequenced-8 : (s : Slots) (n : ℕ) → Eight s → (call_number (lifted sequencing refused s n).1 ≡ 8) ↔ Shut s n
sequenced-8 = shut-8 call_number refused (λ x. (fresh_slot, done)) refl (λ x. done-not-8)

pub pictured-8 : (s : Slots) (n : ℕ) → Eight s → (call_number (lifted picturing (refused, nothing) s n).1.0 ≡ 8) ↔ Shut s n
pictured-8 = shut-8 (λ (w : Answer × Held). call_number w.0) (refused, nothing) (λ x. (holding x (kept x.held), (done, x.held))) refl (λ x. done-not-8)
