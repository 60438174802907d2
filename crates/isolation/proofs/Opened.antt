-- A slot is open exactly where the last opening or closing call on it was an opening.
-- Assumes nothing.
use Prim.Native.Nat.{ℕ, ◌<◌}
use mathlib.Core.Path.{◌≡◌, refl, sym, ap, ◌∙◌}
use mathlib.Core.Bool.{Bool, true, false}
use mathlib.Core.List.{List, [], ◌∷◌}
use Rattle.slots.specs.Slots.{Eight, start, slot_at, is_open, when_open}
use Rattle.slots.specs.declared.Slot.{Slot}
use Rattle.slots.specs.declared.Slots.{Slots}
use Rattle.slots.proofs.Laws.{start-eight, start-closed, fresh-open, closed-shut, holding-open, either}
use Rattle.isolation.specs.Runs.{Call, opens, closes, sequences, pictures, feeds, tables, after, only, turn, ends}
use Rattle.isolation.specs.Opened.{open_after_call, open_after}
use Rattle.isolation.proofs.Isolation.{factors}

-- a call that acts only on an open slot
where-open : {A : Type 0} (x : Slot) (shut : A) (acted : Slot × A) (c : Bool) → (is_open x ≡ true → is_open acted.0 ≡ c) → (is_open x ≡ false → c ≡ false)
    → is_open (when_open x shut acted).0 ≡ c
where-open x shut acted c f g = either x shut acted (λ w. is_open w.0 ≡ c) f (λ o. o ∙ sym (g o))

one-call : (x : Slot) (c : Call) → is_open (turn x c).0 ≡ open_after_call (is_open x) c
one-call x (opens n) = fresh-open
one-call x (closes n) = where-open x _ _ false (λ o. closed-shut) (λ o. refl)
one-call x (sequences n) = where-open x _ _ (is_open x) (λ o. fresh-open ∙ sym o) (λ o. o)
one-call x (pictures n) = where-open x _ _ (is_open x) (λ o. holding-open x _) (λ o. o)
one-call x (feeds n kind size bytes) = where-open x _ _ (is_open x) (λ o. holding-open x _) (λ o. o)
one-call x (tables n lent) = where-open x _ _ (is_open x) (λ o. refl) (λ o. o)

-- of one slot alone
pub open-by-calls : (cs : List Call) (x : Slot) → is_open (ends x cs) ≡ open_after (is_open x) cs
open-by-calls [] x = refl
open-by-calls (c ∷ cs) x = open-by-calls cs (turn x c).0 ∙ ap (λ b. open_after b cs) (one-call x c)

-- of each of the eight, in a run from anywhere, and from the start
pub open-in-run : (k : ℕ) → k < 8 → (s : Slots) → Eight s → (cs : List Call) → is_open (slot_at (after s cs) k) ≡ open_after (is_open (slot_at s k)) (only k cs)
open-in-run k h s e cs = ap is_open (factors k h cs s e).1 ∙ open-by-calls (only k cs) (slot_at s k)

pub open-from-start : (k : ℕ) → k < 8 → (cs : List Call) → is_open (slot_at (after start cs) k) ≡ open_after false (only k cs)
open-from-start k h cs = open-in-run k h start start-eight cs ∙ ap (λ b. open_after b (only k cs)) (ap is_open (start-closed k) ∙ closed-shut)
