-- The numbers of RULES 7, of a reading, of an element and of an end: each is given exactly when.
-- Assumes nothing.
use Prim.Native.Nat.{ℕ, ◌≤◌}
use mathlib.Core.Path.{◌≡◌, refl, ap}
use mathlib.Core.Logic.{◌↔◌}
use mathlib.Core.Bool.{Bool}
use mathlib.Core.List.{List}
use native.Mathlib.Omega.{arith}
use Rattle.bits.specs.Refusals.{refusal_number}
use Rattle.bits.specs.Out.{Out, taken, refused, number_in}
use Rattle.bits.specs.Coding.{Shape, Starts, BreaksOff, TooManyZeros}
use Rattle.bits.specs.Elements.{shape_front}
use Rattle.bits.specs.Tail.{ending_number, tail_of}
use Rattle.bits.specs.Ended.{Ended}
use Rattle.bits.specs.Tail.{Ending}
use Rattle.std.specs.Prelude.{Ok, Err}
use Rattle.bits.specs.declared.refusal.Refusal.{Refusal}
use Rattle.bits.specs.declared.refusal.Refusal.TheVariants.{Kind, Size, Short, Zeros, Rule, Regions, Tail, Slot, Table, Rows}
use Rattle.bits.proofs.Determined.{refusal-told}
use Rattle.bits.proofs.Reading.{front-taken, front-short, front-zeros, tail-permitted, tail-refused}

pub refused-some : (r : Refusal) → (1 ≤ refusal_number r) × (refusal_number r ≤ 10)
refused-some Kind = (omega arith, omega arith)
refused-some Size = (omega arith, omega arith)
refused-some Short = (omega arith, omega arith)
refused-some Zeros = (omega arith, omega arith)
refused-some Rule = (omega arith, omega arith)
refused-some Regions = (omega arith, omega arith)
refused-some Tail = (omega arith, omega arith)
refused-some Slot = (omega arith, omega arith)
refused-some Table = (omega arith, omega arith)
refused-some Rows = (omega arith, omega arith)

-- ---- of any reading

pub number-taken : {A : Type 0} (o : Out A) → (number_in o ≡ 0) ↔ ((a : A) × (q : ℕ) × (o ≡ taken a q))
number-taken (taken a q) = (λ e. (a, q, refl), λ t. refl)
number-taken (refused r) = (λ e. absurd (omega (arith, (refused-some r).0)), λ t. ap number_in t.2)

pub number-refused : {A : Type 0} (o : Out A) (r : Refusal) → (number_in o ≡ refusal_number r) ↔ (o ≡ refused r)
number-refused (taken a q) r = (λ e. absurd (omega (arith, (refused-some r).0)), λ t. ap number_in t)
number-refused (refused w) r = (λ e. ap refused (refusal-told w r e), λ t. ap number_in t)

-- ---- of an element at the front of what is left

module _ (h : Shape) (w : List Bool) where
  pub element-0 : (number_in (shape_front h w) ≡ 0) ↔ ((c : ℕ) × (n : ℕ) × Starts h w c n)
  element-0 = (
    λ e. let t = (number-taken (shape_front h w)).0 e in (t.0, t.1, (front-taken h w t.0 t.1).0 t.2),
    λ t. ap number_in ((front-taken h w t.0 t.1).1 t.2),
  )

  pub element-3 : (number_in (shape_front h w) ≡ 3) ↔ BreaksOff h w
  element-3 = (λ e. (front-short h w).0 ((number-refused (shape_front h w) Short).0 e), λ d. ap number_in ((front-short h w).1 d))

  pub element-4 : (number_in (shape_front h w) ≡ 4) ↔ TooManyZeros h w
  element-4 = (λ e. (front-zeros h w).0 ((number-refused (shape_front h w) Zeros).0 e), λ d. ap number_in ((front-zeros h w).1 d))

-- ---- of what is left after a message

ending-extension : (x : Ending) → ending_number x ≡ 0 → (e : ℕ) × (x ≡ Ok e)
ending-extension (Ok e) z = (e, refl)
ending-extension (Err r) z = absurd (omega (arith, (refused-some r).0))

ending-tail : (x : Ending) → ending_number x ≡ 7 → x ≡ Err Tail
ending-tail (Ok e) z = absurd (omega arith)
ending-tail (Err r) z = ap Err (refusal-told r Tail z)

module _ (w : List Bool) where
  pub ending-0 : (ending_number (tail_of w) ≡ 0) ↔ ((e : ℕ) × Ended w e)
  ending-0 = (
    λ z. let x = ending-extension (tail_of w) z in (x.0, (tail-permitted w x.0).0 x.1),
    λ x. ap ending_number ((tail-permitted w x.0).1 x.1),
  )

  pub ending-7 : (ending_number (tail_of w) ≡ 7) ↔ ((e : ℕ) → Ended w e → ⊥)
  ending-7 = (λ z. (tail-refused w).0 (ending-tail (tail_of w) z), λ d. ap ending_number ((tail-refused w).1 d))
