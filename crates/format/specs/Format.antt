-- A message's syntax as a value: which elements stand one after another, where the number of each stands in a record, and what becomes of
-- them. Nothing here reads or writes.
use Rattle.std.specs.Prelude.{ℕ, Bool, true, false, ◌&&◌, eqb, if◌then◌else◌}
use Rattle.bits.specs.Refusals.{Verdict, fine}
use Rattle.bits.specs.Coding.{Shape, unsigned, exp_golomb}

-- An element: how its number is coded, which of its codes are reserved and so say nothing, and the rule that judges the others.
pub record Element : Type 0 where
  pub shape : Shape
  pub reserved : ℕ → Bool
  pub rule : ℕ → Verdict

-- only codes of one length are ever reserved
abbrev pub silent_in : Shape → (ℕ → Bool) → ℕ → Bool
silent_in (unsigned n) reserved c = reserved c
silent_in exp_golomb reserved c = false

abbrev pub silent : Element → ℕ → Bool
silent e c = silent_in e.shape e.reserved c

-- what is handed out for a code: itself, and 0 for one that says nothing
abbrev pub handed : Element → ℕ → ℕ
handed e c = if silent e c then 0 else c

-- what the element's rule says of a code; a code that says nothing is fine
abbrev pub verdict : Element → ℕ → Verdict
verdict e c = if silent e c then fine else e.rule c

-- A format of a record R: a value that is there without an element; an element, where its number stands in a record, and, for each number that is
-- handed out for it, the format of what follows; or what a record must have here to be written, which a reading passes over.
pub data Format (R A : Type 0) : Type 0 where
  done : A → Format R A
  read : Element → (R → ℕ) → (ℕ → Format R A) → Format R A
  asks : (R → Bool) → Format R A → Format R A

-- Formats are put together: `x ← f` in a do block.
infixl 20 ◌>>=◌ ◌>>◌
abbrev pub ◌>>=◌ : {R A B : Type 0} → Format R A → (A → Format R B) → Format R B
done a >>= g = g a
read e h k >>= g = read e h (λ m. k m >>= g)
asks b f >>= g = asks b (f >>= g)

abbrev pub ◌>>◌ : {R A B : Type 0} → Format R A → Format R B → Format R B
f >> g = f >>= (λ a. g)

-- a part of a record, by its own format
infixl 30 ◌of◌
abbrev pub ◌of◌ : {R S A : Type 0} → Format S A → (R → S) → Format R A
done a of h = done a
read e g k of h = read e (λ r. g (h r)) (λ m. k m of h)
asks b f of h = asks (λ r. b (h r)) (f of h)

-- what a format gives where each of its numbers is 0
abbrev pub zeros : {R A : Type 0} → Format R A → A
zeros (done a) = a
zeros (read e g k) = zeros (k 0)
zeros (asks b f) = zeros f

-- whether each of its numbers is 0 in a record
abbrev pub all_zero : {R A : Type 0} → Format R A → R → Bool
all_zero (done a) r = true
all_zero (read e g k) r = eqb (g r) 0 && all_zero (k 0) r
all_zero (asks b f) r = b r && all_zero f r
