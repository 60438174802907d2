-- The digits of a text from a place on: one more of them is one step of the definition.
-- Assumes nothing.
use Rattle.std.proofs.Common.{ℕ, ◌≡◌, ◌+◌, ◌<◌, ◌≤◌, List, [], ◌∷◌, length, drop, get_or, drop_of_length-le, add-one, refl, arith}
use Rattle.std.specs.Prelude.{Ok, Err}
use lib.Seq.{drop-cons}
use Rattle.words.specs.declared.number.NumberError.TheVariants.{Empty}
use Rattle.words.specs.Number.{with_digit, onward, digits, number_of}

pub begun : (s : List ℕ) → (length s ≡ 0 → ⊥) → digits (drop 0 s) 0 ≡ number_of s
unfolding number_of
begun [] h = absurd (h refl)
begun (b ∷ s) h = refl

pub ahead : (s : List ℕ) (v i : ℕ) → i < length s → digits (drop i s) v ≡ onward (with_digit v (get_or s i 0)) (digits (drop (i + 1) s))
unfolding digits
ahead s v i h = rw (add-one, drop-cons s i 0)

pub over : (s : List ℕ) (v i : ℕ) → length s ≤ i → digits (drop i s) v ≡ Ok v
unfolding digits
over s v i h = rw (drop_of_length-le s h)

pub empty : (s : List ℕ) → length s ≡ 0 → Err Empty ≡ number_of s
unfolding number_of
empty [] h = refl
empty (b ∷ s) h = absurd (omega arith)

-- what the goals of `number` want
pub ruleset steps = (empty, begun, ahead, over)
