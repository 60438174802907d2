-- The words of a text, as the code finds them, and what it means that two texts are the same.
-- Assumes nothing.
use Rattle.std.proofs.Common.{◌≡◌, ℕ, ◌+◌, ◌-◌, ◌≤◌, Bool, true, false, eqb, List, [], ◌∷◌, length, take, drop, sym, refl, ap, ◌∙◌, arith, length-drop, take_all, drop-drop, eq-eqb, eqb-true}
use lib.Seq.{take-length}
use lib.Pointwise.{pointwise, bytes_decides}
use Rattle.std.specs.Prelude.{if◌then◌else◌}
use Rattle.words.specs.Place.{index_of, slice, run, led}
use Rattle.script.specs.Words.{alike, first_of, rest_of}

-- ---- words

pub found_from : (s : List ℕ) (b at e : ℕ) → e ≡ at + index_of b (slice at (length s) s) → e ≡ at + index_of b (drop at s)
found_from s b at e p = rw (take-length s) at p

found : (s : List ℕ) (b e : ℕ) → e ≡ 0 + index_of b (slice 0 (length s) s) → e ≡ index_of b s
found s b e p = omega (arith, found_from s b 0 e p)

pub first-of : (s : List ℕ) (e : ℕ) → e ≡ 0 + index_of 32 (slice 0 (length s) s) → take e s ≡ first_of s
unfolding first_of
first-of s e p = ap (λ (k : ℕ). take k s) (found s 32 e p)

pub rest-of : (s : List ℕ) (e f : ℕ) → e ≡ 0 + index_of 32 (slice 0 (length s) s) → f ≡ e + run 32 (drop e s) → take (length s - f) (drop f s) ≡ rest_of s
unfolding rest_of
rest-of s e f p q =
    let l : length (drop f s) ≤ length s - f = omega (arith, length-drop f s) in
    take_all (length s - f) (drop f s) l
    ∙ ap (λ (k : ℕ). drop k s) q
    ∙ sym (drop-drop (run 32 (drop e s)) e s)
    ∙ ap (λ (k : ℕ). led (drop k s)) (found s 32 e p)

-- ---- the same text

alike_refl : (a : List ℕ) → alike a a ≡ true
unfolding alike
alike_refl [] = refl
alike_refl (x ∷ a) = rw (eq-eqb x x refl) (alike_refl a)

heads : (x y : ℕ) (a b : List ℕ) (t : Bool) → eqb x y ≡ t → (alike a b ≡ true → a ≡ b) → (if t then alike a b else false) ≡ true → x ∷ a ≡ y ∷ b
heads x y a b true p same e =
    let h = eqb-true x y p in
    let l = same e in
    cc
heads x y a b false p same e = cc

alike_same : (a b : List ℕ) → alike a b ≡ true → a ≡ b
unfolding alike
alike_same [] [] e = refl
alike_same [] (y ∷ b) e = cc
alike_same (x ∷ a) [] e = cc
alike_same (x ∷ a) (y ∷ b) e = heads x y a b (eqb x y) refl (alike_same a b) e

apart : (t : Bool) (a b : List ℕ) → alike a b ≡ t → (a ≡ b → false ≡ true) → false ≡ t
apart true a b p differ = differ (alike_same a b p)
apart false a b p differ = refl

-- what a test for the same text answers
pub tested : (r : Bool) (a b : List ℕ) → (r ≡ true → a ≡ b) × (a ≡ b → r ≡ true) → r ≡ alike a b
tested true a b p = rw (p.0 refl) (sym (alike_refl b))
tested false a b p = apart (alike a b) a b refl p.1

pub by_pairs : (a b : List ℕ) → pointwise eqb a b ≡ alike a b
by_pairs a b = tested _ a b (bytes_decides a b)

-- what the goals on texts want
pub ruleset texts = (first-of, rest-of, by_pairs)
