-- Where a character is found: what a search of a list answers, and how far that lies from the place from which the list was cut.
-- Assumes nothing.
use Rattle.std.proofs.Common.{ℕ, suc, ◌+◌, ◌<◌, ◌≤◌, ◌≡◌, ◌∙◌, List, [], ◌∷◌, length, get_or, cond, eqb, Bool, true, false, refl, ap, arith, Option, Some, None, MatchOption}
use lib.ListN.{drop_of_length-le}
use lib.Seq.{take-length}
use Rattle.std.specs.Prelude.{if◌then◌else◌}
use Rattle.std.proofs.lemmas.Bool.{false_from_ne_true}
use Rattle.std.proofs.lemmas.List.Recursion.{is_position_or_len}
use Rattle.std.proofs.lemmas.List.Sums.{position_or_len_is}
use Rattle.memchr.specs.Find.{IsFirstByte, is_byte}
use Rattle.words.specs.Place.{index_of, slice}

step : (t : Bool) (n : ℕ) → (if t then 0 else suc n) ≡ cond t 0 (1 + n)
step true n = refl
step false n = omega arith

nothing : (b : ℕ) → index_of b [] ≡ 0
unfolding index_of
nothing b = refl

onward : (b x : ℕ) (xs : List ℕ) → index_of b (x ∷ xs) ≡ cond (eqb x b) 0 (1 + index_of b xs)
unfolding index_of
onward b x xs = step (eqb x b) (index_of b xs)

at_first : (b : ℕ) (l : List ℕ) (i : ℕ) → i ≤ length l → ((k : ℕ) → k < i → eqb (get_or l k 0) b ≡ false) → (i < length l → eqb (get_or l i 0) b ≡ true) → index_of b l ≡ i
at_first b l i h before here =
    is_position_or_len (index_of b) (λ x. eqb x b) (nothing b) (onward b) l ∙ position_or_len_is (λ x. eqb x b) l i 0 h before here

-- a search of the list answers r, and n is the place that this comes to, as far past `from` as it says; the list's end where b is not there
pub found : (b from n : ℕ) (l : List ℕ) (r : Option ℕ) → IsFirstByte (is_byte b) l r → MatchOption r (n ≡ from + length l) (λ k. n ≡ from + k) → n ≡ from + index_of b l
found b from n l None h e =
    let i = at_first b l (length l) (omega arith) (λ k lt. false_from_ne_true _ (h k (omega arith) lt)) (λ lt. absurd (omega arith)) in
    omega (arith, e, i)
found b from n l (Some k) h e =
    let i = at_first b l k (omega (arith, h.0.high)) (λ j lt. false_from_ne_true _ (h.0.before j (omega arith) lt)) (λ lt. h.1) in
    omega (arith, e, i)

-- past the end nothing is found
pub found-over : (b : ℕ) (s : List ℕ) (i : ℕ) → length s ≤ i → i + index_of b (slice i (length s) s) ≡ i
found-over b s i h =
    let e : index_of b (slice i (length s) s) ≡ 0 = rw take-length (ap (index_of b) (drop_of_length-le s h) ∙ nothing b) in
    omega (arith, e)
