-- How often a character stands at the front of a list, in the library's words.
-- Assumes nothing.
use Rattle.std.proofs.Common.{ℕ, suc, ◌≡◌, ◌+◌, ◌∙◌, List, [], ◌∷◌, length, take, cond, eqb, Bool, true, false, refl, sym, arith}
use Rattle.std.specs.Prelude.{if◌then◌else◌}
use Rattle.std.specs.List.{prefix_len}
use Rattle.std.proofs.lemmas.List.Folds.{length-prefix_len}
use Rattle.words.specs.Place.{run}

step : (t : Bool) (n m : ℕ) → n ≡ m → (if t then suc n else 0) ≡ cond t (1 + m) 0
step true n m e = omega arith
step false n m e = refl

front : (b : ℕ) (l : List ℕ) → run b l ≡ prefix_len (λ x. eqb x b) l
unfolding run
front b [] = refl
front b (x ∷ rest) = step (eqb x b) _ _ (front b rest)

-- as many characters as are taken while they are b
pub counted : (b : ℕ) (l : List ℕ) → length (take (prefix_len (λ x. eqb x b) l) l) ≡ run b l
counted b l = length-prefix_len (λ x. eqb x b) l ∙ sym (front b l)
