-- The words of a text, which are apart by spaces, and the numbers that they spell.
use Rattle.std.specs.Prelude.{ℕ, Bool, true, false, List, [], ◌∷◌, take, drop, ◌==◌, Result, Ok, Err, if◌then◌else◌}
use Rattle.words.specs.Place.{index_of, led}
use Rattle.words.specs.Number.{number_of}
use Rattle.words.specs.declared.number.NumberError.{NumberError}
use Rattle.words.specs.declared.number.NumberError.TheVariants.{Empty, Foreign, Large}
use Rattle.script.specs.declared.wrong.Why.{Why}
use Rattle.script.specs.declared.wrong.Why.TheVariants as why
use Rattle.script.specs.declared.wrong.Wrong.{Wrong}

-- whether two texts are the same
unfoldable pub alike : List ℕ → List ℕ → Bool
alike [] [] = true
alike [] (y ∷ b) = false
alike (x ∷ a) [] = false
alike (x ∷ a) (y ∷ b) = if x == y then alike a b else false

-- what stands before the first space
unfoldable pub first_of : List ℕ → List ℕ
first_of s = take (index_of 32 s) s

-- what stands after it, without the spaces between
unfoldable pub rest_of : List ℕ → List ℕ
rest_of s = led (drop (index_of 32 s) s)

-- what there is, or why there is nothing, whichever word is wrong
abbrev pub told : {A : Type 0} → Result A Wrong → Result A Why
told (Ok a) = Ok a
told (Err w) = Err w.why

-- f of what there is; what is wrong stays
abbrev pub onward : {A B : Type 0} → Result A Why → (A → Result B Why) → Result B Why
onward (Ok a) f = f a
onward (Err e) f = Err e

-- the number that is spelled; `missing` is wrong where nothing is
abbrev pub number_or : Why → Result ℕ NumberError → Result ℕ Why
number_or missing (Ok n) = Ok n
number_or missing (Err Empty) = Err missing
number_or missing (Err Foreign) = Err why.NoNumber
number_or missing (Err Large) = Err why.Large

-- the number that the first word of a text spells
abbrev pub argument_of : Why → List ℕ → Result ℕ Why
argument_of missing s = number_or missing (number_of (first_of s))

-- a number that something follows is none
abbrev pub alone : List ℕ → ℕ → Result ℕ Why
alone [] n = Ok n
alone (x ∷ more) n = Err why.TooMuch

-- the number that the only word of a text spells
unfoldable pub last_of : Why → List ℕ → Result ℕ Why
last_of missing s = onward (argument_of missing s) (alone (rest_of s))
