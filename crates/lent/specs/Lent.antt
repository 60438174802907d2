-- What a call answers, and what it leaves of the slice that was lent to it.
use Rattle.std.specs.Prelude.{ℕ, List, ◌++◌, length, drop}

pub record Left (A : Type 0) : Type 0 where
  pub answer : A
  pub lent : List ℕ

abbrev pub left : {A : Type 0} → A → List ℕ → Left A
left answer lent = record { answer = answer; lent = lent }

-- what is written stands at the front, and the numbers past it stay
abbrev pub over : List ℕ → List ℕ → List ℕ
over written lent = written ++ drop (length written) lent
