-- What may follow a message, said of the bits: w is all that is left of the payload.
use Rattle.std.specs.Prelude.{ℕ, ◌<◌, ◌≡◌, ◌⊎◌, Bool, true, false, List, [], ◌∷◌, ◌++◌, length, replicate}

-- w is an extension of e bits, a one and fewer than eight zeros ..
pub record Tailed (w : List Bool) (e : ℕ) : Type 0 where
  pub extension : List Bool
  pub zeros : ℕ
  pub few : zeros < 8
  pub split : w ≡ extension ++ true ∷ replicate zeros false
  pub count : length extension ≡ e

-- .. or nothing is left, which counts as no extension
abbrev pub Ended : List Bool → ℕ → Type 0
Ended w e = ((w ≡ []) × (e ≡ 0)) ⊎ Tailed w e
