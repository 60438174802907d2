-- How payloads of a kind are formed.
use Rattle.std.specs.Prelude.{Bool}
use Rattle.format.specs.Format.{Format}

-- its table, whether its payloads can have a tail, and which of its messages are to be set aside
pub record Form (A : Type 0) : Type 0 where
  pub table : Format A A
  pub tailed : Bool
  pub aside : A → Bool
