-- These bits are this message: what a format says of bits, and nothing of how they are read.
use Rattle.std.specs.Prelude.{ℕ, ◌≡◌, Bool, List, [], ◌++◌}
use Rattle.bits.specs.Refusals.{fine}
use Rattle.bits.specs.Coding.{CodedShape}
use Rattle.format.specs.Format.{Element, handed, verdict, Format, done, read, asks}

-- w starts with a code of an element that its rule finds fine, and so it is of the rest
pub record CodedThen (e : Element) (Rest : ℕ → List Bool → Type 0) (w : List Bool) : Type 0 where
  pub code : ℕ
  pub own : List Bool
  pub rest : List Bool
  pub split : w ≡ own ++ rest
  pub element : CodedShape e.shape own code
  pub judged : verdict e code ≡ fine
  pub follows : Rest (handed e code) rest

-- the bits w are the message x
abbrev pub Coded : {R A : Type 0} → Format R A → List Bool → A → Type 0
Coded (done a) w x = (w ≡ []) × (a ≡ x)
Coded (read e g k) w x = CodedThen e (λ m rest. Coded (k m) rest x) w
Coded (asks t f) w x = Coded f w x
