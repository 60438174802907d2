-- These bits stop a reading: why the bits of a payload are no message of a format, said of the bits.
use Rattle.std.specs.Prelude.{ℕ, ◌≡◌, ◌⊎◌, Bool, List, ◌++◌}
use Rattle.bits.specs.Refusals.{Breach, against, refusal_of}
use Rattle.bits.specs.Coding.{CodedShape, BreaksOff, TooManyZeros}
use Rattle.bits.specs.declared.refusal.Refusal.{Refusal}
use Rattle.bits.specs.declared.refusal.Refusal.TheVariants.{Short, Zeros}
use Rattle.format.specs.Format.{Element, verdict, Format, done, read, asks}
use Rattle.format.specs.Coded.{CodedThen}

-- w starts with a code of an element that its rule speaks against
pub record Breaks (e : Element) (w : List Bool) (x : Breach) : Type 0 where
  pub code : ℕ
  pub own : List Bool
  pub rest : List Bool
  pub split : w ≡ own ++ rest
  pub element : CodedShape e.shape own code
  pub said : verdict e code ≡ against x

-- at the element: 3 where the payload breaks off in it, 4 where its 32 zeros stand, 5 or 6 where its rule says so
pub data StoppedHere (e : Element) (w : List Bool) : Refusal → Type 0 where
  short : BreaksOff e.shape w → StoppedHere e w Short
  zeros : TooManyZeros e.shape w → StoppedHere e w Zeros
  rule : {x : Breach} → Breaks e w x → StoppedHere e w (refusal_of x)

-- w, all that is left of the payload, is stopped at this element, or this one is coded and fine and w is stopped later
abbrev pub Stopped : {R A : Type 0} → Format R A → List Bool → Refusal → Type 0
Stopped (done a) w r = ⊥
Stopped (read e g k) w r = StoppedHere e w r ⊎ CodedThen e (λ m rest. Stopped (k m) rest r) w
Stopped (asks t f) w r = Stopped f w r
