-- Two codings of one format: alike, where what is handed out is the same, element by element; varied as demand 3 allows, in ignored bits and
-- in reserved guard band codes; and the plain one among those that are alike, which is the one that is written.
use Rattle.std.specs.Prelude.{ℕ, ◌≡◌, Bool, true, List, [], ◌++◌}
use Rattle.bits.specs.Coding.{CodedShape}
use Rattle.format.specs.Format.{Element, silent, handed, Format, done, read, asks}

-- w and v each start with a code of the element, the two are as Own allows, and so it is of the rests
pub record Both (e : Element) (Own : List Bool → List Bool → ℕ → Type 0) (Rest : ℕ → List Bool → List Bool → Type 0) (w v : List Bool) : Type 0 where
  pub code : ℕ
  pub own : List Bool
  pub rest : List Bool
  pub own' : List Bool
  pub rest' : List Bool
  pub split : w ≡ own ++ rest
  pub split' : v ≡ own' ++ rest'
  pub element : CodedShape e.shape own code
  pub allowed : Own own own' code
  pub follows : Rest (handed e code) rest rest'

-- the bits v are a code of the element for which the same is handed out as for c
pub record Says (e : Element) (v : List Bool) (c : ℕ) : Type 0 where
  pub code : ℕ
  pub element : CodedShape e.shape v code
  pub same : handed e code ≡ handed e c

abbrev pub Alike : {R A : Type 0} → Format R A → List Bool → List Bool → Type 0
Alike (done a) w v = (w ≡ []) × (v ≡ [])
Alike (read e g k) w v = Both e (λ own own' c. Says e own' c) (λ m rest rest'. Alike (k m) rest rest') w v
Alike (asks t f) w v = Alike f w v

-- The bits v may stand in place of an element's bits w, the code of c: they are the same; or both are codes that say nothing, as ignored bits all
-- are, and guard band types from 4 on.
pub data Varied (e : Element) (w v : List Bool) (c : ℕ) : Type 0 where
  same : v ≡ w → Varied e w v c
  silent-both : (d : ℕ) → CodedShape e.shape v d → silent e c ≡ true → silent e d ≡ true → Varied e w v c

-- v is w, varied element by element
abbrev pub Variation : {R A : Type 0} → Format R A → List Bool → List Bool → Type 0
Variation (done a) w v = (w ≡ []) × (v ≡ [])
Variation (read e g k) w v = Both e (λ own own' c. Varied e own own' c) (λ m rest rest'. Variation (k m) rest rest') w v
Variation (asks t f) w v = Variation f w v

-- each code of w is the number that is handed out for it: ignored bits are 0, and guard band types are below 4
pub record PlainThen (e : Element) (Rest : ℕ → List Bool → Type 0) (w : List Bool) : Type 0 where
  pub code : ℕ
  pub own : List Bool
  pub rest : List Bool
  pub split : w ≡ own ++ rest
  pub element : CodedShape e.shape own code
  pub plain : handed e code ≡ code
  pub follows : Rest (handed e code) rest

abbrev pub Plain : {R A : Type 0} → Format R A → List Bool → Type 0
Plain (done a) w = Unit {0}
Plain (read e g k) w = PlainThen e (λ m rest. Plain (k m) rest) w
Plain (asks t f) w = Plain f w
