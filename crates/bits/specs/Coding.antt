-- How an element is coded, said without reading: which bits are the code of which number.
use Rattle.std.specs.Prelude.{ℕ, ◌+◌, ◌-◌, ◌^◌, ◌<◌, ◌≡◌, Bool, true, false, List, ◌∷◌, ◌++◌, length, replicate}
use Rattle.bits.specs.Bits.{unsigned_of}

-- the two ways in which bits say a number: u(n) and ue(v)
pub data Shape : Type 0 where
  unsigned : ℕ → Shape
  exp_golomb : Shape

-- u(n): the code of c is the n bits that make c
pub record CodedUnsigned (n : ℕ) (w : List Bool) (c : ℕ) : Type 0 where
  pub long : length w ≡ n
  pub says : unsigned_of w ≡ c

-- ue(v): z zero bits, at most 31, a one, then z bits of number x; its meaning is 2 ^ z - 1 + x
pub record CodedExpGolomb (w : List Bool) (c : ℕ) : Type 0 where
  pub zeros : ℕ
  pub last : List Bool
  pub few : zeros < 32
  pub long : length last ≡ zeros
  pub split : w ≡ replicate zeros false ++ true ∷ last
  pub says : 2 ^ zeros - 1 + unsigned_of last ≡ c

-- the bits w are the code of c
abbrev pub CodedShape : Shape → List Bool → ℕ → Type 0
CodedShape (unsigned n) w c = CodedUnsigned n w c
CodedShape exp_golomb w c = CodedExpGolomb w c

-- the bits w start with the code of c, which is their first n bits
pub record Starts (h : Shape) (w : List Bool) (c n : ℕ) : Type 0 where
  pub own : List Bool
  pub rest : List Bool
  pub split : w ≡ own ++ rest
  pub coded : CodedShape h own c
  pub long : length own ≡ n

-- the payload breaks off inside an element: w, all that is left of it, is the beginning of a code, and some of the code is lacking
pub record BreaksOff (h : Shape) (w : List Bool) : Type 0 where
  pub code : ℕ
  pub lacking : List Bool
  pub some : 0 < length lacking
  pub coded : CodedShape h (w ++ lacking) code

-- the 32 zeros of a ue(v) stand there
abbrev pub TooManyZeros : Shape → List Bool → Type 0
TooManyZeros (unsigned n) w = ⊥
TooManyZeros exp_golomb w = (rest : List Bool) × (w ≡ replicate 32 false ++ rest)
