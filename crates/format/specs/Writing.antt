-- Writing by a format: the bits of a record's numbers, element by element; or why there are none.
use Rattle.std.specs.Prelude.{ℕ, zero, suc, ◌-◌, ◌/◌, ◌%◌, ◌^◌, Bool, true, false, ◌&&◌, List, [], ◌∷◌, ◌++◌, replicate, leb, ltb, eqb, if◌then◌else◌}
use Rattle.bits.specs.Refusals.{Breach, Verdict, fine, against}
use Rattle.bits.specs.Coding.{Shape, unsigned, exp_golomb}
use Rattle.format.specs.Format.{Element, handed, verdict, Format, done, read, asks}

-- ---- the code of a number

-- c in n bits
unfoldable pub digits : ℕ → ℕ → List Bool
digits zero c = []
digits (suc n) c = eqb (c / 2 ^ n) 1 ∷ digits n (c % 2 ^ n)

-- the largest z, at most k, with 2 ^ z at most c
unfoldable pub log : ℕ → ℕ → ℕ
log zero c = 0
log (suc k) c = if leb (2 ^ suc k) c then suc k else log k c

unfoldable pub code : Shape → ℕ → List Bool
code (unsigned n) c = digits n c
code exp_golomb c = replicate (log 31 (suc c)) false ++ true ∷ digits (log 31 (suc c)) (suc c - 2 ^ log 31 (suc c))

-- which numbers have one
abbrev pub fits : Shape → ℕ → Bool
fits (unsigned n) c = ltb c (2 ^ n)
fits exp_golomb c = ltb (suc c) (2 ^ 32)

-- ---- what writing comes to: the bits, with what reading them gives; a number that cannot stand where it stands; or one against a rule

pub data Penned (A : Type 0) : Type 0 where
  penned : List Bool → A → Penned A
  unfit : Penned A
  broken : Breach → Penned A

abbrev pub behind : {A : Type 0} → List Bool → Penned A → Penned A
behind own (penned w a) = penned (own ++ w) a
behind own unfit = unfit
behind own (broken x) = broken x

abbrev pub onward : {A : Type 0} → Penned ℕ → (ℕ → Penned A) → Penned A
onward (penned own m) k = behind own (k m)
onward unfit k = unfit
onward (broken x) k = broken x

abbrev pub allowed : Verdict → List Bool → ℕ → Penned ℕ
allowed fine own m = penned own m
allowed (against x) own m = broken x

abbrev pub fitting : {A : Type 0} → Bool → Penned A → Penned A
fitting true p = p
fitting false p = unfit

-- a number is written as its own code, if it has one and is what is handed out for it; that is judged before the rule
abbrev pub pen_element : Element → ℕ → Penned ℕ
pen_element e v = fitting (fits e.shape v && eqb (handed e v) v) (allowed (verdict e v) (code e.shape v) v)

unfoldable pub pen : {R A : Type 0} → Format R A → R → Penned A
pen (done a) r = penned [] a
pen (read e g k) r = onward (pen_element e (g r)) (λ m. pen (k m) r)
pen (asks t f) r = fitting (t r) (pen f r)
