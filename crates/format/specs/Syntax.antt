-- The words in which the tables of the messages are written: u(n), ue(v), b(8), i(32), bytes, ignored bits, guard band types, rules, parts that
-- may be absent, and lists. An element of a table is one line: its name, its descriptor, its rule if it has one, and where its number stands.
use Rattle.std.specs.Prelude.{ℕ, zero, suc, ◌+◌, ◌-◌, ◌*◌, Bool, true, false, ◌&&◌, ◌||◌, List, [], ◌∷◌, ◌++◌, length, replicate, drop, get_or, leb, eqb, ℤ, if◌then◌else◌}
use Rattle.std.specs.Int.Signed.{le_z}
use Rattle.bits.specs.Refusals.{Breach, broken, Verdict, fine, against}
use Rattle.bits.specs.Coding.{unsigned, exp_golomb}
use Rattle.bits.specs.Signed.{signed_of, twos_of}
use Rattle.bits.specs.Identifier.{bytes_of}
use Rattle.format.specs.Format.{Element, Format, done, read, asks, ◌>>=◌, ◌of◌, zeros, all_zero}

-- ---- elements

-- no code is reserved; every code is; and the rule that finds every code fine
abbrev pub none : ℕ → Bool
none c = false

abbrev pub every : ℕ → Bool
every c = true

abbrev pub any : ℕ → Verdict
any c = fine

abbrev pub u : ℕ → Element
u n = record { shape = unsigned n; reserved = none; rule = any }

abbrev pub ue : Element
ue = record { shape = exp_golomb; reserved = none; rule = any }

-- a byte
abbrev pub b : ℕ → Element
b n = u n

-- a guard band type, u(3): the codes 4 to 7 are reserved
abbrev pub guard_type : Element
guard_type = record { shape = unsigned 3; reserved = leb 4; rule = any }

-- an element whose number stands there in a record
infixl 40 ◌at◌
abbrev pub ◌at◌ : {R : Type 0} → Element → (R → ℕ) → Format R ℕ
e at g = read e g done

-- n bits that are ignored, and written as 0
abbrev pub ignored_bits : ℕ → Element
ignored_bits n = record { shape = unsigned n; reserved = every; rule = any }

abbrev pub ignored : {R : Type 0} → ℕ → Format R ℕ
ignored n = ignored_bits n at (λ r. 0)

-- i(32), judged by the number that it is; `i32 rule of` where it stands
unfoldable pub i32 : (ℤ → Verdict) → Format ℤ ℤ
i32 rule = read (record { shape = unsigned 32; reserved = none; rule = λ c. rule (signed_of c) }) twos_of (λ c. done (signed_of c))

-- the number of these bytes, after x
abbrev pub bytes_from : ℕ → List ℕ → ℕ
bytes_from x [] = x
bytes_from x (y ∷ ys) = bytes_from (x * 256 + y) ys

-- one element of n bytes
abbrev pub bytes : {R : Type 0} → ℕ → (R → List ℕ) → Format R (List ℕ)
bytes n g = read (u (8 * n)) (λ r. bytes_from 0 (g r)) (λ v. done (bytes_of n v))

-- ---- rules

infixl 50 ◌unless◌ ◌also◌ ◌must◌
abbrev pub ◌unless◌ : Breach → Bool → Verdict
x unless true = fine
x unless false = against x

-- both are to be fine: the first of two that speaks against
abbrev pub ◌also◌ : Verdict → Verdict → Verdict
fine also v = v
against x also v = against x

-- an element with a rule, after those that it has
abbrev pub ◌must◌ : Element → (ℕ → Verdict) → Element
e must rule = record { shape = e.shape; reserved = e.reserved; rule = λ c. e.rule c also rule c }

abbrev pub at_least : ℕ → ℕ → Verdict
at_least n x = broken unless leb n x

abbrev pub at_most : ℕ → ℕ → Verdict
at_most n x = broken unless leb x n

abbrev pub between : ℤ → ℤ → ℤ → Verdict
between x y z = broken unless (le_z x z && le_z z y)

-- of a guard band type: not 0 where its not-used-for-prediction flag is 0
abbrev pub usable : ℕ → ℕ → Verdict
usable notUsed c = broken unless (eqb notUsed 1 || leb 1 c)

-- ---- parts

-- a part that is there where the test holds; where it is absent, a record has what `gone` says, and z stands for it
abbrev pub when_else : {R A : Type 0} → Bool → Format R A → (R → Bool) → A → Format R A
when_else t f gone z = if t then f else asks gone (done z)

-- the same of a part whose numbers are 0, each of them, where it is absent
abbrev pub when : {R A : Type 0} → Bool → Format R A → Format R A
when t f = when_else t f (all_zero f) (zeros f)

-- ---- lists

-- f, n times over, which are the last n of the first c entries of a record's list
unfoldable pub times : {A : Type 0} → ℕ → ℕ → Format A A → Format (List A) (List A)
times c zero f = done []
times c (suc n) f = f of (λ xs. get_or xs (c - suc n) (zeros f)) >>= (λ x. times c n f >>= (λ xs. done (x ∷ xs)))

-- a record's list of `most` entries: those read, and then z in every entry past them
abbrev pub padded : {A : Type 0} → ℕ → A → List A → List A
padded most z xs = xs ++ replicate (most - length xs) z

-- all of a list are so
abbrev pub each : {A : Type 0} → (A → Bool) → List A → Bool
each t [] = true
each t (x ∷ xs) = t x && each t xs

-- `count` messages of f, as such a list: in each entry past them every number is 0
abbrev pub listed : {A : Type 0} → ℕ → ℕ → Format A A → Format (List A) (List A)
listed most count f = times count count f >>= (λ xs. asks (λ r. each (all_zero f) (drop count r)) (done (padded most (zeros f) xs)))
