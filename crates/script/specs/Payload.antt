-- The payload that a text spells: KIND [size=N] BYTES.
use Rattle.std.specs.Prelude.{ℕ, List, [], ◌∷◌, take, drop, Result, Ok, Err, if◌then◌else◌}
use Rattle.lent.specs.Lent.{Left, left}
use Rattle.words.specs.Hex.{spelling, into}
use Rattle.words.specs.declared.hex.HexError.{HexError}
use Rattle.words.specs.declared.hex.HexError.TheVariants.{Odd, Foreign, Long}
use Rattle.script.specs.Words.{alike, rest_of, argument_of}
use Rattle.script.specs.declared.call.Payload.{Payload}
use Rattle.script.specs.declared.wrong.Why.{Why}
use Rattle.script.specs.declared.wrong.Why.TheVariants as why

-- f of what there is; what is wrong stays, and what is lent too
abbrev pub lent_on : {A B : Type 0} → Result A Why → (A → Left (Result B Why)) → List ℕ → Left (Result B Why)
lent_on (Ok a) f lent = f a
lent_on (Err e) f lent = left (Err e) lent

-- what is wrong with a text that spells no bytes
abbrev pub unspelled_of : HexError → Why
unspelled_of Odd = why.Odd
unspelled_of (Foreign i) = why.NoHex
unspelled_of Long = why.Long

-- as many bytes as are counted, which is the size too
abbrev pub given_by : ℕ → Result ℕ HexError → Result Payload Why
given_by kind (Ok n) = Ok (record { kind = kind; size = n; count = n })
given_by kind (Err e) = Err (unspelled_of e)

abbrev pub counted : ℕ → Left (Result ℕ HexError) → Left (Result Payload Why)
counted kind o = left (given_by kind o.answer) o.lent

-- BYTES
unfoldable pub plain_of : ℕ → List ℕ → List ℕ → Left (Result Payload Why)
plain_of kind s lent = counted kind (into lent (spelling 0 0 s))

-- another size than the bytes have
abbrev pub sized_as : ℕ → Result Payload Why → Result Payload Why
sized_as n (Ok p) = Ok (record { kind = p.kind; size = n; count = p.count })
sized_as n (Err e) = Err e

abbrev pub sized : ℕ → List ℕ → List ℕ → ℕ → Left (Result Payload Why)
sized kind s lent n = left (sized_as n (plain_of kind s lent).answer) (plain_of kind s lent).lent

-- N BYTES
unfoldable pub stated_of : ℕ → List ℕ → List ℕ → Left (Result Payload Why)
stated_of kind s lent = lent_on (argument_of why.NoSize s) (sized kind (rest_of s) lent) lent

-- size=
abbrev pub size_is : List ℕ
size_is = 115 ∷ 105 ∷ 122 ∷ 101 ∷ 61 ∷ []

-- [size=N] BYTES
unfoldable pub bytes_of : List ℕ → List ℕ → ℕ → Left (Result Payload Why)
bytes_of s lent kind = if alike (take 5 s) size_is then stated_of kind (drop 5 s) lent else plain_of kind s lent

unfoldable pub payload_of : List ℕ → List ℕ → Left (Result Payload Why)
payload_of s lent = lent_on (argument_of why.NoKind s) (bytes_of (rest_of s) lent) lent
