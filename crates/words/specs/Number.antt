-- Decimal numbers, digit by digit: the first thing that is wrong decides.
use Rattle.std.specs.Prelude.{ℕ, ◌+◌, ◌-◌, ◌*◌, List, [], ◌∷◌, Result, Ok, Err, nat_lt, if◌then◌else◌}
use Rattle.words.specs.declared.number.NumberError.{NumberError}
use Rattle.words.specs.declared.number.NumberError.TheVariants.{Empty, Foreign, Large}

-- v with one digit more: '0' to '9' are 48 to 57, and 64 bits hold what is below 2^64
abbrev pub with_digit : ℕ → ℕ → Result ℕ NumberError
with_digit v b =
    if nat_lt b 48 then Err Foreign
    else if nat_lt 57 b then Err Foreign
    else if nat_lt (v * 10 + (b - 48)) 18446744073709551616 then Ok (v * 10 + (b - 48))
    else Err Large

-- a number goes on; what is wrong stays
unfoldable pub onward : Result ℕ NumberError → (ℕ → Result ℕ NumberError) → Result ℕ NumberError
onward (Ok v) f = f v
onward (Err e) f = Err e

-- v with the digits of a list after it
unfoldable pub digits : List ℕ → ℕ → Result ℕ NumberError
digits [] v = Ok v
digits (b ∷ rest) v = onward (with_digit v b) (digits rest)

-- a word with no digit at all is no number
unfoldable pub number_of : List ℕ → Result ℕ NumberError
number_of [] = Err Empty
number_of (b ∷ rest) = digits (b ∷ rest) 0
