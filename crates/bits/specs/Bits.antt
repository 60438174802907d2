-- A payload s is a list of bytes; here are its bits, the most significant of each byte first, and the number that bits make.
use Rattle.std.specs.Prelude.{ℕ, zero, suc, ◌+◌, ◌-◌, ◌*◌, ◌/◌, ◌%◌, ◌^◌, ◌≤◌, Bool, true, false, List, [], ◌∷◌, length, get_or, eqb}

-- how many bytes a payload may have
abbrev pub most_bytes : ℕ
most_bytes = 8192

abbrev pub Payload : List ℕ → Type 0
Payload s = length s ≤ most_bytes

-- N, how many bits it has
abbrev pub bits_in : List ℕ → ℕ
bits_in s = 8 * length s

-- bit i
unfoldable pub bit_at : List ℕ → ℕ → Bool
bit_at s i = eqb (get_or s (i / 8) 0 / 2 ^ (7 - i % 8) % 2) 1

-- the n bits from p on
unfoldable pub part : List ℕ → ℕ → ℕ → List Bool
part s p zero = []
part s p (suc n) = bit_at s p ∷ part s (suc p) n

-- all bits from p on
unfoldable pub from : List ℕ → ℕ → List Bool
from s p = part s p (bits_in s - p)

-- the payload's bits
abbrev pub bits_of : List ℕ → List Bool
bits_of s = from s 0

abbrev pub digit : Bool → ℕ
digit false = 0
digit true = 1

-- the number that the bits w make
unfoldable pub unsigned_of : List Bool → ℕ
unsigned_of [] = 0
unsigned_of (b ∷ w) = digit b * 2 ^ length w + unsigned_of w
