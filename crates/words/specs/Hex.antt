-- Bytes in hex: what the characters of a text spell, up to the first thing that is wrong.
use Rattle.std.specs.Prelude.{ℕ, ◌+◌, ◌-◌, ◌*◌, Bool, true, false, not, List, [], ◌∷◌, Option, Some, None, Result, Ok, Err, eqb, ltb, leb, length, if◌then◌else◌}
use Rattle.std.proofs.lemmas.List.Edits.{sets}
use Rattle.lent.specs.Lent.{Left, left}
use Rattle.words.specs.declared.hex.HexError.{HexError}
use Rattle.words.specs.declared.hex.HexError.TheVariants.{Odd, Foreign, Long}

-- '0' to '9' are 48 to 57, 'A' to 'F' 65 to 70 and 'a' to 'f' 97 to 102; any other character is no digit
unfoldable pub digit_of : ℕ → Option ℕ
digit_of b =
    if ltb b 48 then None
    else if ltb b 58 then Some (b - 48)
    else if ltb b 65 then None
    else if ltb b 71 then Some (b - 55)
    else if ltb b 97 then None
    else if ltb b 103 then Some (b - 87)
    else None

-- what is wrong with a character at i that is this digit, if it is one, and which no second one follows
unfoldable pub unpaired : ℕ → Option ℕ → HexError
unpaired i (Some high) = Odd
unpaired i None = Foreign i

-- a character a, at i, which no second digit follows: half a byte, or no digit
unfoldable pub lone_of : ℕ → ℕ → HexError
lone_of i a = unpaired i (digit_of a)

-- a byte of two digits, of which the first stands at i
unfoldable pub byte_of : ℕ → Option ℕ → Option ℕ → Result ℕ HexError
byte_of i None low = Err (Foreign i)
byte_of i (Some high) None = Err (Foreign (i + 1))
byte_of i (Some high) (Some low) = Ok (high * 16 + low)

-- a byte's digits a and b, of which a stands at i; a space is no second digit
unfoldable pub pair_of : ℕ → ℕ → ℕ → Result ℕ HexError
pair_of i a b = if eqb b 32 then Err (lone_of i a) else byte_of i (digit_of a) (digit_of b)

-- '0' is 48, 'x' 120 and 'X' 88
abbrev pub zero_x : ℕ → ℕ → Bool
zero_x a b = if eqb a 48 then (if eqb b 120 then true else eqb b 88) else false

-- something else than a space is next
abbrev pub unspaced : List ℕ → Bool
unspaced [] = false
unspaced (c ∷ rest) = not (eqb c 32)

-- a text starts with `0x` or `0X`, and something else than a space follows
unfoldable pub marked : List ℕ → Bool
marked [] = false
marked (a ∷ []) = false
marked (a ∷ b ∷ rest) = if zero_x a b then unspaced rest else false

-- the bytes that a text spells, and how it ends: their count, or what is wrong
pub record Spelling : Type 0 where
  pub bytes : List ℕ
  pub ending : Result ℕ HexError

abbrev pub ends : Result ℕ HexError → Spelling
ends e = record { bytes = []; ending = e }

-- a byte stands before what follows it; what is wrong ends the text
unfoldable pub onward : Result ℕ HexError → Spelling → Spelling
onward (Ok b) t = record { bytes = b ∷ t.bytes; ending = t.ending }
onward (Err e) t = ends (Err e)

-- the characters from place i on, of a text that spelled n bytes before it; spaces and marks are passed over
unfoldable pub spelling : ℕ → ℕ → List ℕ → Spelling
spelling i n [] = ends (Ok n)
spelling i n (a ∷ []) = ends (if eqb a 32 then Ok n else Err (lone_of i a))
spelling i n (a ∷ b ∷ rest) =
    if eqb a 32 then spelling (i + 1) n (b ∷ rest)
    else if marked (a ∷ b ∷ rest) then spelling (i + 2) n rest
    else onward (pair_of i a b) (spelling (i + 2) (n + 1) rest)

-- the bytes over the front of what is lent, as many as there is room for
unfoldable pub into : List ℕ → Spelling → Left (Result ℕ HexError)
into lent t = left (if leb (length t.bytes) (length lent) then t.ending else Err Long) (sets lent 0 t.bytes)
