-- How far the input is read, to the end of a line or one chunk further. What the outside gives is how many bytes a chunk has, and which.
use Rattle.std.specs.Prelude.{ℕ, ◌+◌, ◌%◌, ◌^◌, Bool, true, false, List, [], ◌∷◌, take, drop, ◌==◌, nat_lt, slice_set, if◌then◌else◌}
use Rattle.script.specs.declared.input.Input.{Input}

-- nothing is read
abbrev pub begun : Input
begun = record { at = 0; end = 0; line = 1; length = 0; whole = false; over = false }

-- tabs (9), carriage returns (13), commas (44) and colons (58) count as spaces
unfoldable pub plain_byte : ℕ → ℕ
plain_byte b = if b == 9 then 32 else if b == 13 then 32 else if b == 44 then 32 else if b == 58 then 32 else b

-- after a whole line the next one begins
unfoldable pub onward_of : Input → Input
onward_of i =
    if i.whole
    then record { at = i.at; end = i.end; line = (i.line + 1) % 2 ^ 64; length = 0; whole = false; over = i.over }
    else i

-- a chunk of n bytes is read; where there are none the input is over, and the line whole if it has begun
unfoldable pub filled_of : Input → ℕ → Input
filled_of i n =
    if n == 0
    then record { at = 0; end = 0; line = i.line; length = i.length; whole = nat_lt 0 i.length; over = true }
    else record { at = 0; end = n; line = i.line; length = i.length; whole = i.whole; over = i.over }

-- how far the input is read, and the line so far
pub record Step : Type 0 where
  pub input : Input
  pub line : List ℕ

abbrev pub step : Input → List ℕ → Step
step i line = record { input = i; line = line }

-- the line is whole
abbrev pub ended : Input → Input
ended i = record { at = i.at; end = i.end; line = i.line; length = i.length; whole = true; over = i.over }

-- the line has one character more
abbrev pub longer : Input → Input
longer i = record { at = i.at; end = i.end; line = i.line; length = i.length + 1; whole = i.whole; over = i.over }

-- one byte more: the end of the line, or a character of it where there is room
unfoldable pub with_byte : Input → ℕ → List ℕ → Step
with_byte i b line =
    if b == 10 then step (ended i) line
    else if nat_lt i.length 32768 then step (longer i) (slice_set line i.length (plain_byte b))
    else step i line

-- whether there is a byte of the chunk left
abbrev pub byte_left : Input → Bool
byte_left i = if nat_lt i.at i.end then nat_lt i.at 4096 else false

-- one byte of the chunk is taken
abbrev pub taken : Input → Input
taken i = record { at = i.at + 1; end = i.end; line = i.line; length = i.length; whole = i.whole; over = i.over }

-- these bytes one after the other, up to the end of the line
unfoldable pub line_on : Input → List ℕ → List ℕ → Step
line_on i [] line = step i line
line_on i (b ∷ bs) line =
    let next = with_byte (taken i) b line in
    if next.input.whole then next else line_on next.input bs next.line

-- the bytes of the chunk that are left
abbrev pub rest : Input → List ℕ → List ℕ
rest i chunk = drop i.at (take i.end chunk)

unfoldable pub further : Input → List ℕ → List ℕ → ℕ → Step
further i chunk line n = if byte_left i then line_on i (rest i chunk) line else step (filled_of i n) line

-- the bytes that are left, up to the end of the line, or a chunk of n bytes
unfoldable pub next_of : Input → List ℕ → List ℕ → ℕ → Step
next_of i chunk line n = further (onward_of i) chunk line n
