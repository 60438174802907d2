-- The call that a line spells: its first word names it, and the help text says what follows.
use Rattle.std.specs.Prelude.{ℕ, List, [], ◌∷◌, take, drop, ◌==◌, nat_lt, Option, Some, None, Result, Ok, Err, if◌then◌else◌}
use Rattle.std.specs.Result.{result_ok}
use Rattle.lent.specs.Lent.{Left, left}
use Rattle.words.specs.Place.{content_of}
use Rattle.script.specs.Words.{alike, first_of, rest_of, onward, argument_of, last_of}
use Rattle.script.specs.Names.{name_of}
use Rattle.script.specs.Payload.{lent_on, payload_of}
use Rattle.script.specs.declared.call.Call.{Call}
use Rattle.script.specs.declared.call.Call.TheVariants.{Open, Close, Sequence, Picture, Table, Feed, Read, Explain, Help}
use Rattle.script.specs.declared.call.Payload.{Payload}
use Rattle.script.specs.declared.name.Name.{Name}
use Rattle.script.specs.declared.name.Name.TheVariants as name
use Rattle.script.specs.declared.wrong.Why.{Why}
use Rattle.script.specs.declared.wrong.Why.TheVariants as why

-- a call with what is given, where there is that
abbrev pub calling : {A : Type 0} → (A → Call) → Result A Why → Result Call Why
calling f r = onward r (λ a. Ok (f a))

-- SLOT
abbrev pub slot_call : (ℕ → Call) → List ℕ → Result Call Why
slot_call f s = calling f (last_of why.NoSlot s)

abbrev pub with_payload : (Payload → Call) → Left (Result Payload Why) → Left (Result Call Why)
with_payload f o = left (calling f o.answer) o.lent

-- SLOT NUMBERS
abbrev pub tabled : List ℕ → ℕ → Result Call Why
tabled s slot = calling (Table slot) (last_of why.NoCount s)

unfoldable pub table_of : List ℕ → Result Call Why
table_of s = onward (argument_of why.NoSlot s) (tabled (rest_of s))

-- SLOT KIND [size=N] BYTES
abbrev pub fed : List ℕ → List ℕ → ℕ → Left (Result Call Why)
fed s lent slot = with_payload (Feed slot) (payload_of s lent)

unfoldable pub feed_of : List ℕ → List ℕ → Left (Result Call Why)
feed_of s lent = lent_on (argument_of why.NoSlot s) (fed (rest_of s) lent) lent

-- nothing follows
unfoldable pub help_of : List ℕ → Result Call Why
help_of [] = Ok Help
help_of (c ∷ s) = Err why.TooMuch

-- what the call of this name comes to, with what follows the name
abbrev pub named : Option Name → List ℕ → List ℕ → Left (Result Call Why)
named (Some name.Open) s lent = left (slot_call Open s) lent
named (Some name.Close) s lent = left (slot_call Close s) lent
named (Some name.Sequence) s lent = left (slot_call Sequence s) lent
named (Some name.Picture) s lent = left (slot_call Picture s) lent
named (Some name.Table) s lent = left (table_of s) lent
named (Some name.Feed) s lent = feed_of s lent
named (Some name.Read) s lent = with_payload Read (payload_of s lent)
named (Some name.Explain) s lent = with_payload Explain (payload_of s lent)
named (Some name.Help) s lent = left (help_of s) lent
named None s lent = left (Err why.NoCall) lent

-- the call of a line without its comment and the spaces around it
unfoldable pub spelled_of : List ℕ → List ℕ → Left (Result Call Why)
spelled_of s lent = named (name_of (first_of s)) (rest_of s) lent

-- a byte order mark: EF BB BF
abbrev pub mark : List ℕ
mark = 239 ∷ 187 ∷ 191 ∷ []

-- the first line may start with one, which is no part of it
unfoldable pub unmarked_of : ℕ → List ℕ → List ℕ
unmarked_of number s = if number == 1 then (if alike (take 3 s) mark then drop 3 s else s) else s

-- what a line of n characters says
unfoldable pub said_of : ℕ → ℕ → List ℕ → List ℕ
said_of number n line = content_of (unmarked_of number (take n line))

-- the call, where there is one
abbrev pub some_call : Left (Result Call Why) → Left (Option Call)
some_call o = left (result_ok o.answer) o.lent

-- the call that it spells; a line of 32768 characters or more is too long
unfoldable pub call_of : ℕ → ℕ → List ℕ → List ℕ → Left (Option Call)
call_of number n line lent = if nat_lt n 32768 then some_call (spelled_of (said_of number n line) lent) else left None lent
