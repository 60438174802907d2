-- What is judged before a payload: its kind, and then its size against the limit and the lent bytes, of which there are `room`.
use Rattle.std.specs.Prelude.{ℕ, Bool, true, false, ◌&&◌, leb, Option, Some, None}
use Rattle.bits.specs.Bits.{most_bytes}
use Rattle.answers.specs.Listed.{named}
use Rattle.answers.specs.declared.kind.Kind.{Kind}
use Rattle.reader.specs.declared.entry.Entry.{Entry}
use Rattle.reader.specs.declared.entry.Entry.TheVariants.{Unlisted, Oversized, Payload}

-- the stated size is within the limit and the lent bytes
abbrev pub fits : ℕ → ℕ → Bool
fits size room = leb size most_bytes && leb size room

abbrev pub entered : Option Kind → Bool → Entry
entered None fit = Unlisted
entered (Some k) true = Payload k
entered (Some k) false = Oversized k

unfoldable pub entry_to : ℕ → ℕ → ℕ → Entry
entry_to n size room = entered (named n) (fits size room)
