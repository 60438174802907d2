-- The reader, for any kind, size and bytes: 1, then 2, then what the payload's bits come to.
use Rattle.std.specs.Prelude.{ℕ, ◌≤◌, ◌<◌, ◌≡◌, ◌⊎◌, List, length, take}
use Rattle.bits.specs.Bits.{most_bytes}
use Rattle.bits.specs.Refusals.{by_size}
use Rattle.answers.specs.Listed.{number, reading_of}
use Rattle.answers.specs.Answer.{answer_for, refused_as, unknown}
use Rattle.answers.specs.declared.kind.Kind.{Kind}
use Rattle.answers.specs.declared.Answer.{Answer}
use Rattle.reader.specs.Entry.{entry_to}
use Rattle.reader.specs.declared.entry.Entry.{Entry}
use Rattle.reader.specs.declared.entry.Entry.TheVariants.{Unlisted, Oversized, Payload}

-- the stated size cuts the lent bytes
abbrev pub answered : Entry → ℕ → List ℕ → Answer
answered Unlisted size bytes = unknown
answered (Oversized k) size bytes = refused_as k by_size
answered (Payload k) size bytes = answer_for k (reading_of k (take size bytes))

unfoldable pub answer_to : ℕ → ℕ → List ℕ → Answer
answer_to n size bytes = answered (entry_to n size (length bytes)) size bytes

-- The same, declared: the size exceeds the limit or the lent bytes ..
abbrev pub Over : ℕ → List ℕ → Type 0
Over size bytes = (most_bytes < size) ⊎ (length bytes < size)

-- .. or n is the number of kind k, and the size is within both.
abbrev pub Within : Kind → ℕ → ℕ → List ℕ → Type 0
Within k n size bytes = (n ≡ number k) × (size ≤ most_bytes) × (size ≤ length bytes)
