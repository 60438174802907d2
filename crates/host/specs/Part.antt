-- The part of the lent bytes that user data hands back, by where it starts and how long it is.
use Rattle.std.specs.Prelude.{ℕ, ◌-◌, List, Option, Some, None}
use Rattle.reader.specs.Reader.{answer_to}
use Rattle.host.specs.declared.Part.{Part}

-- it ends with the payload
abbrev pub part_at : Option ℕ → ℕ → Part
part_at (Some k) size = record { offset = k; length = size - k }
part_at None size = record { offset = 0; length = 0 }

unfoldable pub part_of : ℕ → ℕ → List ℕ → Part
part_of n size bytes = part_at (answer_to n size bytes).rest size
