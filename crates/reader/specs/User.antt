-- User data: the part of a payload of kind 4 or 5 that is handed back, by what the reader answers to it.
use Rattle.std.specs.Prelude.{ℕ, ◌-◌, List, [], take, drop, Option, Some, None}
use Rattle.reader.specs.Reader.{answer_to}

-- the bytes from where the rest begins up to the stated size
abbrev pub part_from : Option ℕ → ℕ → List ℕ → List ℕ
part_from (Some k) size bytes = take (size - k) (drop k bytes)
part_from None size bytes = []

unfoldable pub user_part : ℕ → ℕ → List ℕ → List ℕ
user_part n size bytes = part_from (answer_to n size bytes).rest size bytes
