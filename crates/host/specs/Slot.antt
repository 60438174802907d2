-- The table call's answer in numbers, for a C caller: an enum's case is the number that the paper gives it. And the slots' size.
use Rattle.std.specs.Prelude.{ℕ, Result, ◌*◌}
use Rattle.bits.specs.declared.refusal.Refusal.{Refusal}
use Rattle.lent.specs.Lent.{Left, left}
use Rattle.region_table.specs.Rows.{tabled_number, tabled_rows}
use Rattle.host.specs.declared.slot.Tabled.{Tabled}

-- 0 and how many rows, or the refusal's number and none
abbrev pub tabled_in_numbers : Result ℕ Refusal → Tabled
tabled_in_numbers t = record { number = tabled_number t; rows = tabled_rows t }

abbrev pub left_in_numbers : Left (Result ℕ Refusal) → Left Tabled
left_in_numbers o = left (tabled_in_numbers o.answer) o.lent

-- in bytes: eight slots of 760
abbrev pub slots_size : ℕ
slots_size = 8 * 760
