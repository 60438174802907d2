-- The numbers that a caller gets, and what a rule says of an element.
use Rattle.std.specs.Prelude.{ℕ}
use Rattle.bits.specs.declared.refusal.Refusal.{Refusal}
use Rattle.bits.specs.declared.refusal.Refusal.TheVariants.{Kind, Size, Short, Zeros, Rule, Regions, Tail, Slot, Table, Rows}

-- the table of RULES 7
abbrev pub refusal_number : Refusal → ℕ
refusal_number Kind = 1
refusal_number Size = 2
refusal_number Short = 3
refusal_number Zeros = 4
refusal_number Rule = 5
refusal_number Regions = 6
refusal_number Tail = 7
refusal_number Slot = 8
refusal_number Table = 9
refusal_number Rows = 10

-- the refusals of calls, as the layers above name them
abbrev pub by_kind : Refusal
by_kind = Kind

abbrev pub by_size : Refusal
by_size = Size

abbrev pub by_slot : Refusal
by_slot = Slot

abbrev pub by_table : Refusal
by_table = Table

abbrev pub by_rows : Refusal
by_rows = Rows

-- what an answer that has a value gives as its refusal, which nobody asks for
abbrev pub unasked : Refusal
unasked = Short

-- how a rule can be broken: 5, or 6
pub data Breach : Type 0 where
  broken : Breach
  too_many : Breach

abbrev pub refusal_of : Breach → Refusal
refusal_of broken = Rule
refusal_of too_many = Regions

-- what a rule says of an element's meaning
pub data Verdict : Type 0 where
  fine : Verdict
  against : Breach → Verdict

-- the refusals of elements: 3, 4, 5 and 6
pub data OfElement : Refusal → Type 0 where
  short : OfElement Short
  zeros : OfElement Zeros
  rule : OfElement Rule
  regions : OfElement Regions
