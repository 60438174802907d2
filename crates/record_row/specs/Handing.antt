-- The row of numbers that stands for an answer: the extension count, then the record's fields; and what a call leaves of a lent row.
use Rattle.std.specs.Prelude.{ℕ, List, ◌∷◌, leb, length, if◌then◌else◌}
use Rattle.bits.specs.Refusals as refusals
use Rattle.lent.specs.Lent.{Left, left, over}
use Rattle.answers.specs.Answer.{outcome_number}
use Rattle.answers.specs.declared.Answer.{Answer}
use Rattle.answers.specs.declared.Outcome.{Outcome}
use Rattle.answers.specs.declared.Outcome.TheVariants.{Taken, SetAside, Refused}
use Rattle.record_row.specs.Fields.{record_fields}

unfoldable pub fields_of : Answer → List ℕ
fields_of a = a.extension ∷ record_fields a.beside a.message

-- ---- the call

-- the fields over the front of the row; 10, and nothing written, where they do not fit
unfoldable pub handed_over : ℕ → List ℕ → List ℕ → Left ℕ
handed_over number fields row =
    if leb (length fields) (length row) then left number (over fields row) else left (refusals.refusal_number refusals.by_rows) row

-- a refusal writes nothing
unfoldable pub wrote_by : Outcome → List ℕ → List ℕ → Left ℕ
wrote_by Taken fields row = handed_over (outcome_number Taken) fields row
wrote_by SetAside fields row = handed_over (outcome_number SetAside) fields row
wrote_by (Refused why) fields row = left (outcome_number (Refused why)) row

unfoldable pub wrote_fields : Answer → List ℕ → Left ℕ
wrote_fields a row = wrote_by a.outcome (fields_of a) row
