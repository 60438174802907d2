-- What an answer of the code means, case by case.
use Rattle.std.specs.Prelude.{Result, Ok, Err}
use Rattle.bits.specs.Out.{Out, taken, refused}
use Rattle.bits.specs.declared.cursor.Cursor.{Cursor}
use Rattle.bits.specs.declared.refusal.Refusal.{Refusal}

-- with what is read seen as f says
abbrev pub out_by : {A B : Type 0} → (A → B) → Result (A × Cursor) Refusal → Out B
out_by f (Ok r) = taken (f r.0) r.1.at
out_by f (Err r) = refused r

abbrev pub out_of : {A : Type 0} → Result (A × Cursor) Refusal → Out A
out_of r = out_by (λ a. a) r
