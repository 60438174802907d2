-- What a function that is handed over reads: `post` says what a call of it may answer at a cursor.
use Rattle.std.specs.Prelude.{◌≡◌, List, ℕ, Result, Ok, Err}
use Rattle.bits.specs.Answers.{out_of}
use Rattle.bits.specs.Out.{Out, taken, refused}
use Rattle.bits.specs.declared.cursor.Cursor.{Cursor}
use Rattle.bits.specs.declared.refusal.Refusal.{Refusal}
use Rattle.format.specs.Format.{Format}
use Rattle.format.specs.Reading.{run_at}

-- each call reads f from the bytes s
abbrev pub Reads : {A : Type 0} → (Cursor → Result (A × Cursor) Refusal → Type 0) → Format A A → List ℕ → Type 0
Reads post f s = (c : Cursor) (r : _) → post c r → out_of r ≡ run_at f s c.at

-- reading a list that is lent, by what it answers and the list that it leaves
abbrev pub list_out : {A : Type 0} → Result Cursor Refusal → List A → Out (List A)
list_out (Ok c) xs = taken xs c.at
list_out (Err r) xs = refused r
