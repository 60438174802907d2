-- Whether a slot is open, by its calls alone: the last opening or closing call decides, and where there is none it is as it was.
use Rattle.std.specs.Prelude.{Bool, true, false, List, [], ◌∷◌}
use Rattle.isolation.specs.Runs.{Call, opens, closes, sequences, pictures, feeds, tables}

abbrev pub open_after_call : Bool → Call → Bool
open_after_call was (opens n) = true
open_after_call was (closes n) = false
open_after_call was (sequences n) = was
open_after_call was (pictures n) = was
open_after_call was (feeds n kind size bytes) = was
open_after_call was (tables n lent) = was

abbrev pub open_after : Bool → List Call → Bool
open_after was [] = was
open_after was (c ∷ cs) = open_after (open_after_call was c) cs
