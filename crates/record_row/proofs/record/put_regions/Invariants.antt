-- the fields of as many regions as the loop has come to stand in their places
use Rattle.std.proofs.Common.{◌≡◌, take}
use Rattle.std.proofs.lemmas.List.Edits.{sets}
use Rattle.record_row.specs.Fields.{regions_fields}
use Rattle.record_row.proofs.record.put_regions.Given as goal

abbrev pub invariant-loop-i : goal.invariant-loop-i
invariant-loop-i l = l.row ≡ sets l.fn.row l.at (regions_fields (take l.i l.regions))
