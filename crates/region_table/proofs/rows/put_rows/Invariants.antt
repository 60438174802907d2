-- the rows of as many regions as the loop has come to stand in their places
use Rattle.std.proofs.Common.{◌≡◌, take}
use Rattle.std.proofs.lemmas.List.Edits.{sets}
use Rattle.region_table.specs.Rows.{rows_by}
use Rattle.region_table.proofs.rows.put_rows.Given as goal

abbrev pub invariant-loop-i : goal.invariant-loop-i
invariant-loop-i l = l.lent ≡ sets l.fn.lent l.at (rows_by l.by (take l.i l.regions))
