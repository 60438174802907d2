-- the first rows, and after them the second where there are some
use Rattle.std.proofs.Common.{◌∙◌, arith}
use Rattle.region_table.proofs.RowLaws.{shiftless, all-first, all-second, all-written}
use Rattle.region_table.proofs.rows.put_table.Goals.{in-Some, in_default}
use Rattle.region_table.proofs.rows.put_table.Goals as goal

pub returns : goal.returns
returns c =
    let none = shiftless c.default.result c.default.ensures in
    all-written c.args.second c.args.regions.now _ c.args.lent.now _ c.count-count.ensures
    (elim c.match-second.branch [
      | in-Some w ↦ all-second c.args.regions.now c.args.lent.now c.put_rows.new.lent c.match-second.lent none c.put_rows.ensures w.in-Some.is (w.lent-is ∙ w.put_rows-in-Some.ensures)
      | in_default w ↦ all-first c.args.regions.now c.args.lent.now c.put_rows.new.lent c.match-second.lent none c.put_rows.ensures w.in_default.is w.lent-is
    ])
    (omega arith)
