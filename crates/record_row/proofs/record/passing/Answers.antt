-- a record of zeros stands beside the message
use Rattle.record_row.proofs.record.passing.Goals as goal

pub returns-in-Depth : goal.returns-in-Depth
returns-in-Depth c = rw c.in-Depth.is (rw c.zero.ensures at c.hand-in-Depth.ensures)
