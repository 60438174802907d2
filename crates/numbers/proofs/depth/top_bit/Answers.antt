-- the places in front of the highest one bit are counted
use Rattle.numbers.proofs.Patterns.{top_bit}
use Rattle.numbers.proofs.depth.top_bit.Goals as goal

pub returns : goal.returns
returns c = (top_bit c.args.n c.requires c.ranges.n.fits).1
