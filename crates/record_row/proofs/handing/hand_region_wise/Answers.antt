-- its own record is handed out
use Rattle.answers.specs.Listed.{reading_of}
use Rattle.answers.specs.declared.kind.Kind.TheVariants.{RegionWise}
use Rattle.record_row.proofs.HandingLaws.{region-wise-wrote}
use Rattle.record_row.proofs.handing.hand_region_wise.Goals as goal

pub returns : goal.returns
returns c = region-wise-wrote _ (reading_of RegionWise c.args.s.now) c.region_wise-a.ensures c.hand.ensures
