use Rattle.slots.specs.Slots.{refused, closing}
use Rattle.isolation.specs.Runs.{said}
use Rattle.host.proofs.StepLaws.{seen_by}
use Rattle.host.proofs.slot.bruskelde_close.Goals as goal

pub returns : goal.returns
returns c = rw c.number.ensures (seen_by said closing refused _ _ _ _ c.close.ensures)
