use Rattle.slots.specs.Slots.{refused, opening}
use Rattle.isolation.specs.Runs.{said}
use Rattle.host.proofs.StepLaws.{seen_by}
use Rattle.host.proofs.slot.bruskelde_open.Goals as goal

pub returns : goal.returns
returns c = rw c.number.ensures (seen_by said opening refused _ _ _ _ c.open.ensures)
