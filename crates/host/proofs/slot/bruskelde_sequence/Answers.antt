use Rattle.slots.specs.Slots.{refused, sequencing}
use Rattle.isolation.specs.Runs.{said}
use Rattle.host.proofs.StepLaws.{seen_by}
use Rattle.host.proofs.slot.bruskelde_sequence.Goals as goal

pub returns : goal.returns
returns c = rw c.number.ensures (seen_by said sequencing refused _ _ _ _ c.sequence.ensures)
