use Rattle.held.specs.Held.{nothing}
use Rattle.slots.specs.Slots.{refused, picturing}
use Rattle.isolation.specs.Runs.{shown}
use Rattle.host.proofs.StepLaws.{seen_by}
use Rattle.host.proofs.slot.bruskelde_picture.Goals as goal

pub returns : goal.returns
returns c = rw c.number.ensures (seen_by shown picturing (refused, nothing) _ _ _ _ c.picture.ensures)
