-- a message of another kind leaves nothing
use Rattle.std.proofs.Common.{◌∙◌}
use Rattle.held.specs.Lasting.{orientation}
use Rattle.feeding.proofs.FillLaws.{another_leaves}
use Rattle.feeding.proofs.filling.HeldOrientationMessaged.left_by.Goals as goal

pub returns-in_default : goal.returns-in_default
returns-in_default c = c.nothing.ensures ∙ another_leaves orientation c.args.message c.in_default.not-Orientation
