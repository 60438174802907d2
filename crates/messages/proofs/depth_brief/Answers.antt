-- from what its reader ensures
use Rattle.std.proofs.Common.{refl, false}
use Rattle.answers.specs.declared.kind.Kind.TheVariants.{Depth}
use Rattle.messages.proofs.Finish.{by-answered}
use Rattle.messages.proofs.depth_brief.Goals as goal

pub returns : goal.returns
returns c =
    rw (c.answered.ensures)
    (by-answered Depth c.args.s.now false c.read.result c.read.ensures refl (λ a q e. (refl, refl)))
