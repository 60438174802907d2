-- a message is set aside where the test says so
use Rattle.std.proofs.Common.{◌∙◌, refl, sym, true, false}
use Rattle.answers.specs.declared.kind.Kind.TheVariants.{FramePacking}
use Rattle.messages.proofs.Finish.{by-answered, one-read}
use Rattle.messages.proofs.frame_packing.Goals as goal
use Rattle.messages.proofs.frame_packing.Goals.{in-Ok, in_default-2, in_default}

pub returns : goal.returns
returns c =
    elim c.match-read.branch [
      | in-Ok w ↦ rw (c.answered.ensures, w.outcome-is) (by-answered FramePacking c.args.s.now true c.read-read.result c.read-read.ensures refl (λ a q e. (refl, rw (one-read a _ q _ e w.in-Ok.is) (sym w.set_aside.ensures ∙ w.if-set_aside.true))))
      | in_default-2 w ↦ rw (c.answered.ensures, w.outcome-is) (by-answered FramePacking c.args.s.now false c.read-read.result c.read-read.ensures refl (λ a q e. (refl, rw (one-read a _ q _ e w.in-Ok.is) (sym w.set_aside.ensures ∙ w.if-set_aside.false))))
      | in_default w ↦ rw (c.answered.ensures, w.outcome-is) (by-answered FramePacking c.args.s.now false c.read-read.result c.read-read.ensures refl (λ a q e. (refl, cc)))
    ]
