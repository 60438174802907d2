-- user data runs to the end of the payload: there is no tail to look at
use Rattle.std.proofs.Common.{◌∙◌, refl, ap}
use Rattle.answers.specs.Answer.{brief_of}
use Rattle.answers.specs.declared.Answer.{Answer}
use Rattle.answers.specs.declared.kind.Kind.TheVariants.{Unregistered}
use Rattle.messages.specs.Beside.{unregistered_of}
use Rattle.messages.proofs.Alone.{both}
use Rattle.messages.proofs.Finish.{by-refused, by-taken}
use Rattle.messages.proofs.unregistered.Goals as goal

pub returns-in-Ok : goal.returns-in-Ok
returns-in-Ok c = ap unregistered_of (by-taken Unregistered c.args.s.now c.in-Ok.ensures refl)

pub returns-in-Err : goal.returns-in-Err
returns-in-Err c =
    let zeros = by-refused Unregistered c.args.s.now c.in-Err.ensures refl in
    both _ _ (c.refused.ensures.brief ∙ ap brief_of zeros) (c.refused.ensures.zeros ∙ ap (λ (x : Answer). x.beside.unregistered) zeros)
