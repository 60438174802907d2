-- user data runs to the end of the payload: there is no tail to look at
use Rattle.std.proofs.Common.{◌∙◌, refl, ap}
use Rattle.answers.specs.Answer.{brief_of}
use Rattle.answers.specs.declared.kind.Kind.TheVariants.{Registered}
use Rattle.messages.proofs.Finish.{by-refused, by-taken}
use Rattle.messages.proofs.registered.Goals as goal

pub returns-in-Ok : goal.returns-in-Ok
returns-in-Ok c = c.registered.ensures ∙ ap brief_of (by-taken Registered c.args.s.now c.in-Ok.ensures refl)

pub returns-in-Err : goal.returns-in-Err
returns-in-Err c = c.refused.ensures ∙ ap brief_of (by-refused Registered c.args.s.now c.in-Err.ensures refl)
