-- 8, with the zeros of the kind asked for
use Rattle.std.proofs.Common.{sym, ap}
use Rattle.feeding.specs.Feed.{shut_as, shut_answer}
use Rattle.reader.proofs.EntryLaws.{kind-some, kind-none}
use Rattle.feeding.proofs.shut.Goals as goal

pub returns-in-Ok : goal.returns-in-Ok
unfolding shut_answer
returns-in-Ok c = rw (c.refused.ensures, c.slot.ensures) (sym (ap shut_as (kind-some _ c.in-Ok.ensures)))

pub returns-in-Err : goal.returns-in-Err
unfolding shut_answer
returns-in-Err c = rw (c.plain.ensures, c.slot-in-Err.ensures) (sym (ap shut_as (kind-none _ c.in-Err.ensures)))
