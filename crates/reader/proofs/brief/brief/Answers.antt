-- by the entry: 1, 2, or what the payload comes to
use lib.ListN.{length-take}
use Rattle.std.proofs.Common.{sym, ap, arith}
use Rattle.answers.specs.Answer.{brief_of}
use Rattle.reader.proofs.EntryLaws.{payload-fits}
use Rattle.reader.proofs.Calls.{by-entry}
use Rattle.reader.proofs.brief.brief.Goals as goal

pub returns-in-Unlisted : goal.returns-in-Unlisted
returns-in-Unlisted c = rw c.unknown.ensures (sym (ap brief_of (by-entry _ _ _ (sym c.in-Unlisted.ensures))))

pub returns-in-Oversized : goal.returns-in-Oversized
returns-in-Oversized c = rw (c.refused.ensures, c.size.ensures) (sym (ap brief_of (by-entry _ _ _ (sym c.in-Oversized.ensures))))

pub brief_of-requires : goal.brief_of-requires
brief_of-requires c = rw (c.front.ensures, length-take) (omega (arith, (payload-fits _ _ _ (sym c.in-Payload.ensures)).0))

pub returns-in-Payload : goal.returns-in-Payload
returns-in-Payload c = rw (c.brief_of.ensures, c.front.ensures) (sym (ap brief_of (by-entry _ _ _ (sym c.in-Payload.ensures))))
