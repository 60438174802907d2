-- by the entry: 1, 2, or what the payload comes to
use lib.ListN.{length-take}
use Rattle.std.proofs.Common.{sym, arith}
use Rattle.reader.proofs.EntryLaws.{payload-fits}
use Rattle.reader.proofs.Calls.{by-entry}
use Rattle.reader.proofs.payload.read.Goals as goal

pub returns-in-Unlisted : goal.returns-in-Unlisted
returns-in-Unlisted c = rw (c.of.ensures, c.nothing.ensures, c.unknown.ensures) (sym (by-entry _ _ _ (sym c.in-Unlisted.ensures)))

pub returns-in-Oversized : goal.returns-in-Oversized
returns-in-Oversized c = rw (c.refused.ensures, c.size.ensures) (sym (by-entry _ _ _ (sym c.in-Oversized.ensures)))

pub of_kind-requires : goal.of_kind-requires
of_kind-requires c = rw (c.front.ensures, length-take) (omega (arith, (payload-fits _ _ _ (sym c.in-Payload.ensures)).0))

pub returns-in-Payload : goal.returns-in-Payload
returns-in-Payload c = rw (c.of_kind.ensures, c.front.ensures) (sym (by-entry _ _ _ (sym c.in-Payload.ensures)))
