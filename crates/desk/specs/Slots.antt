-- The slots after each call of a script.
use Rattle.std.specs.Prelude.{ℕ, List, take}
use Rattle.script.specs.declared.call.Call.{Call}
use Rattle.script.specs.declared.call.Call.TheVariants.{Open, Close, Sequence, Picture, Table, Feed, Read, Explain, Help}
use Rattle.slots.specs.declared.Slots.{Slots}
use Rattle.held.specs.Held.{nothing}
use Rattle.slots.specs.Slots.{refused, opening, closing, sequencing, picturing, lifted}
use Rattle.feeding.specs.Feed.{fed_to}

-- a payload's bytes are the first of the lent ones, as many as it counts
unfoldable pub slots_after : Call → Slots → List ℕ → Slots
slots_after (Open n) s lent = (lifted opening refused s n).0
slots_after (Close n) s lent = (lifted closing refused s n).0
slots_after (Sequence n) s lent = (lifted sequencing refused s n).0
slots_after (Picture n) s lent = (lifted picturing (refused, nothing) s n).0
slots_after (Table n numbers) s lent = s
slots_after (Feed n p) s lent = (fed_to s n p.kind p.size (take p.count lent)).0
slots_after (Read p) s lent = s
slots_after (Explain p) s lent = s
slots_after Help s lent = s
