-- What the code's answers mean: this paper's number and values for each case.
use Rattle.std.specs.Prelude.{ℕ, Option, None, Ok, Err}
use Rattle.bits.specs.Refusals.{refusal_number, by_kind}
use Rattle.bits.specs.Tail.{Ending}
use Rattle.bits.specs.declared.refusal.Refusal.{Refusal}
use Rattle.format.specs.Whole as reading
use Rattle.answers.specs.Listed.{Record, listing, nothing, zeros}
use Rattle.answers.specs.declared.kind.Kind.{Kind}
use Rattle.answers.specs.declared.Answer.{Answer}
use Rattle.answers.specs.declared.Beside.{Beside}
use Rattle.answers.specs.declared.Brief.{Brief}
use Rattle.answers.specs.declared.Outcome.{Outcome}
use Rattle.answers.specs.declared.Outcome.TheVariants.{Taken, SetAside, Refused}
use Rattle.answers.specs.declared.kind.Message.{Message}
use Rattle.answers.specs.declared.kind.Message.TheVariants.{Nothing}

abbrev pub outcome_number : Outcome → ℕ
outcome_number Taken = 0
outcome_number SetAside = 20
outcome_number (Refused r) = refusal_number r

abbrev pub answer_number : Answer → ℕ
answer_number a = outcome_number a.outcome

-- an answer but for the records beside its message
abbrev pub brief_of : Answer → Brief
brief_of a = record { outcome = a.outcome; message = a.message; extension = a.extension; rest = a.rest }

-- and with them
abbrev pub answer_of : Brief → Beside → Answer
answer_of b s = record { outcome = b.outcome; message = b.message; extension = b.extension; rest = b.rest; beside = s }

-- only what is taken has a rest
abbrev pub rest_for : Outcome → Option ℕ → Option ℕ
rest_for Taken x = x
rest_for SetAside x = None
rest_for (Refused r) x = None

-- with no record beside the message, and no rest
abbrev pub plain : Outcome → Message → ℕ → Answer
plain o m e = record { outcome = o; message = m; extension = e; rest = None; beside = nothing }

abbrev pub message_of : (k : Kind) → Record k → Message
message_of k a = (listing k).message a

abbrev pub made : (k : Kind) → Outcome → Record k → ℕ → Answer
made k o a e = record { outcome = o; message = message_of k a; extension = e; rest = rest_for o ((listing k).rest a); beside = (listing k).beside a }

-- the answer for what reading a payload of kind k came to; a refusal comes with zeros
abbrev pub answer_for : (k : Kind) → reading.Reading (Record k) → Answer
answer_for k (reading.taken a e) = made k Taken a e
answer_for k (reading.set_aside a e) = made k SetAside a e
answer_for k (reading.refused r) = made k (Refused r) (zeros k) 0

-- the same of a refusal by parts: no record stands beside its message
abbrev pub zero_message : Kind → Message
zero_message k = message_of k (zeros k)

abbrev pub refused_as : Kind → Refusal → Answer
refused_as k r = plain (Refused r) (zero_message k) 0

-- and of a message with no record beside it, by how its payload ends
abbrev pub finished : Kind → Outcome → Message → Ending → Answer
finished k o m (Ok e) = plain o m e
finished k o m (Err r) = refused_as k r

-- a kind that is none of those listed has no fields
abbrev pub unknown : Answer
unknown = plain (Refused by_kind) Nothing 0
