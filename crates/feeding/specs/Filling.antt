-- A payload of a kind that is held, fed to a slot that is changed in place: what is answered, whether the slot's record of that kind changes,
-- and what it then is. And of a kind that is not held, what is answered.
use Rattle.std.specs.Prelude.{ℕ, List, eqb, if◌then◌else◌}
use Rattle.kind_region_wise.specs.declared.RegionWise.{RegionWise}
use Rattle.answers.specs.Listed.{number, zeros}
use Rattle.answers.specs.declared.kind.Kind.TheVariants as kinds
use Rattle.answers.specs.Answer.{answer_number, outcome_number}
use Rattle.reader.specs.Reader.{answer_to}
use Rattle.answers.specs.declared.Answer.{Answer}
use Rattle.answers.specs.declared.Outcome.{Outcome}
use Rattle.answers.specs.declared.Outcome.TheVariants.{Taken, SetAside, Refused}
use Rattle.answers.specs.declared.kind.LastingMessage.{LastingMessage}
use Rattle.answers.specs.declared.kind.LastingMessage.TheVariants as lasting
use Rattle.answers.specs.declared.kind.Message.{Message}
use Rattle.answers.specs.declared.kind.Message.TheVariants.{Nothing, Lasting, Passing}
use Rattle.held.specs.Lasting as lastings
use Rattle.held.specs.Held.{held_of, nothing, replaced}
use Rattle.held.specs.declared.Held.{Held}
use Rattle.feeding.specs.Feed.{held_lasting, held_after}
use Rattle.feeding.specs.declared.filling.Reply.{Reply}
use Rattle.feeding.specs.declared.filling.Filled.{Filled}

-- the number, and how many extension bits the payload has
abbrev pub reply_by : Outcome → ℕ → Reply
reply_by o e = record { number = outcome_number o; extension = e }

abbrev pub reply_of : Answer → Reply
reply_of a = record { number = answer_number a; extension = a.extension }

-- an answer so, beside what it leaves
abbrev pub replied : {A : Type 0} → A × Answer → A × Reply
replied w = (w.0, reply_of w.1)

abbrev pub shut_reply : Reply
shut_reply = record { number = 8; extension = 0 }

abbrev pub taken_mark : Outcome → ℕ
taken_mark Taken = 1
taken_mark SetAside = 0
taken_mark (Refused r) = 0

-- the message of a kind that is held; that of kind 155, whose record stands beside it, where it is of none
abbrev pub lasting_in : Message → LastingMessage
lasting_in (Lasting m) = m
lasting_in (Passing m) = lasting.RegionWise
lasting_in Nothing = lasting.RegionWise

-- what a message leaves of kind k where nothing was held; p is the record of kind 155 that stands beside it
abbrev pub leaving : (k : lastings.Lasting) → LastingMessage → RegionWise → lastings.HeldOf k
leaving k m p = held_of k (held_lasting nothing m p)

-- whatever stands beside it, of a kind whose record does not
abbrev pub leaving_of : (k : lastings.Lasting) → LastingMessage → lastings.HeldOf k
leaving_of k m = leaving k m (zeros kinds.RegionWise)

unfoldable pub filling : (k : lastings.Lasting) → ℕ → List ℕ → Reply × (ℕ × lastings.HeldOf k)
filling k size bytes =
    let a = answer_to (number (lastings.kind_of k)) size bytes in
    (reply_of a, (taken_mark a.outcome, leaving k (lasting_in a.message) a.beside.region_wise))

-- the same as a struct
unfoldable pub filled_of : (k : lastings.Lasting) → ℕ → List ℕ → Filled (lastings.HeldOf k)
filled_of k size bytes = let f = filling k size bytes in record { reply = f.0; taken = f.1.0; held = f.1.1 }

-- the struct with what is held seen by f
abbrev pub filled_as : {A B : Type 0} → (A → B) → Filled A → Filled B
filled_as f x = record { reply = x.reply; taken = x.taken; held = f x.held }

-- what is left of the five, with that in its place where it is taken, and what is answered
abbrev pub storing : (k : lastings.Lasting) → Held → Filled (lastings.HeldOf k) → Held × Reply
storing k h x = (if eqb x.taken 0 then h else replaced k h x.held, x.reply)

-- what an answer leaves of the five, and comes to for a C caller
abbrev pub left_by : Held → Answer → Held × Reply
left_by h a = (held_after h a, reply_of a)
