-- What a payload comes to of a kind with a tail, by what reading its message came to and by how it ends.
use Rattle.std.specs.Prelude.{ℕ, List, Ok, Err}
use Rattle.bits.specs.Out.{Out, taken, refused}
use Rattle.bits.specs.Tail.{Ending, tail_at}
use Rattle.answers.specs.Answer.{brief_of, refused_as, finished}
use Rattle.answers.specs.declared.Brief.{Brief}
use Rattle.answers.specs.declared.Outcome.{Outcome}
use Rattle.answers.specs.declared.kind.Kind.{Kind}
use Rattle.answers.specs.declared.kind.Message.{Message}

-- all but the record that may stand beside the message
abbrev pub answered : Kind → Outcome → List ℕ → Out Message → Brief
answered k o s (taken m q) = brief_of (finished k o m (tail_at s q))
answered k o s (refused r) = brief_of (refused_as k r)

-- and that record: zeros on a refusal
abbrev pub kept : {A : Type 0} → A → A → Ending → A
kept zero a (Ok e) = a
kept zero a (Err r) = zero

abbrev pub recorded : {A : Type 0} → A → List ℕ → Out A → A
recorded zero s (taken a q) = kept zero a (tail_at s q)
recorded zero s (refused r) = zero
