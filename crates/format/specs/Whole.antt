-- Reading a whole payload: a message, and then what may follow it.
use Rattle.std.specs.Prelude.{ℕ, Bool, true, false, List, drop, Ok, Err}
use Rattle.bits.specs.Out as out
use Rattle.bits.specs.Tail.{Ending, tail_of}
use Rattle.bits.specs.declared.refusal.Refusal.{Refusal}
use Rattle.format.specs.Form.{Form}
use Rattle.format.specs.Reading.{run}

-- what reading a whole payload comes to: the message, taken or set aside, with the extension's length; or the refusal
pub data Reading (A : Type 0) : Type 0 where
  taken : A → ℕ → Reading A
  set_aside : A → ℕ → Reading A
  refused : Refusal → Reading A

-- how a payload ends after its message; where a kind has no tail, all that is left is the message's own
abbrev pub ending : Bool → List Bool → Ending
ending true rest = tail_of rest
ending false rest = Ok 0

module _ {A : Type 0} where
  -- 20 is judged last
  abbrev pub given : Bool → A → ℕ → Reading A
  given true a e = set_aside a e
  given false a e = taken a e

  -- after 7
  abbrev pub ended : (A → Bool) → A → Ending → Reading A
  ended aside a (Ok e) = given (aside a) a e
  ended aside a (Err r) = refused r

  -- after the elements
  abbrev pub closed : Form A → List Bool → out.Out A → Reading A
  closed k w (out.taken a n) = ended k.aside a (ending k.tailed (drop n w))
  closed k w (out.refused r) = refused r

  unfoldable pub whole : Form A → List Bool → Reading A
  whole k w = closed k w (run k.table w)
