-- A whole payload, said of its bits: a message, and then what may follow it.
use Rattle.std.specs.Prelude.{ℕ, ◌≡◌, Bool, true, false, List, ◌++◌}
use Rattle.bits.specs.Ended.{Ended}
use Rattle.bits.specs.declared.refusal.Refusal.{Refusal}
use Rattle.format.specs.Form.{Form}
use Rattle.format.specs.Coded.{Coded}
use Rattle.format.specs.Stopped.{Stopped}

-- what may follow a message, with an extension of e bits ..
abbrev pub Follows : Bool → List Bool → ℕ → Type 0
Follows true rest e = Ended rest e
Follows false rest e = e ≡ 0

-- .. the bits w are the message a and what may follow it ..
pub record Holds {A : Type 0} (k : Form A) (w : List Bool) (a : A) (e : ℕ) : Type 0 where
  pub message : List Bool
  pub rest : List Bool
  pub split : w ≡ message ++ rest
  pub coded : Coded k.table message a
  pub follows : Follows k.tailed rest e

-- .. or a message and what may not follow it.
pub record BadTail {A : Type 0} (k : Form A) (w : List Bool) : Type 0 where
  pub value : A
  pub message : List Bool
  pub rest : List Bool
  pub split : w ≡ message ++ rest
  pub coded : Coded k.table message value
  pub can : k.tailed ≡ true
  pub none : (e : ℕ) → Ended rest e → ⊥

-- The three ways of a payload: a message and what may follow it, bits that stop it, or a message and what may not follow it.
pub data Seen {A : Type 0} (k : Form A) (w : List Bool) : Type 0 where
  holds : (a : A) (e : ℕ) → Holds k w a e → Seen k w
  stops : (r : Refusal) → Stopped k.table w r → Seen k w
  tail : BadTail k w → Seen k w
