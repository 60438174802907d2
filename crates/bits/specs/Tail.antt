-- The end of a payload: w is all that is left of it after its message.
use Rattle.std.specs.Prelude.{ℕ, suc, ◌+◌, Bool, true, false, List, [], ◌∷◌, length, leb, Result, Ok, Err, if◌then◌else◌}
use Rattle.bits.specs.Bits.{from}
use Rattle.bits.specs.Refusals.{refusal_number}
use Rattle.bits.specs.declared.refusal.Refusal.{Refusal}
use Rattle.bits.specs.declared.refusal.Refusal.TheVariants.{Tail}

-- the place of the last one bit, if there is one
pub data Last : Type 0 where
  none : Last
  at : ℕ → Last

abbrev pub further : Bool → Last → Last
further b (at i) = at (suc i)
further true none = at 0
further false none = none

unfoldable pub last_one : List Bool → Last
last_one [] = none
last_one (b ∷ w) = further b (last_one w)

-- how a payload ends after its message: with how many bits of extension, or why it may not end so
abbrev pub Ending : Type 0
Ending = Result ℕ Refusal

-- the number of RULES 7: 0, with the extension's length, or the refusal's
abbrev pub ending_number : Ending → ℕ
ending_number (Ok e) = 0
ending_number (Err r) = refusal_number r

-- the last one bit must exist and lie in the final byte; the bits before it are the extension
abbrev pub judged : ℕ → Last → Ending
judged n none = Err Tail
judged n (at i) = if leb n (i + 8) then Ok i else Err Tail

-- with nothing left there is no tail
unfoldable pub tail_of : List Bool → Ending
tail_of [] = Ok 0
tail_of (b ∷ w) = judged (length (b ∷ w)) (last_one (b ∷ w))

unfoldable pub tail_at : List ℕ → ℕ → Ending
tail_at s p = tail_of (from s p)
