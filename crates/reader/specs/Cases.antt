-- Demands 1 and 2: the ways in which a call can end, each with what is then so of the payload's bits and with the whole answer.
use Rattle.std.specs.Prelude.{ℕ, ◌≡◌, ◌≢◌, Bool, true, false, List, take}
use Rattle.bits.specs.Bits.{bits_of}
use Rattle.bits.specs.Refusals.{by_size}
use Rattle.bits.specs.declared.refusal.Refusal.{Refusal}
use Rattle.bits.specs.declared.refusal.Refusal.TheVariants.{Tail}
use Rattle.format.specs.Stopped.{Stopped}
use Rattle.format.specs.Holds.{Holds, BadTail}
use Rattle.answers.specs.Listed.{Record, form, number}
use Rattle.answers.specs.Answer.{made, refused_as, unknown}
use Rattle.answers.specs.declared.kind.Kind.{Kind}
use Rattle.answers.specs.declared.Outcome.TheVariants.{Taken, SetAside}
use Rattle.reader.specs.Reader.{answer_to, Over, Within}

-- the bits of the stated bytes
abbrev pub stated : ℕ → List ℕ → List Bool
stated size bytes = bits_of (take size bytes)

pub data Case (n size : ℕ) (bytes : List ℕ) : Type 0 where
  -- 1: the kind is none of those listed, and there are no fields
  unlisted : ((k : Kind) → n ≢ number k) → answer_to n size bytes ≡ unknown → Case n size bytes
  -- 2, with zeros, as in every refusal of a listed kind: the size exceeds the limit or the lent bytes
  oversized : (k : Kind) → n ≡ number k → Over size bytes → answer_to n size bytes ≡ refused_as k by_size → Case n size bytes
  -- 3 to 6: the elements stop it
  stops : (k : Kind) → Within k n size bytes → (r : Refusal) → Stopped (form k).table (stated size bytes) r → answer_to n size bytes ≡ refused_as k r → Case n size bytes
  -- 7: a message stands there, and what follows it is not permitted
  tail : (k : Kind) → Within k n size bytes → BadTail (form k) (stated size bytes) → answer_to n size bytes ≡ refused_as k Tail → Case n size bytes
  -- 20: a message and what may follow it, to be set aside
  aside : (k : Kind) → Within k n size bytes → (a : Record k) (e : ℕ) → Holds (form k) (stated size bytes) a e → (form k).aside a ≡ true
      → answer_to n size bytes ≡ made k SetAside a e → Case n size bytes
  -- 0: the same, and not to be set aside
  taken : (k : Kind) → Within k n size bytes → (a : Record k) (e : ℕ) → Holds (form k) (stated size bytes) a e → (form k).aside a ≡ false
      → answer_to n size bytes ≡ made k Taken a e → Case n size bytes
