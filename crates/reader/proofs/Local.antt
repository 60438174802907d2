-- No byte past the stated size has any effect: where two lent slices are both at least that long and agree in their first size bytes,
-- the answers are equal.
-- Assumes nothing.
use Prim.Native.Nat.{ℕ, ◌≤◌}
use mathlib.Core.Path.{◌≡◌, sym, ap, ◌∙◌}
use mathlib.Core.Logic.{inl, inr}
use mathlib.Core.List.{List}
use native.Mathlib.Omega.{arith}
use lib.ListN.{length, take}
use Rattle.answers.specs.Listed.{reading_of}
use Rattle.answers.specs.Answer.{answer_for}
use Rattle.reader.specs.Reader.{answer_to, Over}
use Rattle.reader.proofs.Calls.{to-unlisted, to-oversized, to-payload, Call, unlisted, oversized, payload, call}

pub local : (n size : ℕ) (s t : List ℕ) → size ≤ length s → size ≤ length t → take size s ≡ take size t → answer_to n size s ≡ answer_to n size t
local n size s t h l e = go (call n size s)
  where
    over : Over size s → Over size t
    over (inl o) = inl o
    over (inr o) = absurd (omega arith)

    go : Call n size s → answer_to n size s ≡ answer_to n size t
    go (unlisted f m) = m ∙ sym (to-unlisted n size t f)
    go (oversized k f o m) = m ∙ sym (to-oversized n size t k f (over o))
    go (payload k w m) = m ∙ ap (λ x. answer_for k (reading_of k x)) e ∙ sym (to-payload n size t k (w.0, w.1, l))
