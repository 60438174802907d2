-- From the code to the bits: what `read` answers for a payload's first bit says whether the payload's bits are a message, and which.
-- Assumes nothing.
use Prim.Native.Nat.{ℕ, ◌≤◌}
use mathlib.Core.Path.{◌≡◌, sym, ◌∙◌}
use mathlib.Core.Logic.{◌↔◌}
use mathlib.Core.List.{List}
use lib.ListN.{take}
use Rattle.std.specs.Prelude.{Result}
use Rattle.bits.specs.Answers.{out_of}
use Rattle.bits.specs.Bits.{bits_in, bits_of}
use Rattle.bits.specs.Out.{taken, refused}
use Rattle.bits.specs.declared.cursor.Cursor.{Cursor}
use Rattle.bits.specs.declared.refusal.Refusal.{Refusal}
use Rattle.format.specs.Coded.{Coded}
use Rattle.format.specs.Stopped.{Stopped}
use Rattle.format.specs.Reading.{run_at}
use Rattle.format.proofs.Payload.{payload-taken, payload-stopped}
use Rattle.kind_orientation.specs.Orientation.{orientation}
use Rattle.kind_orientation.specs.declared.Orientation.{Orientation}

-- r is what `read` ensures of its result for the payload s and its first bit
module _ (s : List ℕ) (r : Result (Orientation × Cursor) Refusal) (ensured : out_of r ≡ run_at orientation s 0) where
  -- a record exactly where the first q bits are the message a
  pub taken-iff : (a : Orientation) (q : ℕ) → (out_of r ≡ taken a q) ↔ ((q ≤ bits_in s) × Coded orientation (take q (bits_of s)) a)
  taken-iff a q = (λ h. (payload-taken orientation s a q).0 (sym ensured ∙ h), λ d. ensured ∙ (payload-taken orientation s a q).1 d)

  -- a refusal exactly where the bits stop it
  pub refused-iff : (t : Refusal) → (out_of r ≡ refused t) ↔ Stopped orientation (bits_of s) t
  refused-iff t = (λ h. (payload-stopped orientation s t).0 (sym ensured ∙ h), λ d. ensured ∙ (payload-stopped orientation s t).1 d)
