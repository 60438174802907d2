-- No byte past the stated size has any effect on the part of user data that is handed back.
-- Assumes nothing.
use Prim.Native.Nat.{ℕ, zero, suc, ◌-◌, ◌≤◌}
use mathlib.Core.Path.{◌≡◌, refl, sym, ap, ◌∙◌}
use mathlib.Core.List.{List, [], ◌∷◌}
use native.Mathlib.Omega.{arith}
use native.Mathlib.Numerals.{unary_clauses}
use lib.ListN.{length, take, drop}
use Rattle.std.specs.Prelude.{Option, Some, None}
use Rattle.reader.specs.Reader.{answer_to}
use Rattle.reader.specs.User.{part_from, user_part}
use Rattle.reader.proofs.Local.{local}

take_none : (m : ℕ) → ◌≡◌ {A = List ℕ} (take m []) []
take_none zero = refl
take_none (suc m) = refl

-- the bytes from k up to the size are those of the payload from k on
within : (k n : ℕ) (s : List ℕ) → take (n - k) (drop k s) ≡ drop k (take n s)
within zero n s = simp unary_clauses refl
within (suc k) zero s = let z : 0 - suc k ≡ 0 = omega arith in ap (λ (m : ℕ). take m (drop (suc k) s)) z
within (suc k) (suc n) [] = take_none (suc n - suc k)
within (suc k) (suc n) (x ∷ s) = simp unary_clauses (within k n s)

from_start : (x : Option ℕ) (size : ℕ) (s t : List ℕ) → take size s ≡ take size t → part_from x size s ≡ part_from x size t
from_start (Some k) size s t e = within k size s ∙ ap (drop k) e ∙ sym (within k size t)
from_start None size s t e = refl

pub user-part-local : (n size : ℕ) (s t : List ℕ) → size ≤ length s → size ≤ length t → take size s ≡ take size t → user_part n size s ≡ user_part n size t
unfolding user_part
user-part-local n size s t h l e = ap (λ x. part_from x.rest size s) (local n size s t h l e) ∙ from_start (answer_to n size t).rest size s t e
