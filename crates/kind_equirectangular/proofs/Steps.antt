-- How the reader's proof follows the table: as any reader's, and past a guard band type, whose contract speaks of the element.
-- Assumes nothing.
use Prim.Native.Nat.{ℕ}
use mathlib.Core.Path.{◌≡◌}
use mathlib.Core.List.{List}
use Rattle.bits.specs.Out.{after}
use Rattle.format.specs.Format.{Format, read}
use Rattle.format.specs.Reading.{element_at, run_at}
use Rattle.format.specs.Syntax.{guard_type}
use Rattle.format.proofs.Steps.{reading, step}

-- a guard band type, and then what follows it
pub step_guard : {R A : Type 0} (g : R → ℕ) (k : ℕ → Format R A) (s : List ℕ) (p : ℕ)
    → run_at (read guard_type g k) s p ≡ after (element_at guard_type s p) (λ m q. run_at (k m) s q)
step_guard = step guard_type

-- what the goals of the reader want
pub ruleset steps = (reading, step_guard)
