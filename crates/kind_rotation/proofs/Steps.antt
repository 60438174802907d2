-- How the reader's proof follows the table: as any reader's, an angle in the record is the one that was read, and an angle that is not there is 0.
-- Assumes nothing.
use mathlib.Core.Path.{◌≡◌, refl}
use lib.IntN.{ℤ, pos}
use Rattle.std.proofs.Math.Facts.{to_z-of_z}
use Rattle.bits.specs.Refusals.{Verdict}
use Rattle.bits.specs.Signed.{signed_of}
use Rattle.format.specs.Format.{Format, ◌>>=◌, ◌of◌, zeros}
use Rattle.format.specs.Syntax.{i32}
use Rattle.format.proofs.Steps.{reading}
use Rattle.numbers.proofs.DegreeLaws.{zero_bits}

-- an angle, and then what follows it, where both are absent
pub zeros-angle : {R A : Type 0} (rule : ℤ → Verdict) (g : R → ℤ) (k : ℤ → Format R A) → zeros ((i32 rule of g) >>= k) ≡ zeros (k (pos 0))
unfolding i32 signed_of
zeros-angle rule g k = refl

-- what the goals of the reader want
pub ruleset steps = (reading, to_z-of_z, zeros-angle, zero_bits)
