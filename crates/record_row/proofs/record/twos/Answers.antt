-- the machine holds an i32 by the 32 bits of its two's complement
use mir.ValLaws.{to_z-of_z}
use Rattle.std.proofs.Common.{◌≡◌, ◌∙◌, refl, ℤ, pos, negsuc, of_z, w32}
use Rattle.bits.specs.Signed.{twos_of}
use Rattle.record_row.proofs.record.twos.Goals as goal

same : (z : ℤ) → of_z w32 z ≡ twos_of z
unfolding twos_of
same (pos n) = refl
same (negsuc n) = refl

pub returns : goal.returns
returns c = c.from.ensures ∙ c.cast_unsigned.ensures ∙ rw (to_z-of_z w32 c.args.c c.ranges.c) (same c.args.c)
