-- Worked examples of RULES 2 and 6, by computation.
-- Assumes nothing.
use mathlib.Core.Path.{◌≡◌, refl}
use mathlib.Core.List.{[], ◌∷◌}
use lib.IntN.{negsuc}
use Rattle.bits.specs.Bits.{bit_at, part, from, unsigned_of}
use Rattle.bits.specs.Out.{taken, refused}
use Rattle.bits.specs.Elements.{u_front, ue_after, u_at, ue_at}
use Rattle.bits.specs.Signed.{signed_of}
use Rattle.bits.specs.Tail.{last_one, tail_of, tail_at}
use Rattle.std.specs.Prelude.{Ok, Err}
use Rattle.bits.specs.declared.refusal.Refusal.TheVariants.{Short, Zeros, Tail}

u-32 : u_at (0x40 ∷ 0x00 ∷ 0x5a ∷ 0x00 ∷ 0x01 ∷ []) 8 32 ≡ taken 0x5a0001 40
unfolding u_at u_front from part unsigned_of bit_at
u-32 = refl

-- 00 00 00 is 3, and 00 00 00 00 is 4
ue-short : ue_at (0 ∷ 0 ∷ 0 ∷ []) 0 ≡ refused Short
unfolding ue_at ue_after u_front from part unsigned_of bit_at
ue-short = refl

ue-zeros : ue_at (0 ∷ 0 ∷ 0 ∷ 0 ∷ []) 0 ≡ refused Zeros
unfolding ue_at ue_after u_front from part unsigned_of bit_at
ue-zeros = refl

ue-largest : ue_at (0 ∷ 0 ∷ 0 ∷ 1 ∷ 255 ∷ 255 ∷ 255 ∷ 254 ∷ []) 0 ≡ taken 4294967294 63
unfolding ue_at ue_after u_front from part unsigned_of bit_at
ue-largest = refl

-- -180 degrees, and the least number of all
least-yaw : signed_of 0xff4c0000 ≡ negsuc 11796479
unfolding signed_of
least-yaw = refl

least : signed_of 0x80000000 ≡ negsuc 2147483647
unfolding signed_of
least = refl

-- kind 154, after its cancel flag: 80 is 7, C0 and FF have extensions of 0 and 6 bits
tail-80 : tail_at (0x80 ∷ []) 1 ≡ Err Tail
unfolding tail_at tail_of last_one from part bit_at
tail-80 = refl

tail-c0 : tail_at (0xc0 ∷ []) 1 ≡ Ok 0
unfolding tail_at tail_of last_one from part bit_at
tail-c0 = refl

tail-ff : tail_at (0xff ∷ []) 1 ≡ Ok 6
unfolding tail_at tail_of last_one from part bit_at
tail-ff = refl

-- a one bit before the final byte is not enough
tail-early : tail_at (0xff ∷ 0x00 ∷ []) 1 ≡ Err Tail
unfolding tail_at tail_of last_one from part bit_at
tail-early = refl
