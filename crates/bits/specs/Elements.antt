-- What reading an element finds at the front of the bits w: its number and how many bits it took, or a refusal.
use Rattle.std.specs.Prelude.{ℕ, zero, suc, ◌+◌, ◌-◌, ◌^◌, Bool, true, false, List, [], ◌∷◌, length, take, leb, if◌then◌else◌}
use Rattle.bits.specs.Bits.{from, unsigned_of}
use Rattle.bits.specs.Coding.{Shape, unsigned, exp_golomb}
use Rattle.bits.specs.Out.{Out, taken, refused, placed}
use Rattle.bits.specs.declared.refusal.Refusal.TheVariants.{Short, Zeros}

-- u(n)
unfoldable pub u_front : ℕ → List Bool → Out ℕ
u_front n w = if leb n (length w) then taken (unsigned_of (take n w)) n else refused Short

-- the meaning of a ue(v) with z zeros whose z last bits make x: 2 ^ z - 1 + x
abbrev pub meant : ℕ → Out ℕ → Out ℕ
meant z (taken x n) = taken (2 ^ z - 1 + x) (z + 1 + n)
meant z (refused r) = refused r

-- ue(v) after z zeros, of which the (k + z)th is one too many
unfoldable pub ue_after : ℕ → ℕ → List Bool → Out ℕ
ue_after z zero w = refused Zeros
ue_after z (suc k) [] = refused Short
ue_after z (suc k) (false ∷ w) = ue_after (suc z) k w
ue_after z (suc k) (true ∷ w) = meant z (u_front z w)

-- ue(v): a 32nd zero is one too many
abbrev pub ue_front : List Bool → Out ℕ
ue_front w = ue_after 0 32 w

-- the same at bit p of the payload s
unfoldable pub u_at : List ℕ → ℕ → ℕ → Out ℕ
u_at s p n = placed p (u_front n (from s p))

unfoldable pub ue_at : List ℕ → ℕ → Out ℕ
ue_at s p = placed p (ue_front (from s p))

-- reading an element of a shape at the front of w
abbrev pub shape_front : Shape → List Bool → Out ℕ
shape_front (unsigned n) w = u_front n w
shape_front exp_golomb w = ue_front w

-- and at bit p of the payload s
abbrev pub shape_at : Shape → List ℕ → ℕ → Out ℕ
shape_at (unsigned n) s p = u_at s p n
shape_at exp_golomb s p = ue_at s p

-- how many zeros w starts with, counted to at most d
unfoldable pub leading : ℕ → List Bool → ℕ
leading zero w = 0
leading (suc d) [] = 0
leading (suc d) (true ∷ w) = 0
leading (suc d) (false ∷ w) = suc (leading d w)
