-- An element of 128 bits, as 16 bytes.
use Rattle.std.specs.Prelude.{ℕ, zero, suc, ◌/◌, ◌%◌, List, [], ◌∷◌, ◌++◌}
use Rattle.bits.specs.Out.{Out, taken, refused}

-- the n bytes of a number, the most significant first
unfoldable pub bytes_of : ℕ → ℕ → List ℕ
bytes_of zero v = []
bytes_of (suc n) v = bytes_of n (v / 256) ++ (v % 256 ∷ [])

-- u(128), as bytes
abbrev pub identifier_of : Out ℕ → Out (List ℕ)
identifier_of (taken v q) = taken (bytes_of 16 v) q
identifier_of (refused r) = refused r
