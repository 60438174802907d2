-- The part that `bruskelde_part` tells of is the one that the reader hands back.
-- Assumes nothing.
use Prim.Native.Nat.{ℕ}
use mathlib.Core.Path.{◌≡◌, refl}
use mathlib.Core.List.{List}
use lib.ListN.{take, drop}
use Rattle.std.specs.Prelude.{Option, Some, None}
use Rattle.reader.specs.Reader.{answer_to}
use Rattle.reader.specs.User.{part_from, user_part}
use Rattle.host.specs.declared.Part.{Part}
use Rattle.host.specs.Part.{part_at, part_of}

-- the bytes of a part
abbrev pub bytes_of : Part → List ℕ → List ℕ
bytes_of p bytes = take p.length (drop p.offset bytes)

by-start : (x : Option ℕ) (size : ℕ) (bytes : List ℕ) → bytes_of (part_at x size) bytes ≡ part_from x size bytes
by-start (Some k) size bytes = refl
by-start None size bytes = refl

pub part-handed-back : (n size : ℕ) (bytes : List ℕ) → bytes_of (part_of n size bytes) bytes ≡ user_part n size bytes
unfolding part_of user_part
part-handed-back n size bytes = by-start (answer_to n size bytes).rest size bytes
