-- The bytes of an element of 128 bits.
-- Assumes nothing.
use Prim.Native.Nat.{ℕ, zero, suc, ◌+◌, ◌-◌, ◌*◌, ◌/◌, ◌%◌, ◌<◌}
use mathlib.Core.Path.{◌≡◌, refl, sym, ap, ◌∙◌}
use mathlib.Core.List.{List, [], ◌∷◌, ◌++◌, append_assoc}
use native.Mathlib.Numerals.{add-one}
use native.Mathlib.Omega.{arith}
use lib.ListN.{length, length-append, replicate, set}
use lib.Seq.{set_at}
use Rattle.bits.specs.Bits.{part, unsigned_of}
use Rattle.bits.specs.Identifier.{bytes_of}
use Rattle.bits.proofs.BitLaws.{number-split, part-fits}

length-bytes : (n v : ℕ) → length (bytes_of n v) ≡ n
unfolding bytes_of
length-bytes zero v = refl
length-bytes (suc n) v = length-append (bytes_of n (v / 256)) _ ∙ omega (arith, length-bytes n (v / 256))

-- one byte more
bytes_next : (s : List ℕ) (p i : ℕ) → bytes_of (i + 1) (unsigned_of (part s p (8 * (i + 1)))) ≡ bytes_of i (unsigned_of (part s p (8 * i))) ++ (unsigned_of (part s (p + 8 * i) 8) ∷ [])
unfolding bytes_of
bytes_next s p i =
    let h = unsigned_of (part s p (8 * i)) in
    let l = unsigned_of (part s (p + 8 * i) 8) in
    let m : 8 * (i + 1) ≡ 8 * i + 8 = omega arith in
    let e : unsigned_of (part s p (8 * (i + 1))) ≡ h * 256 + l =
    ap (λ k. unsigned_of (part s p k)) m ∙ number-split s p (8 * i) 8 in
    let small : l < 256 = part-fits s (p + 8 * i) 8 8 (omega arith) in
    let high : (h * 256 + l) / 256 ≡ h = omega arith in
    let low : (h * 256 + l) % 256 ≡ l = omega arith in
    rw (e, add-one, high, low)

-- the array after i bytes: those, and zeros
abbrev pub filled : List ℕ → ℕ → ℕ → List ℕ
filled s p i = bytes_of i (unsigned_of (part s p (8 * i))) ++ replicate (16 - i) 0

pub fill-next : (s : List ℕ) (p i : ℕ) → i < 16 → set (filled s p i) i (unsigned_of (part s (p + 8 * i) 8)) ≡ filled s p (i + 1)
fill-next s p i h =
    let m : 16 - i ≡ suc (16 - (i + 1)) = omega arith in
    let b = bytes_of i (unsigned_of (part s p (8 * i))) in
    ap (λ k. set (b ++ replicate k 0) i (unsigned_of (part s (p + 8 * i) 8))) m
    ∙ set_at b 0 (replicate (16 - (i + 1)) 0) (unsigned_of (part s (p + 8 * i) 8)) i (length-bytes i _)
    ∙ sym (append_assoc b (unsigned_of (part s (p + 8 * i) 8) ∷ []) (replicate (16 - (i + 1)) 0))
    ∙ ap (λ x. x ++ replicate (16 - (i + 1)) 0) (sym (bytes_next s p i))
