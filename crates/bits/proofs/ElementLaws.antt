-- The laws of u(n), each over n, and of ue(v).
-- Assumes nothing.
use Prim.Native.Nat.{ℕ, zero, suc, ◌+◌, ◌-◌, ◌*◌, ◌^◌, ◌≤◌, ◌<◌}
use mathlib.Core.Path.{◌≡◌, refl, sym, ap, ap₂, ◌∙◌}
use mathlib.Core.Logic.{◌⊎◌, inl, inr}
use mathlib.Core.Bool.{Bool, true, false}
use mathlib.Core.List.{List, [], ◌∷◌}
use native.Mathlib.Nat.{add-zero, zero-add, add-suc, suc-add, pow-suc}
use native.Mathlib.Omega.{arith}
use lib.ListN.{length, take, drop}
use lib.Seq.{length-take-le}
use lib.Pow.{pow_pos}
use lib.Count.{count_leading_zeros, leading_unique}
use borrow.Author.Tests.{le-leb, lt-leb}
use Rattle.bits.specs.Bits.{bits_in, part, from, unsigned_of}
use Rattle.bits.specs.Out.{Out, taken, refused, placed}
use Rattle.bits.specs.Elements.{u_front, meant, ue_after, u_at, ue_at, leading}
use Rattle.bits.specs.declared.refusal.Refusal.TheVariants.{Short, Zeros}
use Rattle.bits.proofs.BitLaws.{below, number_lt, length_part, length_from, take-from, drop-from}

-- ---- u(n)

pub u-fits : (n : ℕ) (w : List Bool) → n ≤ length w → u_front n w ≡ taken (unsigned_of (take n w)) n
unfolding u_front
u-fits n w h = rw (le-leb _ _ h)

pub u-breaks : (n : ℕ) (w : List Bool) → length w < n → u_front n w ≡ refused Short
unfolding u_front
u-breaks n w h = rw (lt-leb _ _ h)

-- at bit p of a payload: the number of its n bits, or 3 where one of them lacks
pub u-value : (s : List ℕ) (p n : ℕ) → n ≤ bits_in s - p → u_at s p n ≡ taken (unsigned_of (part s p n)) (p + n)
unfolding u_at
u-value s p n h = rw (u-fits n (from s p) (omega (arith, length_from s p)), take-from s p n h)

pub u-short : (s : List ℕ) (p n : ℕ) → bits_in s - p < n → u_at s p n ≡ refused Short
unfolding u_at
u-short s p n h = rw (u-breaks n (from s p) (omega (arith, length_from s p)))

-- what u(n) reads is below 2 ^ n
front_below : (p n : ℕ) (w : List Bool) {v q : ℕ} → placed p (u_front n w) ≡ taken v q → v < 2 ^ n
front_below p n w {v} {q} e = go (below (length w) n)
  where
    go : (length w < n) ⊎ (n ≤ length w) → v < 2 ^ n
    go (inl l) = let z : ◌≡◌ {A = ℕ} 0 1 = cc (ap (placed p) (u-breaks n w l)) in absurd (omega arith)
    go (inr l) =
        let k : v ≡ unsigned_of (take n w) = cc (ap (placed p) (u-fits n w l)) in
        rw k (rw (length-take-le n w l) at (number_lt (take n w)))

pub u-below : (s : List ℕ) (p n : ℕ) {v q : ℕ} → u_at s p n ≡ taken v q → v < 2 ^ n
unfolding u_at
u-below s p n e = front_below p n (from s p) e

-- ---- the zeros that bits start with

pub leading-most : (d : ℕ) (w : List Bool) → leading d w ≤ d
unfolding leading
leading-most zero w = omega arith
leading-most (suc d) [] = omega arith
leading-most (suc d) (true ∷ w) = omega arith
leading-most (suc d) (false ∷ w) = omega (arith, leading-most d w)

pub leading-inside : (d : ℕ) (w : List Bool) → leading d w ≤ length w
unfolding leading
leading-inside zero w = omega arith
leading-inside (suc d) [] = omega arith
leading-inside (suc d) (true ∷ w) = omega arith
leading-inside (suc d) (false ∷ w) = omega (arith, leading-inside d w)

-- d bits say how many of them there are
leading-take : (d : ℕ) (w : List Bool) → leading d (take d w) ≡ leading d w
unfolding leading
leading-take zero w = refl
leading-take (suc d) [] = refl
leading-take (suc d) (true ∷ w) = refl
leading-take (suc d) (false ∷ w) = ap suc (leading-take d w)

-- without its leading zeros a number is as long as without those of its bits
leading-bounds : (d : ℕ) (w : List Bool) → length w ≤ d → (unsigned_of w < 2 ^ (length w - leading d w)) × (2 ^ (length w - leading d w) ≤ 2 * unsigned_of w + 1)
unfolding leading unsigned_of
leading-bounds zero [] h = omega arith
leading-bounds (suc d) [] h = omega arith
leading-bounds zero (b ∷ w) h = absurd (omega arith)
leading-bounds (suc d) (true ∷ w) h =
    let all : suc (length w) - 0 ≡ suc (length w) = omega arith in
    rw (all, pow-suc) (omega (arith, number_lt w))
leading-bounds (suc d) (false ∷ w) h =
    let less : suc (length w) - suc (leading d w) ≡ length w - leading d w = omega arith in
    rw less (omega (arith, leading-bounds d w (omega arith)))

-- the zeros that at most d bits start with are the leading zeros of their number, less those that d bits have more
leading-number : (d : ℕ) (w : List Bool) → length w ≤ d → d - length w + leading d w ≡ count_leading_zeros d (unsigned_of w)
leading-number d w h =
    let b = leading-bounds d w h in
    leading_unique d (unsigned_of w) (d - length w + leading d w) (length w - leading d w) (omega (arith, leading-inside d w)) b.0 b.1

-- from p on: where n bits are left, and at most d; and where d are there
pub leading-left : (d : ℕ) (s : List ℕ) (p n : ℕ) → n ≡ bits_in s - p → n ≤ d → d - n + leading d (from s p) ≡ count_leading_zeros d (unsigned_of (part s p n))
unfolding from
leading-left d s p n e h =
    let long = length_part s p n in
    rw (← e) (ap (λ k. d - k + leading d (part s p n)) (sym long) ∙ leading-number d (part s p n) (omega arith))

pub leading-whole : (d : ℕ) (s : List ℕ) (p : ℕ) → d ≤ bits_in s - p → leading d (from s p) ≡ count_leading_zeros d (unsigned_of (part s p d))
leading-whole d s p h =
    let long = length_part s p d in
    sym (leading-take d (from s p)) ∙ ap (leading d) (take-from s p d h) ∙ omega (arith, leading-number d (part s p d) (omega arith))

-- ---- ue(v)

-- after 32 zeros
ue-zeros : (z k : ℕ) (w : List Bool) → leading k w ≡ k → ue_after z k w ≡ refused Zeros
unfolding ue_after leading
ue-zeros z zero w e = refl
ue-zeros z (suc k) [] e = absurd (omega arith)
ue-zeros z (suc k) (true ∷ w) e = absurd (omega arith)
ue-zeros z (suc k) (false ∷ w) e = ue-zeros (suc z) k w (omega arith)

-- one less
abbrev pub less_one : Out ℕ → Out ℕ
less_one (taken x n) = taken (x - 1) n
less_one (refused r) = refused r

first_one : (z : ℕ) (w : List Bool) → z ≤ length w → 2 ^ z - 1 + unsigned_of (take z w) ≡ unsigned_of (take (suc z) (true ∷ w)) - 1
unfolding unsigned_of
first_one z w h = rw (length-take-le z w h) (omega (arith, pow_pos z))

-- the one and the z bits after it make one more than the meaning
at_one : (z : ℕ) (w : List Bool) → meant z (u_front z w) ≡ placed z (less_one (u_front (z + 1) (true ∷ w)))
at_one z w = go (below (length w) z)
  where
    go : (length w < z) ⊎ (z ≤ length w) → meant z (u_front z w) ≡ placed z (less_one (u_front (z + 1) (true ∷ w)))
    go (inl l) = rw (u-breaks z w l, u-breaks (z + 1) (true ∷ w) (omega arith))
    go (inr l) =
        let e : z + 1 ≡ suc z = omega arith in
        rw (u-fits z w l, u-fits (z + 1) (true ∷ w) (omega arith)) (rw e (ap₂ taken (first_one z w l) (omega arith)))

-- ue(v) whose zeros are counted: u(z + 1) from its one on, less 1
ue-by-u : (z k : ℕ) (w : List Bool) → leading k w < k → ue_after z k w ≡ placed (z + leading k w) (less_one (u_front (z + leading k w + 1) (drop (leading k w) w)))
unfolding ue_after leading
ue-by-u z zero w h = absurd (omega arith)
ue-by-u z (suc k) [] h = rw (u-breaks (z + 0 + 1) [] (omega arith))
ue-by-u z (suc k) (true ∷ w) h = rw add-zero (at_one z w)
ue-by-u z (suc k) (false ∷ w) h = rw (add-suc, ← (suc-add z (leading k w))) (ue-by-u (suc z) k w (omega arith))

placed_less : (p z : ℕ) (o : Out ℕ) → placed p (placed z (less_one o)) ≡ less_one (placed (p + z) o)
placed_less p z (taken x n) = ap (taken (x - 1)) (omega arith)
placed_less p z (refused r) = refl

pub ue-at : (s : List ℕ) (p z : ℕ) → z ≡ leading 32 (from s p) → z < 32 → ue_at s p ≡ less_one (u_at s (p + z) (z + 1))
unfolding ue_at u_at
ue-at s p z e h =
    ap (placed p) (ue-by-u 0 32 (from s p) (omega arith))
    ∙ rw (zero-add, ← e, drop-from s p z) (placed_less p z (u_front (z + 1) (from s (p + z))))

pub ue-at-zeros : (s : List ℕ) (p : ℕ) → 32 ≡ leading 32 (from s p) → ue_at s p ≡ refused Zeros
unfolding ue_at
ue-at-zeros s p e = ap (placed p) (ue-zeros 0 32 (from s p) (sym e))

-- where the zeros end before the payload does, a one follows them
one_follows : (k : ℕ) (w : List Bool) → leading k w < k → (n : ℕ) {x m : ℕ} → u_front (n + 1) (drop (leading k w) w) ≡ taken x m → 0 < x
unfolding leading unsigned_of
one_follows zero w h n e = absurd (omega arith)
one_follows (suc k) [] h n e = let z : ◌≡◌ {A = ℕ} 0 1 = cc (u-breaks (n + 1) [] (omega arith)) in absurd (omega arith)
one_follows (suc k) (false ∷ w) h n e = one_follows k w (omega arith) n e
one_follows (suc k) (true ∷ w) h n {x} {m} e = go (below (length (true ∷ w)) (n + 1))
  where
    go : (length (true ∷ w) < n + 1) ⊎ (n + 1 ≤ length (true ∷ w)) → 0 < x
    go (inl l) = let z : ◌≡◌ {A = ℕ} 0 1 = cc (u-breaks (n + 1) (true ∷ w) l) in absurd (omega arith)
    go (inr l) =
        let f : n + 1 ≡ suc n = omega arith in
        let g : u_front (suc n) (true ∷ w) ≡ taken x m = rw f at e in
        let v : x ≡ unsigned_of (take (suc n) (true ∷ w)) = cc (u-fits (suc n) (true ∷ w) (omega arith)) in
        omega (arith, pow_pos (length (take n w)))

at_front : (p : ℕ) (o : Out ℕ) {x q : ℕ} → placed p o ≡ taken x q → (m : ℕ) × (o ≡ taken x m)
at_front p (taken y m) {x} e = (m, cc)
at_front p (refused r) e = let z : ◌≡◌ {A = ℕ} 0 1 = cc in absurd (omega arith)

-- so what u(z + 1) reads there is not 0
pub ue-some : (s : List ℕ) (p z : ℕ) → z ≡ leading 32 (from s p) → z < 32 → {x q : ℕ} → u_at s (p + z) (z + 1) ≡ taken x q → 0 < x
unfolding u_at
ue-some s p z e h r =
    let f = at_front (p + z) (u_front (z + 1) (from s (p + z))) r in
    one_follows 32 (from s p) (omega arith) z
    (ap (u_front (z + 1)) (ap (λ k. drop k (from s p)) (sym e) ∙ drop-from s p z) ∙ f.1)
