-- The laws of the last one bit, and of a payload's end.
-- Assumes nothing.
use Prim.Native.Nat.{ℕ, zero, suc, ◌+◌, ◌-◌, ◌/◌, ◌%◌, ◌^◌, ◌≤◌, ◌<◌}
use mathlib.Core.Path.{◌≡◌, refl, sym, ap, ◌∙◌}
use mathlib.Core.Bool.{Bool, true, false}
use mathlib.Core.List.{List, [], ◌∷◌, ◌++◌}
use native.Mathlib.Omega.{arith}
use native.Mathlib.Nat.{add-zero}
use lib.ListN.{length, get_or}
use lib.Dec.{eqb}
use lib.Count.{under, count_trailing_zeros, trailing_le}
use lib.Pow.{shr-shr}
use borrow.Author.Tests.{le-leb, lt-leb}
use Rattle.bits.specs.Bits.{bits_in, bit_at, part, from}
use Rattle.bits.specs.Tail.{Last, none, at, further, last_one, judged, tail_of, tail_at}
use Rattle.std.specs.Prelude.{Ok, Err}
use Rattle.bits.specs.declared.refusal.Refusal.TheVariants.{Tail}
use Rattle.bits.proofs.BitLaws.{length_part, part-add, from_end}

-- a last bit that is 0 is passed over; one that is 1 is the last one
last-zero : (w : List Bool) → last_one (w ++ false ∷ []) ≡ last_one w
unfolding last_one
last-zero [] = refl
last-zero (b ∷ w) = ap (further b) (last-zero w)

last_one_lem : (w : List Bool) → last_one (w ++ true ∷ []) ≡ at (length w)
unfolding last_one
last_one_lem [] = refl
last_one_lem (b ∷ w) = ap (further b) (last_one_lem w)

last-part-zero : (s : List ℕ) (p k : ℕ) → bit_at s (p + k) ≡ false → last_one (part s p (k + 1)) ≡ last_one (part s p k)
unfolding part
last-part-zero s p k b = ap last_one (part-add s p k 1) ∙ rw b (last-zero (part s p k))

last-part-one : (s : List ℕ) (p k : ℕ) → bit_at s (p + k) ≡ true → last_one (part s p (k + 1)) ≡ at k
unfolding part
last-part-one s p k b = ap last_one (part-add s p k 1) ∙ rw b (last_one_lem (part s p k)) ∙ ap at (length_part s p k)

-- the last one of w lies in w
last-inside : (w : List Bool) {i : ℕ} → last_one w ≡ at i → i < length w
unfolding last_one
last-inside [] e = let z : ◌≡◌ {A = ℕ} 0 1 = cc in absurd (omega arith)
last-inside (b ∷ w) {i} e = go b (last_one w) refl e (λ j h. last-inside w h)
  where
    go : (b : Bool) (l : Last) → last_one w ≡ l → further b l ≡ at i → ((j : ℕ) → last_one w ≡ at j → j < length w) → i < suc (length w)
    go b (at j) h e ih = let k : i ≡ suc j = cc in omega (arith, ih j h)
    go true none h e ih = let k : i ≡ 0 = cc in omega arith
    go false none h e ih = let z : ◌≡◌ {A = ℕ} 0 1 = cc in absurd (omega arith)

-- no one bit of w lies in the final byte where that begins after w
judged-early : (n : ℕ) (w : List Bool) → length w + 8 ≤ n → judged n (last_one w) ≡ Err Tail
judged-early n w h = go (last_one w) refl
  where
    go : (l : Last) → last_one w ≡ l → judged n l ≡ Err Tail
    go none e = refl
    go (at i) e = rw (lt-leb n (i + 8) (omega (arith, last-inside w e)))

pub judged-found : (n i : ℕ) → n ≤ i + 8 → judged n (at i) ≡ Ok i
judged-found n i h = rw (le-leb n (i + 8) h)

-- with nothing left, and with something
pub tail_none : (s : List ℕ) (p : ℕ) → bits_in s - p ≡ 0 → tail_at s p ≡ Ok 0
unfolding tail_at tail_of
tail_none s p h = rw (from_end s p (omega arith))

some_left : (w : List Bool) → 0 < length w → tail_of w ≡ judged (length w) (last_one w)
unfolding tail_of
some_left [] h = absurd (omega arith)
some_left (b ∷ w) h = refl

tail-some : (s : List ℕ) (p : ℕ) → 0 < bits_in s - p → tail_at s p ≡ judged (bits_in s - p) (last_one (part s p (bits_in s - p)))
unfolding tail_at from
tail-some s p h =
    some_left (part s p (bits_in s - p)) (omega (arith, length_part s p (bits_in s - p)))
    ∙ ap (λ n. judged n (last_one (part s p (bits_in s - p)))) (length_part s p (bits_in s - p))

-- ---- the zeros that end a number

halved : (n e : ℕ) → n / 2 ^ suc e ≡ n / 2 / 2 ^ e
halved n e = sym (shr-shr n 1 e ∙ ap (λ i. n / 2 ^ i) (omega arith))

-- the digits below the lowest set one are zeros ..
zeros-below : (k n e : ℕ) → e < count_trailing_zeros k n → n / 2 ^ e % 2 ≡ 0
unfolding count_trailing_zeros
zeros-below zero n e h = absurd (omega arith)
zeros-below (suc k) n e h = go (n % 2) refl e h (λ i l. zeros-below k (n / 2) i l)
  where
    go : (d : ℕ) → n % 2 ≡ d → (e : ℕ) → e < under d (count_trailing_zeros k (n / 2)) → ((i : ℕ) → i < count_trailing_zeros k (n / 2) → n / 2 / 2 ^ i % 2 ≡ 0) → n / 2 ^ e % 2 ≡ 0
    go zero g zero l ih = omega arith
    go zero g (suc e) l ih = ap (λ x. x % 2) (halved n e) ∙ ih e (omega arith)
    go (suc d) g e l ih = absurd (omega arith)

-- .. and that one is set
one-above : (k n : ℕ) → count_trailing_zeros k n < k → n / 2 ^ count_trailing_zeros k n % 2 ≡ 1
unfolding count_trailing_zeros
one-above zero n h = absurd (omega arith)
one-above (suc k) n h = go (n % 2) refl h (λ l. one-above k (n / 2) l)
  where
    go : (d : ℕ) → n % 2 ≡ d → under d (count_trailing_zeros k (n / 2)) < suc k → (count_trailing_zeros k (n / 2) < k → n / 2 / 2 ^ count_trailing_zeros k (n / 2) % 2 ≡ 1)
        → n / 2 ^ under d (count_trailing_zeros k (n / 2)) % 2 ≡ 1
    go zero g l ih = ap (λ x. x % 2) (halved n (count_trailing_zeros k (n / 2))) ∙ ih (omega arith)
    go (suc d) g l ih = omega arith

-- ---- the final byte

abbrev pub final_byte : List ℕ → ℕ
final_byte s = get_or s (length s - 1) 0

-- how many zeros end it: 8 where it has no one bit
abbrev pub final_zeros : List ℕ → ℕ
final_zeros s = count_trailing_zeros 8 (final_byte s)

-- its bits, from the last one back
final-bit : (s : List ℕ) (e : ℕ) → e < 8 → 0 < length s → bit_at s (bits_in s - 1 - e) ≡ eqb (final_byte s / 2 ^ e % 2) 1
unfolding bit_at
final-bit s e h l =
    let byte : (bits_in s - 1 - e) / 8 ≡ length s - 1 = omega arith in
    let place : 7 - (bits_in s - 1 - e) % 8 ≡ e = omega arith in
    rw (byte, place)

-- where t bits are zeros, the last one stands before them
passed : (s : List ℕ) (p m t : ℕ) → ((i : ℕ) → m ≤ i → i < m + t → bit_at s (p + i) ≡ false) → last_one (part s p (m + t)) ≡ last_one (part s p m)
passed s p m zero f = rw add-zero
passed s p m (suc t) f =
    let more : m + suc t ≡ m + t + 1 = omega arith in
    ap (λ k. last_one (part s p k)) more ∙ last-part-zero s p (m + t) (f (m + t) (omega arith) (omega arith)) ∙ passed s p m t (λ i a b. f i a (omega arith))

-- t of the zeros that end the final byte
zeros-passed : (s : List ℕ) (p t : ℕ) → p < bits_in s → t ≤ final_zeros s → t ≤ bits_in s - p → last_one (part s p (bits_in s - p)) ≡ last_one (part s p (bits_in s - p - t))
zeros-passed s p t h z l =
    let all : bits_in s - p ≡ bits_in s - p - t + t = omega arith in
    ap (λ k. last_one (part s p k)) all ∙ passed s p (bits_in s - p - t) t zero_bit
  where
    zero_bit : (i : ℕ) → bits_in s - p - t ≤ i → i < bits_in s - p - t + t → bit_at s (p + i) ≡ false
    zero_bit i a b =
        let e = bits_in s - p - 1 - i in
        let place : p + i ≡ bits_in s - 1 - e = omega arith in
        ap (bit_at s) place ∙ final-bit s e (omega (arith, trailing_le 8 (final_byte s))) (omega arith) ∙ ap (λ r. eqb r 1) (zeros-below 8 (final_byte s) e (omega arith))

-- all that is left is zeros
pub tail-blank : (s : List ℕ) (p : ℕ) → p < bits_in s → bits_in s - p ≤ final_zeros s → tail_at s p ≡ Err Tail
unfolding part last_one
tail-blank s p h z =
    let none : bits_in s - p - (bits_in s - p) ≡ 0 = omega arith in
    tail-some s p (omega arith)
    ∙ ap (judged (bits_in s - p)) (zeros-passed s p (bits_in s - p) h z (omega arith) ∙ ap (λ k. last_one (part s p k)) none)

-- the final byte is
pub tail-early : (s : List ℕ) (p : ℕ) → final_zeros s ≡ 8 → 8 ≤ bits_in s - p → tail_at s p ≡ Err Tail
tail-early s p z l =
    tail-some s p (omega arith)
    ∙ ap (judged (bits_in s - p)) (zeros-passed s p 8 (omega arith) (omega arith) l)
    ∙ judged-early (bits_in s - p) (part s p (bits_in s - p - 8)) (omega (arith, length_part s p (bits_in s - p - 8)))

-- the extension is what stands before the last one bit
pub tail-found : (s : List ℕ) (p : ℕ) → final_zeros s < 8 → final_zeros s < bits_in s - p → tail_at s p ≡ Ok (bits_in s - p - 1 - final_zeros s)
tail-found s p z l =
    let e = bits_in s - p - 1 - final_zeros s in
    let more : bits_in s - p - final_zeros s ≡ e + 1 = omega arith in
    let place : p + e ≡ bits_in s - 1 - final_zeros s = omega arith in
    let one : bit_at s (p + e) ≡ true =
    ap (bit_at s) place ∙ final-bit s (final_zeros s) z (omega arith) ∙ ap (λ r. eqb r 1) (one-above 8 (final_byte s) z) in
    tail-some s p (omega arith)
    ∙ ap (judged (bits_in s - p)) (zeros-passed s p (final_zeros s) (omega arith) (omega arith) (omega arith) ∙ ap (λ k. last_one (part s p k)) more ∙ last-part-one s p e one)
    ∙ judged-found (bits_in s - p) e (omega arith)

-- what the goals of reading a tail want
pub ruleset tails = (tail_none, tail-blank, tail-early, tail-found, trailing_le)
