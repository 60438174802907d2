-- What a payload of kind 4 or 5 comes to, by its length and its first byte.
-- Assumes nothing.
use Prim.Native.Nat.{ℕ, ◌+◌, ◌*◌, ◌/◌, ◌%◌, ◌≤◌, ◌<◌}
use mathlib.Core.Path.{◌≡◌, refl, sym, ap, ◌∙◌}
use mathlib.Core.Logic.{◌⊎◌, inl, inr}
use mathlib.Core.Bool.{Bool, true, false}
use mathlib.Core.List.{List}
use native.Mathlib.Nat.{zero-add}
use native.Mathlib.Omega.{arith}
use borrow.Author.Tests.{eqb-true, eqb-false}
use lib.Dec.{eqb}
use lib.ListN.{length, take, get_or}
use lib.Seq.{take-take, length-take-le}
use Rattle.bits.specs.Bits.{bits_of, bit_at, part, digit, unsigned_of}
use Rattle.bits.specs.Elements.{u_at}
use Rattle.bits.specs.Identifier.{bytes_of}
use Rattle.bits.specs.Out as out
use Rattle.bits.specs.declared.refusal.Refusal.TheVariants.{Short}
use Rattle.bits.proofs.BitLaws.{below, digit-rest, number-next, take-from, bits-take}
use Rattle.bits.proofs.ElementLaws.{u-value, u-short}
use Rattle.format.specs.Format.{Format, done, ◌>>=◌}
use Rattle.format.specs.Reading.{run_at}
use Rattle.format.specs.Syntax.{b, ◌at◌, when}
use Rattle.format.specs.Whole.{taken, refused}
use Rattle.format.proofs.Steps.{step-done, step-code, step-yes, step-no}
use Rattle.format.proofs.Whole.{closed_at, whole-at}
use Rattle.kind_user_data.specs.Registered.{registered}
use Rattle.kind_user_data.specs.declared.registered.Registered.{Registered}
use Rattle.kind_user_data.proofs.Heads.{named, unregistered-is}
use Rattle.answers.specs.Listed.{Record, form, reading_of}
use Rattle.answers.specs.declared.kind.Kind.{Kind}
use Rattle.answers.specs.declared.kind.Kind.TheVariants as kinds

-- ---- the first byte

-- the number of the first 8 bits
abbrev pub first : List ℕ → ℕ
first s = unsigned_of (part s 0 8)

-- the first n bits make a, and one more makes the byte over m
high : (s : List ℕ) (n m a : ℕ) → bit_at s n ≡ eqb (get_or s 0 0 / m % 2) 1 → get_or s 0 0 / m / 2 ≡ a → unsigned_of (part s 0 n) ≡ a → unsigned_of (part s 0 (n + 1)) ≡ get_or s 0 0 / m
high s n m a b e h =
    let d : digit (bit_at s n) ≡ get_or s 0 0 / m % 2 = ap digit b ∙ digit-rest (get_or s 0 0 / m % 2) (omega arith) in
    number-next s 0 n ∙ rw (zero-add n) (omega arith)

-- which is the byte, of bytes
pub first_byte : (s : List ℕ) → get_or s 0 0 < 256 → first s ≡ get_or s 0 0
unfolding unsigned_of part bit_at
first_byte s h =
    high s 7 1 (get_or s 0 0 / 2) refl (omega arith)
    (high s 6 2 (get_or s 0 0 / 4) refl (omega arith)
    (high s 5 4 (get_or s 0 0 / 8) refl (omega arith)
    (high s 4 8 (get_or s 0 0 / 16) refl (omega arith)
    (high s 3 16 (get_or s 0 0 / 32) refl (omega arith)
    (high s 2 32 (get_or s 0 0 / 64) refl (omega arith)
    (high s 1 64 (get_or s 0 0 / 128) refl (omega arith)
    (high s 0 128 0 refl (omega arith) refl)))))))
    ∙ omega arith

-- and the same for the payload and for the lent bytes
pub first-take : (n : ℕ) (s : List ℕ) → 1 ≤ n → n ≤ length s → first (take n s) ≡ first s
first-take n s h l =
    let c : length (take n s) ≡ n = length-take-le n s l in
    ap unsigned_of
    (sym (take-from (take n s) 0 8 (omega arith))
    ∙ ap (take 8) (bits-take n s l)
    ∙ take-take 8 (8 * n) (bits_of s) (omega arith)
    ∙ take-from s 0 8 (omega arith))

-- ---- from the head's table to the reading: user data has no tail and is never set aside

came : (k : Kind) (s : List ℕ) {o : out.Out (Record k)} → run_at (form k).table s 0 ≡ o → reading_of k s ≡ closed_at (form k) s o
unfolding reading_of
came k s e = whole-at (form k) s ∙ ap (closed_at (form k) s) e

-- ---- kind 4

abbrev pub coded : ℕ → ℕ → Registered
coded code extension = record { itu_t_t35_country_code = code; itu_t_t35_country_code_extension_byte = extension }

-- what follows the country code; t says whether that is 255
abbrev extension : ℕ → Format Registered Registered
extension code = b 8 at (λ r. r.itu_t_t35_country_code_extension_byte) >>= (λ x. done (coded code x))

abbrev rest : ℕ → Bool → Format Registered Registered
rest code t = when t (extension code)

registered-is : (s : List ℕ) → run_at registered s 0 ≡ out.after (u_at s 0 8) (λ code q. run_at (rest code (eqb code 255)) s q)
unfolding registered
registered-is s = step-code _ _ _ s 0

pub data Four (s : List ℕ) : Type 0 where
  empty : length s < 1 → reading_of kinds.Registered s ≡ refused Short → Four s
  cut : 1 ≤ length s → length s < 2 → first s ≡ 255 → reading_of kinds.Registered s ≡ refused Short → Four s
  one : 1 ≤ length s → (first s ≡ 255 → ⊥) → reading_of kinds.Registered s ≡ taken (coded (first s) 0) 0 → Four s
  two : 2 ≤ length s → first s ≡ 255 → reading_of kinds.Registered s ≡ taken (coded (first s) (unsigned_of (part s 8 8))) 0 → Four s

pub four : (s : List ℕ) → Four s
four s = go (below (length s) 1)
  where
    code : 1 ≤ length s → run_at registered s 0 ≡ run_at (rest (first s) (eqb (first s) 255)) s 8
    code h = registered-is s ∙ ap (λ o. out.after o (λ code q. run_at (rest code (eqb code 255)) s q)) (u-value s 0 8 (omega arith))

    second : 1 ≤ length s → eqb (first s) 255 ≡ true → run_at registered s 0 ≡ out.after (u_at s 8 8) (λ x q. run_at {R = Registered} (done (coded (first s) x)) s q)
    second h e = code h ∙ step-yes (extension (first s)) s 8 e ∙ step-code _ _ _ s 8

    extended : 1 ≤ length s → eqb (first s) 255 ≡ true → (length s < 2) ⊎ (2 ≤ length s) → Four s
    extended h e (inl l) = cut h l (eqb-true (first s) 255 e) (came kinds.Registered s (second h e ∙ ap (λ o. out.after o (λ x q. run_at {R = Registered} (done (coded (first s) x)) s q)) (u-short s 8 8 (omega arith))))
    extended h e (inr l) =
        two l (eqb-true (first s) 255 e)
        (came kinds.Registered s (second h e ∙ ap (λ o. out.after o (λ x q. run_at {R = Registered} (done (coded (first s) x)) s q)) (u-value s 8 8 (omega arith)) ∙ step-done _ _ s 16))

    coding : 1 ≤ length s → (b : Bool) → eqb (first s) 255 ≡ b → Four s
    coding h true e = extended h e (below (length s) 2)
    coding h false e = one h (eqb-false (first s) 255 e) (came kinds.Registered s (code h ∙ step-no (extension (first s)) s 8 e))

    go : (length s < 1) ⊎ (1 ≤ length s) → Four s
    go (inl h) = empty h (came kinds.Registered s (registered-is s ∙ ap (λ o. out.after o (λ code q. run_at (rest code (eqb code 255)) s q)) (u-short s 0 8 (omega arith))))
    go (inr h) = coding h (eqb (first s) 255) refl

-- ---- kind 5

pub data Five (s : List ℕ) : Type 0 where
  short : length s < 16 → reading_of kinds.Unregistered s ≡ refused Short → Five s
  whole : 16 ≤ length s → reading_of kinds.Unregistered s ≡ taken (record { uuid_iso_iec_11578 = bytes_of 16 (unsigned_of (part s 0 128)) }) 0 → Five s

pub five : (s : List ℕ) → Five s
five s = go (below (length s) 16)
  where
    go : (length s < 16) ⊎ (16 ≤ length s) → Five s
    go (inl h) = short h (came kinds.Unregistered s (unregistered-is s 0 ∙ ap (λ o. out.after o named) (u-short s 0 128 (omega arith))))
    go (inr h) = whole h (came kinds.Unregistered s (unregistered-is s 0 ∙ ap (λ o. out.after o named) (u-value s 0 128 (omega arith))))
