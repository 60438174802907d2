-- The general theorems, said of a payload s that is read from its first bit on.
-- Assumes nothing.
use Prim.Native.Nat.{ℕ, ◌*◌, ◌≤◌}
use mathlib.Core.Path.{◌≡◌, refl, sym, ap, ◌∙◌}
use mathlib.Core.Logic.{◌↔◌, ◌⊎◌, inl, inr}
use mathlib.Core.List.{List, ◌++◌}
use native.Mathlib.Nat.{zero-add}
use native.Mathlib.Omega.{arith}
use lib.ListN.{length, take, drop, take-append-drop}
use Rattle.bits.specs.Bits.{bits_in, bits_of}
use Rattle.bits.specs.Out.{Out, taken, refused, placed}
use Rattle.bits.specs.declared.refusal.Refusal.{Refusal}
use Rattle.bits.specs.declared.refusal.Refusal.TheVariants.{Short}
use Rattle.bits.proofs.BitLaws.{length_from, bits-take}
use Rattle.format.specs.Format.{Format}
use Rattle.format.specs.Reading.{run, run_at}
use Rattle.format.specs.Coded.{Coded}
use Rattle.format.specs.Stopped.{Stopped}
use Rattle.format.proofs.Run.{run-iff, run-stopped, run-local, run-cut}

module _ {A : Type 0} where
  from_first : (o : Out A) → placed 0 o ≡ o
  from_first (taken a n) = ap (taken a) (zero-add n)
  from_first (refused r) = refl

module _ {R A : Type 0} where
  pub whole : (f : Format R A) (s : List ℕ) → run_at f s 0 ≡ run f (bits_of s)
  unfolding run_at
  whole f s = from_first (run f (bits_of s))

  -- Taken: exactly where the first q bits are the message.
  pub payload-taken : (f : Format R A) (s : List ℕ) (a : A) (q : ℕ) → (run_at f s 0 ≡ taken a q) ↔ ((q ≤ bits_in s) × Coded f (take q (bits_of s)) a)
  payload-taken f s a q = (
    λ h. let d = (run-iff f (bits_of s) a q).0 (sym (whole f s) ∙ h) in (omega (arith, d.0, length_from s 0), d.1),
    λ d. whole f s ∙ (run-iff f (bits_of s) a q).1 (omega (arith, d.0, length_from s 0), d.1),
  )

  -- Refused: exactly where its bits stop it.
  pub payload-stopped : (f : Format R A) (s : List ℕ) (r : Refusal) → (run_at f s 0 ≡ refused r) ↔ Stopped f (bits_of s) r
  payload-stopped f s r = (λ h. (run-stopped f (bits_of s) r).0 (sym (whole f s) ∙ h), λ d. whole f s ∙ (run-stopped f (bits_of s) r).1 d)

  -- Local: payloads that agree in the first q bits, both at least that long, come to the same.
  pub payload-local : (f : Format R A) (s t : List ℕ) {a : A} {q : ℕ} → q ≤ bits_in t → take q (bits_of s) ≡ take q (bits_of t) → run_at f s 0 ≡ taken a q → run_at f t 0 ≡ taken a q
  payload-local f s t l same h =
      whole f t ∙ run-local f (bits_of s) (bits_of t) (omega (arith, length_from t 0)) same (sym (whole f s) ∙ h)

  -- Cut: on fewer bytes the outcome is the same, or refusal 3.
  pub payload_cut : (f : Format R A) (n : ℕ) (s : List ℕ) → n ≤ length s → (run_at f (take n s) 0 ≡ run_at f s 0) ⊎ (run_at f (take n s) 0 ≡ refused Short)
  payload_cut f n s h = go (run-cut f (bits_of (take n s)) (drop (8 * n) (bits_of s)))
    where
      all : bits_of (take n s) ++ drop (8 * n) (bits_of s) ≡ bits_of s
      all = ap (λ w. w ++ drop (8 * n) (bits_of s)) (bits-take n s h) ∙ take-append-drop (8 * n) (bits_of s)

      go : (run f (bits_of (take n s)) ≡ run f (bits_of (take n s) ++ drop (8 * n) (bits_of s))) ⊎ (run f (bits_of (take n s)) ≡ refused Short)
          → (run_at f (take n s) 0 ≡ run_at f s 0) ⊎ (run_at f (take n s) 0 ≡ refused Short)
      go (inl e) = inl (whole f (take n s) ∙ e ∙ ap (run f) all ∙ sym (whole f s))
      go (inr e) = inr (whole f (take n s) ∙ e)
