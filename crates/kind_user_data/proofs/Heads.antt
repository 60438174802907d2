-- Where the heads of user data end: one, two or sixteen bytes on.
-- Assumes nothing.
use Prim.Native.Nat.{ℕ, ◌+◌, ◌*◌}
use mathlib.Core.Path.{◌≡◌, sym, ap, ◌∙◌}
use mathlib.Core.List.{List}
use native.Mathlib.Omega.{arith}
use lib.Dec.{eqb}
use Rattle.bits.specs.Out.{Out, taken, after}
use Rattle.bits.specs.Elements.{u_at}
use Rattle.bits.specs.Identifier.{bytes_of}
use Rattle.format.specs.Reading.{run_at}
use Rattle.format.proofs.Steps.{step-done, step-code}
use Rattle.format.proofs.Always.{Always, always-when, always-taken}
use Rattle.kind_user_data.specs.Registered.{registered, head_bytes}
use Rattle.kind_user_data.specs.Unregistered.{unregistered}
use Rattle.kind_user_data.specs.declared.registered.Registered.{Registered}
use Rattle.kind_user_data.specs.declared.unregistered.Unregistered.{Unregistered}

-- ---- kind 4

registered-long : Always (λ a n. n ≡ 8 * head_bytes a) registered
unfolding registered
registered-long = λ code _ d _. always-when (eqb code 255) _ _ (λ t. λ _ _ e _. rw t (omega arith)) (λ t. rw t (omega arith))

pub registered-end : (s : List ℕ) (p : ℕ) {a : Registered} {q : ℕ} → run_at registered s p ≡ taken a q → q ≡ p + 8 * head_bytes a
registered-end s p h = let t = always-taken registered _ registered-long s p h in sym t.2 ∙ ap (p +◌) t.1

-- ---- kind 5

unregistered-long : Always (λ a n. n ≡ 128) unregistered
unfolding unregistered
unregistered-long = λ _ _ d _. omega arith

pub unregistered-end : (s : List ℕ) (p : ℕ) {a : Unregistered} {q : ℕ} → run_at unregistered s p ≡ taken a q → q ≡ p + 128
unregistered-end s p h = let t = always-taken unregistered _ unregistered-long s p h in sym t.2 ∙ ap (p +◌) t.1

-- what it comes to, by its one element
abbrev pub named : ℕ → ℕ → Out Unregistered
named v q = taken (record { uuid_iso_iec_11578 = bytes_of 16 v }) q

pub unregistered-is : (s : List ℕ) (p : ℕ) → run_at unregistered s p ≡ after (u_at s p 128) named
unfolding unregistered
unregistered-is s p = step-code _ _ _ s p ∙ simp step-done
