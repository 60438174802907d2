-- What reading a payload came to, and its answer: each can be had from the other, kind and record too.
-- Assumes nothing.
use Prim.Native.Nat.{ℕ}
use mathlib.Core.Path.{◌≡◌, refl, sym, ◌∙◌}
use Rattle.format.specs.Whole.{Reading, taken, set_aside, refused}
use Rattle.answers.specs.Listed.{Record, zeros}
use Rattle.answers.specs.Answer.{made, answer_for}
use Rattle.answers.specs.declared.kind.Kind.{Kind}
use Rattle.answers.specs.declared.Outcome.{Outcome}
use Rattle.answers.specs.declared.Outcome.TheVariants.{Taken, SetAside, Refused}
use Rattle.answers.proofs.KindLaws.{made-kind, made-same}

-- ---- the parts of an answer

abbrev outcome_in : {A : Type 0} → Reading A → Outcome
outcome_in (taken a e) = Taken
outcome_in (set_aside a e) = SetAside
outcome_in (refused r) = Refused r

abbrev extension_in : {A : Type 0} → Reading A → ℕ
extension_in (taken a e) = e
extension_in (set_aside a e) = e
extension_in (refused r) = 0

-- the reading that has this outcome
abbrev pub reading : {A : Type 0} → Outcome → A → ℕ → Reading A
reading Taken a e = taken a e
reading SetAside a e = set_aside a e
reading (Refused r) a e = refused r

module _ (k : Kind) where
  abbrev record_in : Reading (Record k) → Record k
  record_in (taken a e) = a
  record_in (set_aside a e) = a
  record_in (refused r) = zeros k

  parts : (x : Reading (Record k)) → answer_for k x ≡ made k (outcome_in x) (record_in x) (extension_in x)
  parts (taken a e) = refl
  parts (set_aside a e) = refl
  parts (refused r) = refl

  again : (x : Reading (Record k)) → reading (outcome_in x) (record_in x) (extension_in x) ≡ x
  again (taken a e) = refl
  again (set_aside a e) = refl
  again (refused r) = refl

  pub answer-kind : (x : Reading (Record k)) (j : Kind) (o : Outcome) (a : Record j) (e : ℕ) → answer_for k x ≡ made j o a e → k ≡ j
  answer-kind x j o a e h = made-kind k j (outcome_in x) o (record_in x) a (extension_in x) e (sym (parts x) ∙ h)

  pub answer-reading : (x : Reading (Record k)) (o : Outcome) (a : Record k) (e : ℕ) → answer_for k x ≡ made k o a e → x ≡ reading o a e
  answer-reading x o a e h =
      let m = made-same k (outcome_in x) o (record_in x) a (extension_in x) e (sym (parts x) ∙ h) in
      sym (again x) ∙ rw (m.0, m.1, m.2)
