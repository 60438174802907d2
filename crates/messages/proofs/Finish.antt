-- From what a kind's reader ensures to the answer: by its message, its end, and whether it is set aside.
-- Assumes nothing.
use Prim.Native.Nat.{ℕ}
use mathlib.Core.Path.{◌≡◌, refl, sym, ap, ◌∙◌}
use mathlib.Core.Bool.{Bool, true, false}
use mathlib.Core.List.{List}
use Rattle.std.specs.Prelude.{Result, Ok, Err, None}
use Rattle.bits.specs.Answers.{out_of, out_by}
use Rattle.bits.specs.Out.{Out, taken, refused}
use Rattle.bits.specs.Tail.{Ending, tail_at}
use Rattle.bits.specs.declared.cursor.Cursor.{Cursor}
use Rattle.bits.specs.declared.refusal.Refusal.{Refusal}
use Rattle.format.specs.Reading.{run_at}
use Rattle.format.specs.Whole.{given, ended}
use Rattle.format.proofs.Whole.{ending_at, closed_at, whole-at}
use Rattle.answers.specs.Listed.{Record, listing, form, reading_of}
use Rattle.answers.proofs.KindLaws.{refused-plain}
use Rattle.answers.specs.Answer.{brief_of, message_of, answer_for, refused_as, finished}
use Rattle.answers.specs.declared.kind.Kind.{Kind}
use Rattle.answers.specs.declared.Outcome.{Outcome}
use Rattle.answers.specs.declared.Outcome.TheVariants as outcome
use Rattle.messages.specs.Answered.{answered}

-- the answer, by what the elements came to
pub by_read : (k : Kind) (s : List ℕ) {o : Out (Record k)} → o ≡ run_at (form k).table s 0 → answer_for k (reading_of k s) ≡ answer_for k (closed_at (form k) s o)
unfolding reading_of
by_read k s e = ap (answer_for k) (whole-at (form k) s ∙ ap (closed_at (form k) s) (sym e))

abbrev pub outcome_for : Bool → Outcome
outcome_for true = outcome.SetAside
outcome_for false = outcome.Taken

-- and then by its end, for a kind with no rest
finish : (k : Kind) (a : Record k) → (listing k).rest a ≡ None → (b : Bool) → (form k).aside a ≡ b → (t : Ending)
    → brief_of (answer_for k (ended (form k).aside a t)) ≡ brief_of (finished k (outcome_for b) (message_of k a) t)
finish k a p true h (Ok e) = ap (λ x. brief_of (answer_for k (given x a e))) h
finish k a p false h (Ok e) = ap (λ x. brief_of (answer_for k (given x a e))) h ∙ rw p
finish k a p b h (Err r) = ap brief_of (refused-plain k r)

-- how a kind's reading ends, from what its reader ensures and which case it came to
module _ (k : Kind) (s : List ℕ) {o : Out (Record k)} (ensured : o ≡ run_at (form k).table s 0) where
  pub by-refused : {r : Refusal} → o ≡ refused r → refused_as k r ≡ answer_for k (reading_of k s)
  by-refused {r} e = sym (by_read k s ensured ∙ ap (λ x. answer_for k (closed_at (form k) s x)) e ∙ refused-plain k r)

  pub by-taken : {a : Record k} {q : ℕ} → o ≡ taken a q → answer_for k (closed_at (form k) s (taken a q)) ≡ answer_for k (reading_of k s)
  by-taken e = sym (by_read k s ensured ∙ ap (λ x. answer_for k (closed_at (form k) s x)) e)

-- a kind with a tail and no rest: its message is set aside where b says so
pub by-answered : (k : Kind) (s : List ℕ) (b : Bool) (r : Result (Record k × Cursor) Refusal) → out_of r ≡ run_at (form k).table s 0
    → (form k).tailed ≡ true
    → ((a : Record k) (c : Cursor) → r ≡ Ok (a, c) → ((listing k).rest a ≡ None) × ((form k).aside a ≡ b))
    → answered k (outcome_for b) s (out_by (message_of k) r) ≡ brief_of (answer_for k (reading_of k s))
by-answered k s b (Ok x) ensured t h =
    let g = h x.0 x.1 refl in
    let at : ending_at (form k).tailed s x.1.at ≡ tail_at s x.1.at = ap (λ c. ending_at c s x.1.at) t in
    sym
    (ap brief_of (by_read k s ensured)
    ∙ finish k x.0 g.0 b g.1 (ending_at (form k).tailed s x.1.at)
    ∙ ap (λ e. brief_of (finished k (outcome_for b) (message_of k x.0) e)) at)
by-answered k s b (Err e) ensured t h = ap brief_of (by-refused k s ensured refl)

-- what was read is one record
abbrev read-or : {A : Type 0} → A → Result (A × Cursor) Refusal → A
read-or a (Ok x) = x.0
read-or a (Err e) = a

pub one-read : {A : Type 0} {r : Result (A × Cursor) Refusal} (a b : A) (p q : Cursor) → r ≡ Ok (a, p) → r ≡ Ok (b, q) → a ≡ b
one-read a b p q e f = ap (read-or a) (sym e ∙ f)
