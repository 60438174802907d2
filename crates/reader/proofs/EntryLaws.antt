-- What is judged before a payload, exactly when: the kind by its number, and then the size.
-- Assumes nothing.
use Prim.Native.Nat.{ℕ, ◌≤◌, ◌<◌}
use mathlib.Core.Path.{◌≡◌, refl, sym, ap, ◌∙◌}
use mathlib.Core.Logic.{◌≢◌, ◌⊎◌, inl, inr}
use mathlib.Core.Bool.{Bool, true, false}
use mathlib.Core.List.{List, [], ◌∷◌}
use native.Mathlib.Omega.{arith}
use borrow.Author.Tests.{le-leb, lt-leb}
use denote.Enum.Declared.{tag_of}
use types.Run.{OneOf, miss}
use Rattle.std.specs.Prelude.{Option, Some, None, Ok, Err}
use Rattle.bits.proofs.BitLaws.{below}
use Rattle.bits.specs.declared.refusal.Refusal.{Refusal}
use Rattle.answers.specs.Listed.{number, named, kind_by}
use Rattle.answers.specs.declared.kind.Kind.{Kind}
use Rattle.answers.proofs.KindLaws.{named-iff, unnamed-iff}
use Rattle.reader.specs.Entry.{fits, entered, entry_to}
use Rattle.reader.specs.contracts.entry.Entry.{the_type}
use Rattle.reader.specs.declared.entry.Entry.TheVariants.{Unlisted, Oversized, Payload}

-- ---- the kind that a number names

pub kind-some : (n : ℕ) {k : Kind} → Ok k ≡ kind_by (named n) → named n ≡ Some k
kind-some n {k} e = go (named n) e
  where
    go : (x : Option Kind) → Ok k ≡ kind_by x → x ≡ Some k
    go (Some j) e = cc
    go None e = cc

pub kind-none : (n : ℕ) {r : Refusal} → Err r ≡ kind_by (named n) → named n ≡ None
kind-none n {r} e = go (named n) e
  where
    go : (x : Option Kind) → Err r ≡ kind_by x → x ≡ None
    go (Some j) e = cc
    go None e = refl

module _ (n size room : ℕ) where
  -- ---- by the name and the size

  pub entry-unlisted : named n ≡ None → entry_to n size room ≡ Unlisted
  unfolding entry_to
  entry-unlisted e = ap (λ x. entered x (fits size room)) e

  at_name : (k : Kind) → named n ≡ Some k → (b : Bool) → fits size room ≡ b → entry_to n size room ≡ entered (Some k) b
  unfolding entry_to
  at_name k e b h = ap (λ x. entered x (fits size room)) e ∙ ap (entered (Some k)) h

  pub entry-large : (k : Kind) → named n ≡ Some k → 8192 < size → entry_to n size room ≡ Oversized k
  entry-large k e h = at_name k e false (rw (lt-leb size 8192 h))

  pub entry-long : (k : Kind) → named n ≡ Some k → size ≤ 8192 → room < size → entry_to n size room ≡ Oversized k
  entry-long k e h l = at_name k e false (rw (le-leb size 8192 h, lt-leb size room l))

  pub entry-payload : (k : Kind) → named n ≡ Some k → size ≤ 8192 → size ≤ room → entry_to n size room ≡ Payload k
  entry-payload k e h l = at_name k e true (rw (le-leb size 8192 h, le-leb size room l))

  -- ---- each exactly when

  pub data Judged : Type 0 where
    unlisted : ((k : Kind) → n ≢ number k) → entry_to n size room ≡ Unlisted → Judged
    oversized : (k : Kind) → n ≡ number k → (8192 < size) ⊎ (room < size) → entry_to n size room ≡ Oversized k → Judged
    payload : (k : Kind) → n ≡ number k → size ≤ 8192 → size ≤ room → entry_to n size room ≡ Payload k → Judged

  pub judged : Judged
  judged = go (named n) refl (below 8192 size) (below room size)
    where
      go : (x : Option Kind) → named n ≡ x → (8192 < size) ⊎ (size ≤ 8192) → (room < size) ⊎ (size ≤ room) → Judged
      go None e b c = unlisted ((unnamed-iff n).0 e) (entry-unlisted e)
      go (Some k) e (inl b) c = oversized k ((named-iff n k).0 e) (inl b) (entry-large k e b)
      go (Some k) e (inr b) (inl c) = oversized k ((named-iff n k).0 e) (inr c) (entry-long k e b c)
      go (Some k) e (inr b) (inr c) = payload k ((named-iff n k).0 e) b c (entry-payload k e b c)

  -- a payload is not larger than one may be, nor than the lent bytes
  pub payload-fits : {k : Kind} → entry_to n size room ≡ Payload k → (size ≤ 8192) × (size ≤ room)
  payload-fits h = go judged
    where
      go : Judged → (size ≤ 8192) × (size ≤ room)
      go (unlisted f e) = let q = sym e ∙ h in let z : ◌≡◌ {A = ℕ} 0 1 = cc in absurd (omega arith)
      go (oversized k f o e) = let q = sym e ∙ h in let z : ◌≡◌ {A = ℕ} 0 1 = cc in absurd (omega arith)
      go (payload k f b c e) = (b, c)

  -- and what is none, of a listed kind, is larger
  abbrev others : List ℕ
  others = 0 ∷ 1 ∷ []

  pub else-over : (k : Kind) → n ≡ number k → OneOf others (tag_of the_type (entry_to n size room)) → (8192 < size) ⊎ (room < size)
  else-over k h o = go judged
    where
      go : Judged → (8192 < size) ⊎ (room < size)
      go (unlisted f e) = absurd (f k h)
      go (oversized j f l e) = l
      go (payload j f b c e) = absurd (miss others 2 tt (rw e at o))

  pub unless-over : (k : Kind) → n ≡ number k → ((j : Kind) → entry_to n size room ≡ Payload j → ⊥) → (8192 < size) ⊎ (room < size)
  unless-over k h o = go judged
    where
      go : Judged → (8192 < size) ⊎ (room < size)
      go (unlisted f e) = absurd (f k h)
      go (oversized j f l e) = l
      go (payload j f b c e) = absurd (o j e)

-- what the goals of judging an entry want
pub ruleset entries = (kind-some, kind-none, entry-unlisted, entry-large, entry-long, entry-payload)
