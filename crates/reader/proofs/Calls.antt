-- The three ways of a call: 1, then 2, then what the payload comes to.
-- Assumes nothing.
use Prim.Native.Nat.{ℕ, ◌≤◌, ◌<◌}
use mathlib.Core.Path.{◌≡◌, refl, sym, ap, subst}
use mathlib.Core.Logic.{◌≢◌, ◌⊎◌, inl, inr}
use mathlib.Core.List.{List}
use lib.ListN.{length, take}
use Rattle.bits.specs.Refusals.{by_size}
use Rattle.bits.proofs.BitLaws.{below}
use Rattle.answers.specs.Listed.{number, reading_of}
use Rattle.answers.specs.Answer.{answer_for, refused_as, unknown}
use Rattle.answers.specs.declared.Answer.{Answer}
use Rattle.answers.specs.declared.kind.Kind.{Kind}
use Rattle.answers.proofs.KindLaws.{named-iff, unnamed-iff, one-kind}
use Rattle.reader.specs.Entry.{entry_to}
use Rattle.reader.specs.declared.entry.Entry.{Entry}
use Rattle.reader.proofs.EntryLaws.{entry-unlisted, entry-large, entry-long, entry-payload, Judged, judged}
use Rattle.reader.proofs.EntryLaws as entry
use Rattle.reader.specs.Reader.{answered, answer_to, Over, Within}

module _ (n size : ℕ) (bytes : List ℕ) where
  pub by-entry : {x : Entry} → entry_to n size (length bytes) ≡ x → answer_to n size bytes ≡ answered x size bytes
  unfolding answer_to
  by-entry e = ap (λ x. answered x size bytes) e

  pub to-unlisted : ((k : Kind) → n ≢ number k) → answer_to n size bytes ≡ unknown
  to-unlisted h = by-entry (entry-unlisted n size (length bytes) ((unnamed-iff n).1 h))

  pub to-oversized : (k : Kind) → n ≡ number k → Over size bytes → answer_to n size bytes ≡ refused_as k by_size
  to-oversized k e o = go o (below 8192 size)
    where
      go : Over size bytes → (8192 < size) ⊎ (size ≤ 8192) → answer_to n size bytes ≡ refused_as k by_size
      go _ (inl b) = by-entry (entry-large n size (length bytes) k ((named-iff n k).1 e) b)
      go (inl b) (inr _) = by-entry (entry-large n size (length bytes) k ((named-iff n k).1 e) b)
      go (inr c) (inr b) = by-entry (entry-long n size (length bytes) k ((named-iff n k).1 e) b c)

  pub to-payload : (k : Kind) → Within k n size bytes → answer_to n size bytes ≡ answer_for k (reading_of k (take size bytes))
  to-payload k w = by-entry (entry-payload n size (length bytes) k ((named-iff n k).1 w.0) w.1 w.2)

  pub data Call : Type 0 where
    unlisted : ((k : Kind) → n ≢ number k) → answer_to n size bytes ≡ unknown → Call
    oversized : (k : Kind) → n ≡ number k → Over size bytes → answer_to n size bytes ≡ refused_as k by_size → Call
    payload : (k : Kind) → Within k n size bytes → answer_to n size bytes ≡ answer_for k (reading_of k (take size bytes)) → Call

  pub call : Call
  call = go (judged n size (length bytes))
    where
      go : Judged n size (length bytes) → Call
      go (entry.unlisted h e) = unlisted h (by-entry e)
      go (entry.oversized k h o e) = oversized k h o (by-entry e)
      go (entry.payload k h b c e) = payload k (h, b, c) (by-entry e)

-- of a listed kind there are two
pub of-kind : (k : Kind) (P : Answer → Type 0) (size : ℕ) (bytes : List ℕ) → P (refused_as k by_size) → P (answer_for k (reading_of k (take size bytes))) → P (answer_to (number k) size bytes)
of-kind k P size bytes over within = go (call (number k) size bytes)
  where
    go : Call (number k) size bytes → P (answer_to (number k) size bytes)
    go (unlisted f m) = absurd (f k refl)
    go (oversized j e o m) = subst P (sym m) (subst (λ i. P (refused_as i by_size)) (one-kind k j e) over)
    go (payload j w m) = subst P (sym m) (subst (λ i. P (answer_for i (reading_of i (take size bytes)))) (one-kind k j w.0) within)
