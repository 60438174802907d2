-- Calls that make a pair leave a slot the same and, but for the extension's length, are answered the same.
-- Assumes nothing.
use Prim.Native.Nat.{ℕ}
use mathlib.Core.Path.{◌≡◌, refl, sym, ap, ◌∙◌, subst}
use mathlib.Core.Logic.{◌↔◌, ◌⊎◌, inl, inr}
use mathlib.Core.Bool.{Bool, true, false}
use mathlib.Core.List.{List, ◌++◌}
use lib.ListN.{take}
use Rattle.bits.specs.Bits.{bits_of}
use Rattle.format.specs.Whole.{given, whole}
use Rattle.format.specs.Holds.{Follows, Holds}
use Rattle.format.proofs.Whole.{whole-holds, varied-whole}
use Rattle.answers.specs.Listed.{Record, form, number, reading_of}
use Rattle.answers.specs.Answer.{answer_number, answer_for}
use Rattle.reader.specs.Reader.{answer_to, Within}
use Rattle.answers.specs.declared.kind.Kind.{Kind}
use Rattle.answers.specs.declared.Answer.{Answer}
use Rattle.answers.proofs.KindLaws.{one-kind}
use Rattle.reader.proofs.Calls.{to-payload}
use Rattle.reader.proofs.Demand2.{number-0, number-20, answer-0, answer-20}
use Rattle.reader.proofs.Local.{local}
use Rattle.std.specs.Prelude.{if◌then◌else◌}
use Rattle.slots.specs.Slots.{is_open, holding, when_open}
use Rattle.held.specs.declared.Held.{Held}
use Rattle.slots.specs.declared.Slot.{Slot}
use Rattle.feeding.specs.Feed.{held_after, shut_answer}
use Rattle.region_table.specs.Table.{tabling}
use Rattle.isolation.specs.Runs.{Call, Reply, read, tabled, replying, turn, unextended, blind}
use Rattle.isolation.specs.Pairs.{IsMessage, VariedPayload, Pair, same, cut, varied, lent}

-- ---- which payloads vary: exactly those answered 0 or 20

pub vary-iff : (kind size : ℕ) (bytes : List ℕ) (k : Kind) → kind ≡ number k
    → ((answer_number (answer_to kind size bytes) ≡ 0) ⊎ (answer_number (answer_to kind size bytes) ≡ 20)) ↔ IsMessage k size bytes
vary-iff kind size bytes k listed = (to, λ d. back d ((form k).aside d.value) refl)
  where
    message : (j : Kind) (a : Record j) (e : ℕ) → Within j kind size bytes → Holds (form j) (bits_of (take size bytes)) a e → IsMessage k size bytes
    message j a e w d =
        subst (λ i. IsMessage i size bytes) (one-kind j k (sym w.0 ∙ listed))
        (record { limit = w.1; long = w.2; value = a; extension = e; holds = d })

    to : (answer_number (answer_to kind size bytes) ≡ 0) ⊎ (answer_number (answer_to kind size bytes) ≡ 20) → IsMessage k size bytes
    to (inl z) =
        let r = (number-0 kind size bytes).0 z in
        let d = (answer-0 kind size bytes r.0 r.1 r.2).0 r.3 in
        message r.0 r.1 r.2 d.0 d.1
    to (inr z) =
        let r = (number-20 kind size bytes).0 z in
        let d = (answer-20 kind size bytes r.0 r.1 r.2).0 r.3 in
        message r.0 r.1 r.2 d.0 d.1

    back : (d : IsMessage k size bytes) (t : Bool) → (form k).aside d.value ≡ t
        → (answer_number (answer_to kind size bytes) ≡ 0) ⊎ (answer_number (answer_to kind size bytes) ≡ 20)
    back d true t = inr (ap answer_number ((answer-20 kind size bytes k d.value d.extension).1 ((listed, d.limit, d.long), d.holds, t)))
    back d false t = inl (ap answer_number ((answer-0 kind size bytes k d.value d.extension).1 ((listed, d.limit, d.long), d.holds, t)))

-- ---- the answers

same-but-extension : (k : Kind) (b : Bool) (a : Record k) (e e' : ℕ) → unextended (answer_for k (given b a e)) ≡ unextended (answer_for k (given b a e'))
same-but-extension k true a e e' = refl
same-but-extension k false a e e' = refl

pub varied-answer : (kind size : ℕ) (bytes : List ℕ) (size' : ℕ) (bytes' : List ℕ) → VariedPayload kind size bytes size' bytes'
    → unextended (answer_to kind size bytes) ≡ unextended (answer_to kind size' bytes')
unfolding reading_of
varied-answer kind size bytes size' bytes' v =
    ap unextended (to-payload kind size bytes k (v.listed, v.first.limit, v.first.long))
    ∙ ap (λ x. unextended (answer_for k x)) (whole-holds (form k) (bits_of (take size bytes)) v.first.value v.first.extension v.first.holds)
    ∙ same-but-extension k ((form k).aside v.first.value) v.first.value v.first.extension v.extension'
    ∙ sym
    (ap unextended (to-payload kind size' bytes' k (v.listed, v.limit', v.long'))
    ∙ ap (λ x. unextended (answer_for k x)) (ap (whole (form k)) v.split' ∙ again))
  where
    k : Kind
    k = v.k

    again : whole (form k) (v.message' ++ v.rest') ≡ given ((form k).aside v.first.value) v.first.value v.extension'
    again =
        varied-whole (form k) (bits_of (take size bytes)) v.first.value v.first.extension v.first.holds v.message' v.rest' v.extension' v.varies
        (subst (λ b. Follows b v.rest' v.extension') (sym v.tailed) v.follows')

-- ---- one call

-- what a turn leaves and, but for the extension's length, answers
abbrev pub Like : Slot × Reply → Slot × Reply → Type 0
Like w v = (w.0 ≡ v.0) × (blind w.1 ≡ blind v.1)

-- the extension's length leaves no trace
held-unextended : (h : Held) (a : Answer) → held_after h (unextended a) ≡ held_after h a
unfolding held_after
held-unextended h a = refl

like-feed : (x : Slot) (kind : ℕ) (a b : Answer) → unextended a ≡ unextended b
    → Like (replying read (when_open x (shut_answer kind) (holding x (held_after x.held a), a))) (replying read (when_open x (shut_answer kind) (holding x (held_after x.held b), b)))
like-feed x kind a b e = go (is_open x)
  where
    go : (t : Bool) → Like (replying read (if t then (holding x (held_after x.held a), a) else (x, shut_answer kind))) (replying read (if t then (holding x (held_after x.held b), b) else (x, shut_answer kind)))
    go true = (ap (holding x) (sym (held-unextended x.held a) ∙ ap (held_after x.held) e ∙ held-unextended x.held b), ap read e)
    go false = (refl, refl)

pub like : {c d : Call} → Pair c d → (x : Slot) → Like (turn x c) (turn x d)
like (same c) x = (refl, refl)
like (cut n kind size bytes bytes' l l' e) x = like-feed x kind _ _ (ap unextended (local kind size bytes bytes' l l' e))
like (varied n kind size bytes size' bytes' v) x = like-feed x kind _ _ (varied-answer kind size bytes size' bytes' v)
like (lent n rows rows' e) x = (ap (λ m. (tabling m x).0) e, ap (λ m. tabled (tabling m x).1) e)
