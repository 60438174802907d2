-- What the layers above know of a feed: what its answer is and says of the held kinds, where it is refused with 8, and that what is refused,
-- set aside or of a kind that is not held leaves a slot as it was.
-- Assumes nothing.
use Prim.Native.Nat.{ℕ}
use native.Mathlib.Omega.{arith}
use mathlib.Core.Path.{◌≡◌, refl, sym, ap, ◌∙◌, subst}
use mathlib.Core.Logic.{◌≢◌, ◌↔◌, ◌⊎◌, inl, inr}
use mathlib.Core.Bool.{false}
use mathlib.Core.List.{List}
use lib.ListN.{take}
use Rattle.std.specs.Prelude.{Option, Some, None}
use Rattle.bits.specs.Refusals as refusals
use Rattle.bits.specs.declared.refusal.Refusal.{Refusal}
use Rattle.format.specs.Whole.{Reading, taken, set_aside, refused}
use Rattle.format.proofs.Whole as whole
use Rattle.answers.specs.Listed.{Record, form, number, is_held, Unheld, named, reading_of}
use Rattle.answers.specs.Answer.{answer_number, made, answer_for, unknown, refused_as}
use Rattle.reader.specs.Reader.{answer_to}
use Rattle.reader.specs.Cases.{stated, Case}
use Rattle.reader.specs.Cases as cases
use Rattle.answers.specs.declared.kind.Kind.{Kind}
use Rattle.answers.specs.declared.Answer.{Answer}
use Rattle.answers.specs.declared.Outcome.{Outcome}
use Rattle.answers.specs.declared.Outcome.TheVariants.{Taken, SetAside, Refused}
use Rattle.answers.proofs.KindLaws.{one-kind, made-kind, unheld-passes}
use Rattle.reader.proofs.Calls.{Call, unlisted, oversized, payload, call}
use Rattle.reader.proofs.Demand2.{case}
use Rattle.held.specs.Lasting.{Lasting, frame_packing, orientation, equirectangular, rotation, region_wise, kind_of, RecordOf}
use Rattle.held.specs.Held.{took}
use Rattle.held.specs.declared.Held.{Held}
use Rattle.held.proofs.LastingLaws.{unheld-apart, sort}
use Rattle.slots.specs.Slots.{Eight, Shut, holding}
use Rattle.slots.specs.declared.Slot.{Slot}
use Rattle.slots.specs.declared.Slots.{Slots}
use Rattle.slots.proofs.Laws.{either, holding-same, shut-8}
use Rattle.feeding.specs.Feed.{held_by, held_after, shut_as, shut_answer, feeding, fed_to}
use Rattle.feeding.specs.Filling.{reply_of, shut_reply}
use Rattle.feeding.specs.declared.filling.Reply.{Reply}

-- ---- what leaves the held records

-- only what is taken changes them
pub untaken-keeps : (h : Held) (a : Answer) → a.outcome ≢ Taken → held_after h a ≡ h
unfolding held_after
untaken-keeps h a = go a.outcome
  where
    go : (o : Outcome) → o ≢ Taken → held_by h o a.message a.beside.region_wise ≡ h
    go Taken d = absurd (d refl)
    go SetAside d = refl
    go (Refused r) d = refl

-- nor does a kind that is not held
unheld-keeps : (h : Held) (k : Kind) (x : Reading (Record k)) → Unheld k → held_after h (answer_for k x) ≡ h
unfolding held_after
unheld-keeps h k (set_aside a e) u = refl
unheld-keeps h k (refused r) u = refl
unheld-keeps h k (taken a e) u = rw (unheld-passes k a u).1

-- and of one that is held
pub took-after : (k : Lasting) (h : Held) (a : RecordOf k) (e : ℕ) → held_after h (made (kind_of k) Taken a e) ≡ took k h a
unfolding held_after
took-after frame_packing h a e = refl
took-after orientation h a e = refl
took-after equirectangular h a e = refl
took-after rotation h a e = refl
took-after region_wise h a e = refl

-- ---- what an answer says of the five kinds that are held

-- it is 0 with a message of one of them, or changes nothing and is 0 with none of them
pub data Came (x : Answer) : Type 0 where
  held : (j : Lasting) (b : RecordOf j) (e : ℕ) → x ≡ made (kind_of j) Taken b e → Came x
  passed : ((h : Held) → held_after h x ≡ h) → ((k : Lasting) (b : RecordOf k) (e : ℕ) → x ≢ made (kind_of k) Taken b e) → Came x

untaken-came : (x : Answer) → x.outcome ≢ Taken → Came x
untaken-came x d = passed (λ h. untaken-keeps h x d) (λ k b e q. d (ap (λ (y : Answer). y.outcome) q))

taken-came : (j : Kind) (b : Record j) (e : ℕ) → (is_held (number j) ≡ false) ⊎ ((k : Lasting) × (number j ≡ number (kind_of k))) → Came (answer_for j (taken b e))
taken-came j b e (inl u) =
    passed (λ h. unheld-keeps h j (taken b e) u) (λ k c f q. unheld-apart j u k (ap number (made-kind j (kind_of k) Taken Taken b c e f q)))
taken-came j b e (inr w) = subst (λ i. (c : Record i) → Came (answer_for i (taken c e))) (sym (one-kind j (kind_of w.0) w.1)) (λ c. held w.0 c e refl) b

reading-came : (j : Kind) (x : Reading (Record j)) → Came (answer_for j x)
reading-came j (set_aside b e) = untaken-came _ (λ q. let z : ◌≡◌ {A = ℕ} 0 1 = cc in omega arith)
reading-came j (refused r) = untaken-came _ (λ q. let z : ◌≡◌ {A = ℕ} 0 1 = cc in omega arith)
reading-came j (taken b e) = taken-came j b e (sort (number j))

pub came : (kind size : ℕ) (bytes : List ℕ) → Came (answer_to kind size bytes)
came kind size bytes = go (call kind size bytes)
  where
    go : Call kind size bytes → Came (answer_to kind size bytes)
    go (unlisted f m) = subst Came (sym m) (untaken-came unknown (λ q. let z : ◌≡◌ {A = ℕ} 0 1 = cc in omega arith))
    go (oversized j f o m) = subst Came (sym m) (untaken-came (refused_as j refusals.by_size) (λ q. let z : ◌≡◌ {A = ℕ} 0 1 = cc in omega arith))
    go (payload j w m) = subst Came (sym m) (reading-came j (reading_of j (take size bytes)))

-- no payload of a kind that is not held changes them, whatever it is answered
pub unheld-feed : (kind size : ℕ) (bytes : List ℕ) → is_held kind ≡ false → (h : Held) → held_after h (answer_to kind size bytes) ≡ h
unheld-feed kind size bytes u h = go (call kind size bytes)
  where
    go : Call kind size bytes → held_after h (answer_to kind size bytes) ≡ h
    go (unlisted f m) = ap (held_after h) m ∙ untaken-keeps h unknown (λ q. let z : ◌≡◌ {A = ℕ} 0 1 = cc in omega arith)
    go (oversized j f o m) = ap (held_after h) m ∙ untaken-keeps h (refused_as j refusals.by_size) (λ q. let z : ◌≡◌ {A = ℕ} 0 1 = cc in omega arith)
    go (payload j w m) = ap (held_after h) m ∙ unheld-keeps h j (reading_of j (take size bytes)) (sym (ap is_held w.0) ∙ u)

-- ---- the number 8

as-replied : (x : Option Kind) → reply_of (shut_as x) ≡ shut_reply
as-replied (Some k) = refl
as-replied None = refl

pub shut_replied : (kind : ℕ) → reply_of (shut_answer kind) ≡ shut_reply
unfolding shut_answer
shut_replied kind = as-replied (named kind)

pub shut-is-8 : (kind : ℕ) → answer_number (shut_answer kind) ≡ 8
shut-is-8 kind = ap (λ (r : Reply). r.number) (shut_replied kind)

of-element : {r : Refusal} → refusals.OfElement r → refusals.refusal_number r ≡ 8 → ⊥
of-element refusals.short e = omega arith
of-element refusals.zeros e = omega arith
of-element refusals.rule e = omega arith
of-element refusals.regions e = omega arith

-- no reading is answered 8
answer-not-8 : (kind size : ℕ) (bytes : List ℕ) → answer_number (answer_to kind size bytes) ≡ 8 → ⊥
answer-not-8 kind size bytes h = go (case kind size bytes)
  where
    go : Case kind size bytes → ⊥
    go (cases.unlisted f m) = omega (arith, ap answer_number m)
    go (cases.oversized k f o m) = omega (arith, ap answer_number m)
    go (cases.stops k w r d m) = of-element (whole.stopped-which (form k).table (stated size bytes) r d) (sym (ap answer_number m) ∙ h)
    go (cases.tail k w d m) = omega (arith, ap answer_number m)
    go (cases.aside k w a e d s m) = omega (arith, ap answer_number m)
    go (cases.taken k w a e d s m) = omega (arith, ap answer_number m)

-- 8 exactly where there is no such slot or it is closed
pub fed-8 : (kind size : ℕ) (bytes : List ℕ) (s : Slots) (n : ℕ) → Eight s → (answer_number (fed_to s n kind size bytes).1 ≡ 8) ↔ Shut s n
fed-8 kind size bytes =
    shut-8 answer_number (shut_answer kind) (λ x. (holding x (held_after x.held (answer_to kind size bytes)), answer_to kind size bytes))
    (shut-is-8 kind) (λ x. answer-not-8 kind size bytes)

-- ---- what leaves the slot

module _ (kind size : ℕ) (bytes : List ℕ) (x : Slot) where
  keeps : held_after x.held (answer_to kind size bytes) ≡ x.held → (feeding kind size bytes x).0 ≡ x
  keeps k = either x _ _ (λ w. w.0 ≡ x) (λ o. ap (holding x) k ∙ holding-same x) (λ o. refl)

  -- what is refused or set aside
  pub feed-untaken : (feeding kind size bytes x).1.outcome ≢ Taken → (feeding kind size bytes x).0 ≡ x
  feed-untaken = either x _ _ (λ w. w.1.outcome ≢ Taken → w.0 ≡ x) (λ o d. ap (holding x) (untaken-keeps x.held _ d) ∙ holding-same x) (λ o d. refl)

  -- any payload of a kind that is not held
  pub feed-unheld : is_held kind ≡ false → (feeding kind size bytes x).0 ≡ x
  feed-unheld u = keeps (unheld-feed kind size bytes u x.held)
