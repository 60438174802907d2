-- Demands 1 and 2, for any kind number, size and bytes: each answer is given exactly when, number and record. All is said of the
-- payload's bits, and nothing in terms of how they are read. The cases exclude each other, since an answer has one number.
-- Assumes nothing.
use Prim.Native.Nat.{ℕ}
use mathlib.Core.Path.{◌≡◌, refl, sym, ap, ◌∙◌, subst}
use mathlib.Core.Logic.{◌≢◌, ◌↔◌, ◌⊎◌, inl, inr}
use mathlib.Core.Bool.{Bool, true, false}
use mathlib.Core.List.{List}
use native.Mathlib.Omega.{arith}
use lib.ListN.{take}
use Rattle.bits.specs.Bits.{bits_of}
use Rattle.bits.specs.Refusals as refusals
use Rattle.bits.specs.Refusals.{OfElement}
use Rattle.bits.specs.declared.refusal.Refusal.{Refusal}
use Rattle.bits.specs.declared.refusal.Refusal.TheVariants as why
use Rattle.bits.proofs.Determined.{refusal-told}
use Rattle.bits.proofs.Numbers.{refused-some}
use Rattle.format.specs.Stopped.{Stopped}
use Rattle.format.specs.Whole.{taken, set_aside, refused}
use Rattle.format.specs.Holds.{Holds, BadTail, Seen}
use Rattle.format.specs.Holds as whole
use Rattle.format.proofs.Whole.{seen, stopped-which, taken-iff, aside-iff, stopped-iff, tail-iff}
use Rattle.answers.specs.Listed.{Record, zeros, form, number, reading_of}
use Rattle.answers.specs.Answer.{outcome_number, answer_number, made, answer_for, refused_as, unknown}
use Rattle.answers.specs.declared.kind.Kind.{Kind}
use Rattle.answers.specs.declared.Answer.{Answer}
use Rattle.answers.specs.declared.Outcome.{Outcome}
use Rattle.answers.specs.declared.Outcome.TheVariants.{Taken, SetAside, Refused}
use Rattle.answers.proofs.KindLaws.{made-kind, refused-plain}
use Rattle.answers.proofs.AnswerLaws.{reading, answer-kind, answer-reading}
use Rattle.reader.specs.Reader.{answer_to, Over, Within}
use Rattle.reader.specs.Cases.{stated, Case}
use Rattle.reader.specs.Cases as cases
use Rattle.reader.proofs.Calls.{to-unlisted, to-oversized, to-payload, Call, unlisted, oversized, payload, call}

-- ---- what a payload s of kind k comes to

taken-when : (k : Kind) (s : List ℕ) (a : Record k) (e : ℕ) → (reading_of k s ≡ taken a e) ↔ (Holds (form k) (bits_of s) a e × ((form k).aside a ≡ false))
unfolding reading_of
taken-when k s a e = taken-iff (form k) (bits_of s) a e

aside-when : (k : Kind) (s : List ℕ) (a : Record k) (e : ℕ) → (reading_of k s ≡ set_aside a e) ↔ (Holds (form k) (bits_of s) a e × ((form k).aside a ≡ true))
unfolding reading_of
aside-when k s a e = aside-iff (form k) (bits_of s) a e

stopped-when : (k : Kind) (s : List ℕ) (r : Refusal) → OfElement r → (reading_of k s ≡ refused r) ↔ Stopped (form k).table (bits_of s) r
unfolding reading_of
stopped-when k s r o = stopped-iff (form k) (bits_of s) r o

tail-when : (k : Kind) (s : List ℕ) → (reading_of k s ≡ refused why.Tail) ↔ BadTail (form k) (bits_of s)
unfolding reading_of
tail-when k s = tail-iff (form k) (bits_of s)

pub one_of : (k : Kind) (s : List ℕ) → Seen (form k) (bits_of s)
one_of k s = seen (form k) (bits_of s)

-- ---- every call is one of the cases

pub case : (n size : ℕ) (bytes : List ℕ) → Case n size bytes
case n size bytes = go (call n size bytes)
  where
    at-message : (k : Kind) → Within k n size bytes → answer_to n size bytes ≡ answer_for k (reading_of k (take size bytes))
        → (a : Record k) (e : ℕ) → Holds (form k) (stated size bytes) a e → (b : Bool) → (form k).aside a ≡ b → Case n size bytes
    at-message k w m a e d true h = cases.aside k w a e d h (m ∙ ap (answer_for k) ((aside-when k (take size bytes) a e).1 (d, h)))
    at-message k w m a e d false h = cases.taken k w a e d h (m ∙ ap (answer_for k) ((taken-when k (take size bytes) a e).1 (d, h)))

    at_bits : (k : Kind) → Within k n size bytes → answer_to n size bytes ≡ answer_for k (reading_of k (take size bytes))
        → Seen (form k) (stated size bytes) → Case n size bytes
    at_bits k w m (whole.holds a e d) = at-message k w m a e d ((form k).aside a) refl
    at_bits k w m (whole.stops r d) =
        let o = stopped-which (form k).table (stated size bytes) r d in
        cases.stops k w r d (m ∙ ap (answer_for k) ((stopped-when k (take size bytes) r o).1 d) ∙ refused-plain k r)
    at_bits k w m (whole.tail d) = cases.tail k w d (m ∙ ap (answer_for k) ((tail-when k (take size bytes)).1 d) ∙ refused-plain k why.Tail)

    go : Call n size bytes → Case n size bytes
    go (unlisted f m) = cases.unlisted f m
    go (oversized k f o m) = cases.oversized k f o m
    go (payload k w m) = at_bits k w m (one_of k (take size bytes))

-- ---- the number says the answer

-- after 1 and 2
abbrev Later : Outcome → Type 0
Later o = (outcome_number o ≢ 1) × (outcome_number o ≢ 2)

element-later : {r : Refusal} → OfElement r → Later (Refused r)
element-later refusals.short = (λ h. omega arith, λ h. omega arith)
element-later refusals.zeros = (λ h. omega arith, λ h. omega arith)
element-later refusals.rule = (λ h. omega arith, λ h. omega arith)
element-later refusals.regions = (λ h. omega arith, λ h. omega arith)

-- no two outcomes have one number
outcome-told : (o p : Outcome) → outcome_number o ≡ outcome_number p → o ≡ p
outcome-told Taken Taken h = refl
outcome-told Taken SetAside h = absurd (omega arith)
outcome-told Taken (Refused t) h = absurd (omega (arith, (refused-some t).0))
outcome-told SetAside Taken h = absurd (omega arith)
outcome-told SetAside SetAside h = refl
outcome-told SetAside (Refused t) h = absurd (omega (arith, (refused-some t).1))
outcome-told (Refused r) Taken h = absurd (omega (arith, (refused-some r).0))
outcome-told (Refused r) SetAside h = absurd (omega (arith, (refused-some r).1))
outcome-told (Refused r) (Refused t) h = ap Refused (refusal-told r t h)

-- the whole answer x that has an outcome: a record of some kind, or zeros
abbrev Says : Answer → Outcome → Type 0
Says x Taken = (k : Kind) × (a : Record k) × (e : ℕ) × (x ≡ made k Taken a e)
Says x SetAside = (k : Kind) × (a : Record k) × (e : ℕ) × (x ≡ made k SetAside a e)
Says x (Refused r) = ((r ≡ why.Kind) × (x ≡ unknown)) ⊎ ((k : Kind) × (x ≡ refused_as k r))

says : (n size : ℕ) (bytes : List ℕ) → Says (answer_to n size bytes) (answer_to n size bytes).outcome
says n size bytes = go (case n size bytes)
  where
    by : {x : Answer} → answer_to n size bytes ≡ x → Says (answer_to n size bytes) x.outcome → Says (answer_to n size bytes) (answer_to n size bytes).outcome
    by m = subst (λ (y : Answer). Says (answer_to n size bytes) y.outcome) (sym m)

    go : Case n size bytes → Says (answer_to n size bytes) (answer_to n size bytes).outcome
    go (cases.unlisted f m) = by m (inl (refl, m))
    go (cases.oversized k f o m) = by m (inr (k, m))
    go (cases.stops k w r d m) = by m (inr (k, m))
    go (cases.tail k w d m) = by m (inr (k, m))
    go (cases.aside k w a e d s m) = by m (k, a, e, m)
    go (cases.taken k w a e d s m) = by m (k, a, e, m)

said-by : (n size : ℕ) (bytes : List ℕ) (o : Outcome) → answer_number (answer_to n size bytes) ≡ outcome_number o → Says (answer_to n size bytes) o
said-by n size bytes o h = subst (Says (answer_to n size bytes)) (outcome-told (answer_to n size bytes).outcome o h) (says n size bytes)

pub number-0 : (n size : ℕ) (bytes : List ℕ) → (answer_number (answer_to n size bytes) ≡ 0) ↔ ((k : Kind) × (a : Record k) × (e : ℕ) × (answer_to n size bytes ≡ made k Taken a e))
number-0 n size bytes = (said-by n size bytes Taken, λ d. ap answer_number d.3)

pub number-20 : (n size : ℕ) (bytes : List ℕ) → (answer_number (answer_to n size bytes) ≡ 20) ↔ ((k : Kind) × (a : Record k) × (e : ℕ) × (answer_to n size bytes ≡ made k SetAside a e))
number-20 n size bytes = (said-by n size bytes SetAside, λ d. ap answer_number d.3)

pub number-1 : (n size : ℕ) (bytes : List ℕ) → (answer_number (answer_to n size bytes) ≡ 1) ↔ (answer_to n size bytes ≡ unknown)
number-1 n size bytes = (λ h. go h (case n size bytes), λ m. ap answer_number m)
  where
    go : answer_number (answer_to n size bytes) ≡ 1 → Case n size bytes → answer_to n size bytes ≡ unknown
    go h (cases.unlisted f m) = m
    go h (cases.oversized k f o m) = absurd (omega (arith, ap answer_number m))
    go h (cases.stops k w r d m) = absurd ((element-later (stopped-which (form k).table (stated size bytes) r d)).0 (sym (ap answer_number m) ∙ h))
    go h (cases.tail k w d m) = absurd (omega (arith, ap answer_number m))
    go h (cases.aside k w a e d s m) = absurd (omega (arith, ap answer_number m))
    go h (cases.taken k w a e d s m) = absurd (omega (arith, ap answer_number m))

-- 2 to 7
pub number-refused : (n size : ℕ) (bytes : List ℕ) (r : Refusal) → r ≢ why.Kind
    → (answer_number (answer_to n size bytes) ≡ refusals.refusal_number r) ↔ ((k : Kind) × (answer_to n size bytes ≡ refused_as k r))
number-refused n size bytes r l = (λ h. go (said-by n size bytes (Refused r) h), λ d. ap answer_number d.1)
  where
    go : Says (answer_to n size bytes) (Refused r) → (k : Kind) × (answer_to n size bytes ≡ refused_as k r)
    go (inl u) = absurd (l u.0)
    go (inr d) = d

-- ---- each answer exactly when

-- an answer after 1 and 2 comes of what the payload comes to
of-payload : (n size : ℕ) (bytes : List ℕ) (k : Kind) (o : Outcome) (a : Record k) (e : ℕ) → Later o → answer_to n size bytes ≡ made k o a e
    → Within k n size bytes × (reading_of k (take size bytes) ≡ reading o a e)
of-payload n size bytes k o a e l h = go (call n size bytes)
  where
    go : Call n size bytes → Within k n size bytes × (reading_of k (take size bytes) ≡ reading o a e)
    go (unlisted f m) = absurd (l.0 (sym (ap answer_number (sym m ∙ h))))
    go (oversized j f g m) = absurd (l.1 (sym (ap answer_number (sym m ∙ h))))
    go (payload j w m) =
        subst
        (λ i. Within i n size bytes → answer_for i (reading_of i (take size bytes)) ≡ made k o a e
        → Within k n size bytes × (reading_of k (take size bytes) ≡ reading o a e))
        (sym (answer-kind j (reading_of j (take size bytes)) k o a e (sym m ∙ h)))
        (λ x q. (x, answer-reading k (reading_of k (take size bytes)) o a e q))
        w (sym m ∙ h)

-- 0, with the record a and an extension of e bits: exactly where the stated bytes are a message a of the kind and then nothing or a
-- permitted tail (for 4 and 5: and then anything), and a is not to be set aside.
pub answer-0 : (n size : ℕ) (bytes : List ℕ) (k : Kind) (a : Record k) (e : ℕ)
    → (answer_to n size bytes ≡ made k Taken a e) ↔ (Within k n size bytes × Holds (form k) (stated size bytes) a e × ((form k).aside a ≡ false))
answer-0 n size bytes k a e = (sound, λ d. to-payload n size bytes k d.0 ∙ ap (answer_for k) ((taken-when k (take size bytes) a e).1 (d.1, d.2)))
  where
    sound : answer_to n size bytes ≡ made k Taken a e → Within k n size bytes × Holds (form k) (stated size bytes) a e × ((form k).aside a ≡ false)
    sound h =
        let d = of-payload n size bytes k Taken a e (λ x. omega arith, λ x. omega arith) h in
        let t = (taken-when k (take size bytes) a e).0 d.1 in
        (d.0, t.0, t.1)

-- 20: exactly where the same holds and a is to be set aside
pub answer-20 : (n size : ℕ) (bytes : List ℕ) (k : Kind) (a : Record k) (e : ℕ)
    → (answer_to n size bytes ≡ made k SetAside a e) ↔ (Within k n size bytes × Holds (form k) (stated size bytes) a e × ((form k).aside a ≡ true))
answer-20 n size bytes k a e = (sound, λ d. to-payload n size bytes k d.0 ∙ ap (answer_for k) ((aside-when k (take size bytes) a e).1 (d.1, d.2)))
  where
    sound : answer_to n size bytes ≡ made k SetAside a e → Within k n size bytes × Holds (form k) (stated size bytes) a e × ((form k).aside a ≡ true)
    sound h =
        let d = of-payload n size bytes k SetAside a e (λ x. omega arith, λ x. omega arith) h in
        let t = (aside-when k (take size bytes) a e).0 d.1 in
        (d.0, t.0, t.1)

-- 1, with no fields: exactly where the kind is none of those listed
pub answer-1 : (n size : ℕ) (bytes : List ℕ) → (answer_to n size bytes ≡ unknown) ↔ ((k : Kind) → n ≢ number k)
answer-1 n size bytes = (λ h. go h (case n size bytes), to-unlisted n size bytes)
  where
    go : answer_to n size bytes ≡ unknown → Case n size bytes → (k : Kind) → n ≢ number k
    go h (cases.unlisted f m) = f
    go h (cases.oversized k f o m) = absurd (omega (arith, ap answer_number (sym m ∙ h)))
    go h (cases.stops k w r d m) = absurd ((element-later (stopped-which (form k).table (stated size bytes) r d)).0 (ap answer_number (sym m ∙ h)))
    go h (cases.tail k w d m) = absurd (omega (arith, ap answer_number (sym m ∙ h)))
    go h (cases.aside k w a e d s m) = absurd (omega (arith, ap answer_number (sym m ∙ h)))
    go h (cases.taken k w a e d s m) = absurd (omega (arith, ap answer_number (sym m ∙ h)))

-- 2, with zeros, as in every refusal of a listed kind: exactly where the size exceeds 8,192 or the lent length
pub answer-2 : (n size : ℕ) (bytes : List ℕ) (k : Kind) → (answer_to n size bytes ≡ refused_as k refusals.by_size) ↔ ((n ≡ number k) × Over size bytes)
answer-2 n size bytes k = (λ h. go h (case n size bytes), λ d. to-oversized n size bytes k d.0 d.1)
  where
    one : (j : Kind) → refused_as j refusals.by_size ≡ refused_as k refusals.by_size → j ≡ k
    one j q =
        let o = Refused refusals.by_size in
        made-kind j k o o (zeros j) (zeros k) 0 0 (refused-plain j refusals.by_size ∙ q ∙ sym (refused-plain k refusals.by_size))

    go : answer_to n size bytes ≡ refused_as k refusals.by_size → Case n size bytes → (n ≡ number k) × Over size bytes
    go h (cases.unlisted f m) = absurd (omega (arith, ap answer_number (sym m ∙ h)))
    go h (cases.oversized j f o m) = (f ∙ ap number (one j (sym m ∙ h)), o)
    go h (cases.stops j w r d m) = absurd ((element-later (stopped-which (form j).table (stated size bytes) r d)).1 (ap answer_number (sym m ∙ h)))
    go h (cases.tail j w d m) = absurd (omega (arith, ap answer_number (sym m ∙ h)))
    go h (cases.aside j w a e d s m) = absurd (omega (arith, ap answer_number (sym m ∙ h)))
    go h (cases.taken j w a e d s m) = absurd (omega (arith, ap answer_number (sym m ∙ h)))

of-refused : (n size : ℕ) (bytes : List ℕ) (k : Kind) (r : Refusal) → Later (Refused r) → answer_to n size bytes ≡ refused_as k r → Within k n size bytes × (reading_of k (take size bytes) ≡ refused r)
of-refused n size bytes k r l h = of-payload n size bytes k (Refused r) (zeros k) 0 l (h ∙ sym (refused-plain k r))

to-refused : (n size : ℕ) (bytes : List ℕ) (k : Kind) (r : Refusal) → Within k n size bytes → reading_of k (take size bytes) ≡ refused r → answer_to n size bytes ≡ refused_as k r
to-refused n size bytes k r w e = to-payload n size bytes k w ∙ ap (answer_for k) e ∙ refused-plain k r

-- 3, 4, 5, 6: exactly where the elements stop it
pub answer-stopped : (n size : ℕ) (bytes : List ℕ) (k : Kind) (r : Refusal) → OfElement r
    → (answer_to n size bytes ≡ refused_as k r) ↔ (Within k n size bytes × Stopped (form k).table (stated size bytes) r)
answer-stopped n size bytes k r o = (sound, λ d. to-refused n size bytes k r d.0 ((stopped-when k (take size bytes) r o).1 d.1))
  where
    sound : answer_to n size bytes ≡ refused_as k r → Within k n size bytes × Stopped (form k).table (stated size bytes) r
    sound h = let d = of-refused n size bytes k r (element-later o) h in (d.0, (stopped-when k (take size bytes) r o).0 d.1)

-- 7: exactly where a message stands, and what follows it is not permitted
pub answer-7 : (n size : ℕ) (bytes : List ℕ) (k : Kind) → (answer_to n size bytes ≡ refused_as k why.Tail) ↔ (Within k n size bytes × BadTail (form k) (stated size bytes))
answer-7 n size bytes k = (sound, λ d. to-refused n size bytes k why.Tail d.0 ((tail-when k (take size bytes)).1 d.1))
  where
    sound : answer_to n size bytes ≡ refused_as k why.Tail → Within k n size bytes × BadTail (form k) (stated size bytes)
    sound h = let d = of-refused n size bytes k why.Tail (λ x. omega arith, λ x. omega arith) h in (d.0, (tail-when k (take size bytes)).0 d.1)

-- ---- and so each number exactly when

pub when-0 : (n size : ℕ) (bytes : List ℕ) → (answer_number (answer_to n size bytes) ≡ 0)
    ↔ ((k : Kind) × (a : Record k) × (e : ℕ) × Within k n size bytes × Holds (form k) (stated size bytes) a e × ((form k).aside a ≡ false))
when-0 n size bytes = (to, λ d. ap answer_number ((answer-0 n size bytes d.0 d.1 d.2).1 (d.3, d.4, d.5)))
  where
    to : answer_number (answer_to n size bytes) ≡ 0
        → (k : Kind) × (a : Record k) × (e : ℕ) × Within k n size bytes × Holds (form k) (stated size bytes) a e × ((form k).aside a ≡ false)
    to h =
        let r = (number-0 n size bytes).0 h in
        let d = (answer-0 n size bytes r.0 r.1 r.2).0 r.3 in
        (r.0, r.1, r.2, d.0, d.1, d.2)

pub when-1 : (n size : ℕ) (bytes : List ℕ) → (answer_number (answer_to n size bytes) ≡ 1) ↔ ((k : Kind) → n ≢ number k)
when-1 n size bytes = (λ h. (answer-1 n size bytes).0 ((number-1 n size bytes).0 h), λ d. ap answer_number ((answer-1 n size bytes).1 d))

pub when-2 : (n size : ℕ) (bytes : List ℕ) → (answer_number (answer_to n size bytes) ≡ 2) ↔ ((k : Kind) × (n ≡ number k) × Over size bytes)
when-2 n size bytes = (to, λ d. ap answer_number ((answer-2 n size bytes d.0).1 (d.1, d.2)))
  where
    to : answer_number (answer_to n size bytes) ≡ 2 → (k : Kind) × (n ≡ number k) × Over size bytes
    to h =
        let r = (number-refused n size bytes refusals.by_size (λ q. let z : ◌≡◌ {A = ℕ} 0 1 = cc in omega arith)).0 h in
        let d = (answer-2 n size bytes r.0).0 r.1 in
        (r.0, d.0, d.1)

-- 3, 4, 5 and 6
pub when-stopped : (n size : ℕ) (bytes : List ℕ) (r : Refusal) → OfElement r
    → (answer_number (answer_to n size bytes) ≡ refusals.refusal_number r) ↔ ((k : Kind) × Within k n size bytes × Stopped (form k).table (stated size bytes) r)
when-stopped n size bytes r o = (to, λ d. ap answer_number ((answer-stopped n size bytes d.0 r o).1 (d.1, d.2)))
  where
    to : answer_number (answer_to n size bytes) ≡ refusals.refusal_number r → (k : Kind) × Within k n size bytes × Stopped (form k).table (stated size bytes) r
    to h =
        let x = (number-refused n size bytes r (λ q. (element-later o).0 (ap refusals.refusal_number q))).0 h in
        let d = (answer-stopped n size bytes x.0 r o).0 x.1 in
        (x.0, d.0, d.1)

pub when-7 : (n size : ℕ) (bytes : List ℕ) → (answer_number (answer_to n size bytes) ≡ 7) ↔ ((k : Kind) × Within k n size bytes × BadTail (form k) (stated size bytes))
when-7 n size bytes = (to, λ d. ap answer_number ((answer-7 n size bytes d.0).1 (d.1, d.2)))
  where
    to : answer_number (answer_to n size bytes) ≡ 7 → (k : Kind) × Within k n size bytes × BadTail (form k) (stated size bytes)
    to h =
        let x = (number-refused n size bytes why.Tail (λ q. let z : ◌≡◌ {A = ℕ} 0 1 = cc in omega arith)).0 h in
        let d = (answer-7 n size bytes x.0).0 x.1 in
        (x.0, d.0, d.1)

pub when-20 : (n size : ℕ) (bytes : List ℕ) → (answer_number (answer_to n size bytes) ≡ 20)
    ↔ ((k : Kind) × (a : Record k) × (e : ℕ) × Within k n size bytes × Holds (form k) (stated size bytes) a e × ((form k).aside a ≡ true))
when-20 n size bytes = (to, λ d. ap answer_number ((answer-20 n size bytes d.0 d.1 d.2).1 (d.3, d.4, d.5)))
  where
    to : answer_number (answer_to n size bytes) ≡ 20
        → (k : Kind) × (a : Record k) × (e : ℕ) × Within k n size bytes × Holds (form k) (stated size bytes) a e × ((form k).aside a ≡ true)
    to h =
        let r = (number-20 n size bytes).0 h in
        let d = (answer-20 n size bytes r.0 r.1 r.2).0 r.3 in
        (r.0, r.1, r.2, d.0, d.1, d.2)
