-- The persistence rules: a slot holds a record exactly where it came last of its kind and no call since has ended it.
-- Assumes nothing.
use Prim.Native.Nat.{ℕ}
use native.Mathlib.Omega.{arith}
use mathlib.Core.Path.{◌≡◌, refl, sym, ap, ◌∙◌, subst}
use mathlib.Core.Logic.{◌≢◌, ◌↔◌, ◌⊎◌, inl, inr, ⊎_elim}
use mathlib.Core.Bool.{Bool, true, false}
use mathlib.Core.List.{List}
use lib.Dec.{eqb}
use borrow.Author.Tests.{eq-eqb, ne_eqb, eqb-true, eqb-false}
use Rattle.std.specs.Prelude.{if◌then◌else◌}
use Rattle.runs.proofs.Lasts as lasts
use Rattle.answers.specs.Listed.{number}
use Rattle.answers.specs.Answer.{answer_number, made}
use Rattle.reader.specs.Reader.{answer_to}
use Rattle.answers.proofs.KindLaws.{made-kind, made-same}
use Rattle.answers.specs.declared.Answer.{Answer}
use Rattle.answers.specs.declared.Outcome.TheVariants.{Taken}
use Rattle.held.specs.Lasting.{Lasting, kind_of, RecordOf, cancel_of, persistence_of, HeldOf, marked, mark_of, value_of}
use Rattle.held.specs.Held.{none_of, taken_of, kept_of, held_of, nothing, kept}
use Rattle.held.specs.declared.Held.{Held}
use Rattle.held.proofs.HeldLaws.{mark-of, value-of, none-mark, of-nothing, of-kept, of-replaced, other-replaced}
use Rattle.held.proofs.LastingLaws.{same_kind}
use Rattle.region_table.specs.Rows.{Table}
use Rattle.slots.specs.Slots.{is_open, holding, fresh_slot}
use Rattle.slots.specs.declared.Slot.{Slot}
use Rattle.slots.proofs.Laws.{apart, either, fresh_holds, closed-holds, holding-open, holding-holds}
use Rattle.feeding.specs.Feed.{held_after, shut_answer}
use Rattle.feeding.proofs.FeedLaws.{took-after, Came, held, passed, came, shut-is-8}
use Rattle.isolation.specs.Runs.{Call, opens, closes, sequences, pictures, feeds, tables, Reply, said, shown, read, tabled, replying, turn, ends}
use Rattle.isolation.specs.Lasting.{HoldsOf, history, Answers, Gives, Leaves, Since}

-- ---- a closed slot holds nothing

abbrev Bare : Slot → Type 0
Bare x = is_open x ≡ false → x.held ≡ nothing

holding-bare : (x : Slot) (h : Held) → is_open x ≡ true → Bare (holding x h)
holding-bare x h o f = absurd (apart (holding-open x h ∙ o) f)

-- ---- only a feed's reply is a reading

abbrev pub Unread : Reply → Type 0
Unread (said v) = Unit {0}
Unread (shown w) = Unit {0}
Unread (read x) = ⊥
Unread (tabled t) = Unit {0}

pub unread : (k : Lasting) (a : RecordOf k) (r : Reply) → Unread r → Answers k a r → ⊥
unread k a (said v) u w = let e = w.is in let z : ◌≡◌ {A = ℕ} 0 1 = cc in omega arith
unread k a (shown v) u w = let e = w.is in let z : ◌≡◌ {A = ℕ} 0 1 = cc in omega arith
unread k a (read x) u w = absurd u
unread k a (tabled t) u w = let e = w.is in let z : ◌≡◌ {A = ℕ} 0 1 = cc in omega arith

-- ---- one record a of kind k

module _ (k : Lasting) (a : RecordOf k) where
  abbrev Here : Held → Type 0
  Here h = held_of k h ≡ marked k 1 a

  absent : none_of k ≡ marked k 1 a → ⊥
  absent e = omega (arith, sym (none-mark k) ∙ ap (mark_of k) e ∙ mark-of k 1 a)

  empty : (h : Held) → h ≡ nothing → Here h → ⊥
  empty h e q = absent (sym (of-nothing k) ∙ ap (held_of k) (sym e) ∙ q)

  -- ---- a feed of an open slot

  module _ (h : Held) (x : Answer) where
    -- it came with a, or a was there and it came with none of the kind
    abbrev Why : Type 0
    Why = (Answers k a (read x) × (cancel_of k a ≡ 0)) ⊎ (Here h × ((b : RecordOf k) → Answers k b (read x) → ⊥))

    abbrev Ways : Type 0
    Ways = Here (held_after h x) ↔ Why

    as-made : (b : RecordOf k) (w : Answers k b (read x)) → x ≡ made (kind_of k) Taken b w.extension
    as-made b w = let e = w.is in cc

    untouched : held_of k (held_after h x) ≡ held_of k h → ((b : RecordOf k) (e : ℕ) → x ≢ made (kind_of k) Taken b e) → Ways
    untouched u d = (λ q. inr (sym u ∙ q, λ b w. d b w.extension (as-made b w)), back)
      where
        back : Why → Here (held_after h x)
        back (inl w) = absurd (d a w.0.extension (as-made a w.0))
        back (inr w) = u ∙ w.0

    own : (b : RecordOf k) (e : ℕ) → x ≡ made (kind_of k) Taken b e → Ways
    unfolding taken_of
    own b e m = (to (eqb (cancel_of k b) 0) refl, back)
      where
        now : held_of k (held_after h x) ≡ (if eqb (cancel_of k b) 0 then marked k 1 b else none_of k)
        now = ap (λ y. held_of k (held_after h y)) m ∙ ap (held_of k) (took-after k h b e) ∙ of-replaced k h (taken_of k b)

        to : (t : Bool) → eqb (cancel_of k b) 0 ≡ t → Here (held_after h x) → Why
        to true z q =
            let v : b ≡ a = sym (value-of k 1 b) ∙ ap (value_of k) (sym (rw z at now) ∙ q) ∙ value-of k 1 a in
            inl (record { extension = e; is = ap read (m ∙ ap (λ c. made (kind_of k) Taken c e) v) }, ap (cancel_of k) (sym v) ∙ eqb-true _ _ z)
        to false z q = absurd (absent (sym (rw z at now) ∙ q))

        back : Why → Here (held_after h x)
        back (inl w) =
            let v : b ≡ a = (made-same (kind_of k) Taken Taken b a e w.0.extension (sym m ∙ as-made a w.0)).1 in
            now ∙ rw (eq-eqb (cancel_of k b) 0 (ap (cancel_of k) v ∙ w.1), v)
        back (inr w) = absurd (w.1 b (record { extension = e; is = ap read m }))

    fed : Came x → Ways
    fed (passed keeps d) = untouched (ap (held_of k) (keeps h)) (d k)
    fed (held j b e m) = go (eqb (number (kind_of k)) (number (kind_of j))) refl
      where
        go : (t : Bool) → eqb (number (kind_of k)) (number (kind_of j)) ≡ t → Ways
        go true q =
            let same : k ≡ j = same_kind k j (eqb-true _ _ q) in
            subst (λ i. (c : RecordOf i) → x ≡ made (kind_of i) Taken c e → Ways) same (λ c. own c e) b m
        go false q =
            let d : number (kind_of k) ≢ number (kind_of j) = eqb-false _ _ q in
            untouched
            (ap (λ y. held_of k (held_after h y)) m ∙ ap (held_of k) (took-after j h b e) ∙ other-replaced k j h (taken_of j b) d)
            (λ c f n. d (ap number (made-kind (kind_of k) (kind_of j) Taken Taken c b f e (sym n ∙ m))))

  -- a picture leaves what persists
  pictured-here : (h : Held) → Here (kept h) ↔ (Here h × (persistence_of k a ≢ 0))
  unfolding kept_of
  pictured-here h = (to (eqb (flag (held_of k h)) 0) refl, back)
    where
      flag : HeldOf k → ℕ
      flag m = persistence_of k (value_of k m)

      flagged : Here h → flag (held_of k h) ≡ persistence_of k a
      flagged q = ap flag q ∙ ap (persistence_of k) (value-of k 1 a)

      now : held_of k (kept h) ≡ (if eqb (flag (held_of k h)) 0 then none_of k else held_of k h)
      now = of-kept k h

      to : (t : Bool) → eqb (flag (held_of k h)) 0 ≡ t → Here (kept h) → Here h × (persistence_of k a ≢ 0)
      to true z q = absurd (absent (sym (rw z at now) ∙ q))
      to false z q =
          let r : Here h = sym (rw z at now) ∙ q in
          (r, λ p. eqb-false _ _ z (flagged r ∙ p))

      back : Here h × (persistence_of k a ≢ 0) → Here (kept h)
      back w = now ∙ rw (ne_eqb (flag (held_of k h)) 0 (λ p. w.1 (sym (flagged w.0) ∙ p))) w.0

  -- ---- one call on a slot: that a closed one holds nothing stays so, and what is held after it, by what it is answered

  abbrev Step : Slot → Call → Slot × Reply → Type 0
  Step x c w = Bare w.0 × (HoldsOf k a w.0 ↔ (Gives k a (record { call = c; reply = w.1 }) ⊎ (HoldsOf k a x × Leaves k a c w.1)))

  -- not held after it, not given by it, and not left by it
  dead : (x : Slot) (c : Call) (w : Slot × Reply) → Bare w.0 → (HoldsOf k a w.0 → ⊥) → (Gives k a (record { call = c; reply = w.1 }) → ⊥)
      → (HoldsOf k a x → Leaves k a c w.1 → ⊥) → Step x c w
  dead x c w b f g l = (b, (λ q. absurd (f q), λ y. ⊎_elim (λ v. absurd (g v)) (λ v. absurd (l v.0 v.1)) y))

  unread-gives : (c : Call) (r : Reply) → Unread r → Gives k a (record { call = c; reply = r }) → ⊥
  unread-gives c r u g = unread k a r u g.answers

  shut-gives : (kind : ℕ) (c : Call) → Gives k a (record { call = c; reply = read (shut_answer kind) }) → ⊥
  shut-gives kind c g =
      let e = as-made nothing (shut_answer kind) a g.answers in
      omega (arith, shut-is-8 kind, ap answer_number e)

  -- a call that leaves a slot which holds nothing
  emptied : (x y : Slot) (c : Call) (r : Reply) → y.held ≡ nothing → Unread r → (HoldsOf k a x → Leaves k a c r → ⊥) → Step x c (y, r)
  emptied x y c r e u = dead x c (y, r) (λ o. e) (empty y.held e) (unread-gives c r u)

  -- a refusal of a closed slot
  shut : (x : Slot) (c : Call) (r : Reply) → Bare x → is_open x ≡ false → (Gives k a (record { call = c; reply = r }) → ⊥) → Step x c (x, r)
  shut x c r b o g = dead x c (x, r) b (empty x.held (b o)) g (λ q l. empty x.held (b o) q)

  one : (x : Slot) → Bare x → (c : Call) → Step x c (turn x c)
  one x b (opens n) = emptied x fresh_slot (opens n) _ fresh_holds tt (λ q l. l)
  one x b (closes n) =
      either x _ _ (λ w. Step x (closes n) (replying said w))
      (λ o. emptied x _ (closes n) _ closed-holds tt (λ q l. l))
      (λ o. shut x (closes n) _ b o (unread-gives _ _ tt))
  one x b (sequences n) =
      either x _ _ (λ w. Step x (sequences n) (replying said w))
      (λ o. emptied x _ (sequences n) _ fresh_holds tt (λ q l. l))
      (λ o. shut x (sequences n) _ b o (unread-gives _ _ tt))
  one x b (pictures n) =
      either x _ _ (λ w. Step x (pictures n) (replying shown w))
      (λ o. (
        holding-bare x _ o,
        (
          λ q. inr ((pictured-here x.held).0 (sym is ∙ q)),
          λ y. is ∙ ⊎_elim (λ g. absurd (unread-gives _ _ tt g)) (pictured-here x.held).1 y,
        ),
      ))
      (λ o. shut x (pictures n) _ b o (unread-gives _ _ tt))
    where
      is : held_of k (holding x (kept x.held)).held ≡ held_of k (kept x.held)
      is = ap (held_of k) (holding-holds x (kept x.held))
  one x b (feeds n kind size bytes) =
      either x _ _ (λ w. Step x (feeds n kind size bytes) (replying read w))
      (λ o. (
        holding-bare x _ o,
        (
          λ q. ⊎_elim (λ w. inl (record { answers = w.0; stays = w.1 })) (λ w. inr w) (ways.0 (sym is ∙ q)),
          λ y. is ∙ ways.1 (⊎_elim (λ g. inl (g.answers, g.stays)) (λ w. inr w) y),
        ),
      ))
      (λ o. shut x (feeds n kind size bytes) _ b o (shut-gives kind _))
    where
      answer : Answer
      answer = answer_to kind size bytes

      is : held_of k (holding x (held_after x.held answer)).held ≡ held_of k (held_after x.held answer)
      is = ap (held_of k) (holding-holds x (held_after x.held answer))

      ways : Ways x.held answer
      ways = fed x.held answer (came kind size bytes)
  one x b (tables n lent) = either x _ _ (λ w. Step x (tables n lent) (replying tabled w)) (λ o. same _) (λ o. same _)
    where
      same : (t : Table) → Step x (tables n lent) (x, tabled t)
      same t = (b, (λ q. inr (q, tt), λ y. ⊎_elim (λ g. absurd (unread-gives (tables n lent) (tabled t) tt g)) (λ w. w.0) y))

-- A slot that held nothing holds a of kind k exactly where some feed since was answered 0 with a, which is no cancel, and none of the later
-- calls ended it.
pub holds-when : (k : Lasting) (a : RecordOf k) (x : Slot) → x.held ≡ nothing → (cs : List Call)
    → HoldsOf k a (ends x cs) ↔ Since k a (history x cs)
holds-when k a x e = lasts.holds-when turn Bare (HoldsOf k a) (Gives k a) (Leaves k a) (one k a) x (λ o. e) (empty k a x.held e)

-- so it is from its opening on
pub holds-iff : (k : Lasting) (a : RecordOf k) (cs : List Call) → HoldsOf k a (ends fresh_slot cs) ↔ Since k a (history fresh_slot cs)
holds-iff k a cs = holds-when k a fresh_slot fresh_holds cs
