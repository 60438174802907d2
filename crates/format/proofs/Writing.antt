-- Writing and reading, once over any format: what is written is coded, in plain form; and what is coded in plain form is written so again.
-- Assumes nothing.
use Prim.Native.Nat.{ℕ}
use mathlib.Core.Path.{◌≡◌, refl, sym, ap, ap₂, ◌∙◌, subst}
use mathlib.Core.Bool.{Bool, true, false, ◌&&◌}
use mathlib.Core.List.{List, ◌++◌}
use native.Mathlib.Omega.{arith}
use lib.Dec.{eqb}
use borrow.Author.Tests.{eqb-true, eq-eqb}
use Rattle.bits.specs.Refusals.{Breach, Verdict, fine, against}
use Rattle.bits.specs.Coding.{CodedShape}
use Rattle.format.specs.Format.{Element, handed, verdict, Format, done, read, asks}
use Rattle.format.specs.Coded.{Coded}
use Rattle.format.specs.Varied.{Plain}
use Rattle.format.specs.Writing.{code, fits, Penned, penned, unfit, broken, behind, onward, allowed, fitting, pen_element, pen}
use Rattle.format.specs.Faithful.{FaithfulTo}
use Rattle.format.proofs.Alike.{same-front}
use Rattle.format.proofs.Codes.{code-coded, code-only}

-- both of two tests hold
pub both_hold : (s t : Bool) → s && t ≡ true → (s ≡ true) × (t ≡ true)
both_hold true t e = (refl, e)
both_hold false t e = let z : ◌≡◌ {A = ℕ} 0 1 = cc in absurd (omega arith)

-- ---- one element

element-pen : (e : Element) (v c : ℕ) (own : List Bool) → v ≡ handed e c → CodedShape e.shape own c → verdict e c ≡ fine → handed e c ≡ c
    → pen_element e v ≡ penned own (handed e c)
element-pen e v c own a d k p =
    let o = code-only e.shape own c d in
    ap (pen_element e) (a ∙ p) ∙ rw (o.fit, eq-eqb _ _ p, k) (ap₂ penned (sym o.is) (sym p))

-- what an element is written as
record Wrote (e : Element) (own : List Bool) (m : ℕ) : Type 0 where
  code : ℕ
  is : CodedShape e.shape own code
  hands : handed e code ≡ m
  judged : verdict e code ≡ fine
  plain : handed e code ≡ code

unfit-penned : {A X : Type 0} {w : List Bool} {a : A} → unfit ≡ penned w a → X
unfit-penned h = let z : ◌≡◌ {A = ℕ} 0 1 = cc in absurd (omega arith)

broken-penned : {A X : Type 0} {x : Breach} {w : List Bool} {a : A} → broken x ≡ penned w a → X
broken-penned h = let z : ◌≡◌ {A = ℕ} 0 1 = cc in absurd (omega arith)

fitting-true : {A : Type 0} (t : Bool) (p : Penned A) {w : List Bool} {a : A} → fitting t p ≡ penned w a → (t ≡ true) × (p ≡ penned w a)
fitting-true true p q = (refl, q)
fitting-true false p q = unfit-penned q

element-wrote : (e : Element) (v : ℕ) {own : List Bool} {m : ℕ} → pen_element e v ≡ penned own m → Wrote e own m
element-wrote e v {own} {m} q =
    let f = fitting-true (fits e.shape v && eqb (handed e v) v) (allowed (verdict e v) (code e.shape v) v) q in
    let b = both_hold (fits e.shape v) (eqb (handed e v) v) f.0 in
    by-rule (verdict e v) refl b.0 (eqb-true _ _ b.1) f.1
  where
    by-rule : (x : Verdict) → verdict e v ≡ x → fits e.shape v ≡ true → handed e v ≡ v → allowed x (code e.shape v) v ≡ penned own m → Wrote e own m
    by-rule fine k f h p =
        let o : code e.shape v ≡ own = cc in
        let n : v ≡ m = cc in
        record { code = v; is = subst (λ w. CodedShape e.shape w v) o (code-coded e.shape v f); hands = h ∙ n; judged = k; plain = h }
    by-rule (against x) k f h p = broken-penned p

-- ---- any format

module _ {R A : Type 0} where
  -- What is coded in plain form, by a table whose getters are faithful, is written so again.
  pub coded-pen : (f : Format R A) (back : A → R) (P : A → Type 0) → FaithfulTo back P f → (w : List Bool) (a : A) → Coded f w a → Plain f w
      → P a × (pen f (back a) ≡ penned w a)
  unfolding pen
  coded-pen (done b) back P h w a d p = (subst P d.1 h, ap₂ penned (sym d.0) d.1)
  coded-pen (asks t f) back P h w a d p =
      let r = coded-pen f back (λ a. P a × (t (back a) ≡ true)) h w a d p in
      (r.0.0, rw r.0.1 r.1)
  coded-pen (read e g k) back P h w a d p =
      let s = same-front e.shape d.own d.rest p.own p.rest d.code p.code (sym d.split ∙ p.split) d.element p.element in
      let q : Plain (k (handed e d.code)) d.rest =
      subst (λ c. Plain (k (handed e c)) d.rest) (sym s.code) (subst (λ v. Plain (k (handed e p.code)) v) (sym s.rest-is) p.follows) in
      let r = coded-pen (k (handed e d.code)) back (λ a. P a × (g (back a) ≡ handed e d.code)) (h d.code (code-only e.shape d.own d.code d.element).fit) d.rest a d.follows q in
      let o = element-pen e (g (back a)) d.code d.own r.0.1 d.element d.judged (subst (λ c. handed e c ≡ c) (sym s.code) p.plain) in
      (r.0.0, rw (o, r.1) (ap (λ v. penned v a) (sym d.split)))

  -- What is written is coded, in plain form.
  pub pen-coded : (f : Format R A) (r : R) {w : List Bool} {a : A} → pen f r ≡ penned w a → Coded f w a × Plain f w
  unfolding pen
  pen-coded (done b) r q = ((cc, cc), tt)
  pen-coded (asks t f) r {w} {a} q = pen-coded f r (fitting-true (t r) (pen f r) q).1
  pen-coded (read e g k) r {w} {a} q = first (pen_element e (g r)) refl q (λ m v. pen-coded (k m) r {w = v} {a = a})
    where
      rest : (own : List Bool) (m : ℕ) → Wrote e own m → (o : Penned A) → pen (k m) r ≡ o → behind own o ≡ penned w a
          → ((m : ℕ) (v : List Bool) → pen (k m) r ≡ penned v a → Coded (k m) v a × Plain (k m) v) → Coded (read e g k) w a × Plain (read e g k) w
      rest own m x (penned v b) y q ih =
          let s : own ++ v ≡ w = cc in
          let n : b ≡ a = cc in
          let t = ih m v (y ∙ ap (penned v) n) in (
            record { code = x.code; own = own; rest = v; split = sym s; element = x.is; judged = x.judged; follows = subst (λ c. Coded (k c) v a) (sym x.hands) t.0 },
            record { code = x.code; own = own; rest = v; split = sym s; element = x.is; plain = x.plain; follows = subst (λ c. Plain (k c) v) (sym x.hands) t.1 },
          )
      rest own m x unfit y q ih = unfit-penned q
      rest own m x (broken z) y q ih = broken-penned q

      first : (o : Penned ℕ) → pen_element e (g r) ≡ o → onward o (λ m. pen (k m) r) ≡ penned w a
          → ((m : ℕ) (v : List Bool) → pen (k m) r ≡ penned v a → Coded (k m) v a × Plain (k m) v) → Coded (read e g k) w a × Plain (read e g k) w
      first (penned own m) y q ih = rest own m (element-wrote e (g r) y) (pen (k m) r) refl q ih
      first unfit y q ih = unfit-penned q
      first (broken z) y q ih = broken-penned q
