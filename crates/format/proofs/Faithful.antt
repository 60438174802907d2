-- Tables whose getters are faithful: their records lose nothing; and how a table put together is faithful.
-- Assumes nothing.
use Prim.Native.Nat.{ℕ, ◌^◌}
use mathlib.Core.Path.{◌≡◌, refl, sym, ap, ap₂, ◌∙◌, subst}
use mathlib.Core.Bool.{Bool, true, false, ◌&&◌}
use mathlib.Core.List.{List, ◌++◌}
use lib.ListN.{length}
use lib.Pow.{pow_pos}
use borrow.Author.Tests.{eq-eqb, lt-ltb}
use Rattle.std.specs.Prelude.{if◌then◌else◌}
use Rattle.bits.specs.Coding.{Shape, unsigned, exp_golomb, CodedShape}
use Rattle.format.specs.Format.{silent, handed, Format, done, read, asks, ◌>>=◌, ◌of◌, zeros, all_zero}
use Rattle.format.specs.Syntax.{when_else, when}
use Rattle.format.specs.Coded.{Coded}
use Rattle.format.specs.Varied.{Alike, Plain}
use Rattle.format.specs.Writing.{fits}
use Rattle.format.specs.Faithful.{FaithfulTo, Faithful}
use Rattle.format.proofs.Alike.{same-front, alike-length}
use Rattle.format.proofs.Codes.{code-only}

-- ---- a record loses nothing

module _ {R A : Type 0} where
  -- what is so along a table is so of every message
  holds-coded : (f : Format R A) (back : A → R) (P : A → Type 0) → FaithfulTo back P f → (w : List Bool) (a : A) → Coded f w a → P a
  holds-coded (done b) back P h w a d = subst P d.1 h
  holds-coded (asks t f) back P h w a d = (holds-coded f back _ h w a d).0
  holds-coded (read e g k) back P h w a d =
      (holds-coded (k (handed e d.code)) back _ (h d.code (code-only e.shape d.own d.code d.element).fit) d.rest a d.follows).0

  -- messages of one record are alike
  pub same_alike : (f : Format R A) (back : A → R) (P : A → Type 0) → FaithfulTo back P f → (w v : List Bool) (a b : A) → back a ≡ back b → Coded f w a → Coded f v b → Alike f w v
  same_alike (done x) back P h w v a b s d q = (d.0, q.0)
  same_alike (asks t f) back P h w v a b s d q = same_alike f back _ h w v a b s d q
  same_alike (read e g k) back P h w v a b s d q =
      let x = (holds-coded (k (handed e d.code)) back (λ a. P a × (g (back a) ≡ handed e d.code)) (h d.code (code-only e.shape d.own d.code d.element).fit) d.rest a d.follows).1 in
      let y = (holds-coded (k (handed e q.code)) back (λ a. P a × (g (back a) ≡ handed e q.code)) (h q.code (code-only e.shape q.own q.code q.element).fit) q.rest b q.follows).1 in
      let m : handed e q.code ≡ handed e d.code = sym y ∙ ap g (sym s) ∙ x in
      record {
        code = d.code;
        own = d.own;
        rest = d.rest;
        own' = q.own;
        rest' = q.rest;
        split = d.split;
        split' = q.split;
        element = d.element;
        allowed = record { code = q.code; element = q.element; same = m };
        follows = same_alike (k (handed e d.code)) back _ (h d.code (code-only e.shape d.own d.code d.element).fit) d.rest q.rest a b s d.follows (subst (λ c. Coded (k c) q.rest b) m q.follows);
      }

  -- of codings that are alike one only is plain
  pub plain-once : (f : Format R A) (w v : List Bool) → Alike f w v → Plain f w → Plain f v → w ≡ v
  plain-once (done a) w v l p q = l.0 ∙ sym l.1
  plain-once (asks t f) w v l p q = plain-once f w v l p q
  plain-once (read e g k) w v l p q =
      let s = same-front e.shape p.own p.rest l.own l.rest p.code l.code (sym p.split ∙ l.split) p.element l.element in
      let t = same-front e.shape q.own q.rest l.own' l.rest' q.code l.allowed.code (sym q.split ∙ l.split') q.element l.allowed.element in
      let m : handed e q.code ≡ handed e p.code = ap (handed e) t.code ∙ l.allowed.same ∙ ap (handed e) (sym s.code) in
      let c : q.code ≡ p.code = sym q.plain ∙ m ∙ p.plain in
      let own : p.own ≡ q.own = (code-only e.shape p.own p.code p.element).is ∙ sym (code-only e.shape q.own p.code (subst (λ x. CodedShape e.shape q.own x) c q.element)).is in
      let a : Alike (k (handed e p.code)) p.rest q.rest =
      subst (λ x. Alike (k (handed e p.code)) p.rest x) (sym t.rest-is)
      (subst (λ x. Alike (k (handed e p.code)) x l.rest') (sym s.rest-is) (subst (λ x. Alike (k (handed e x)) l.rest l.rest') (sym s.code) l.follows)) in
      p.split ∙ ap₂ ◌++◌ own (plain-once (k (handed e p.code)) p.rest q.rest a p.follows (subst (λ x. Plain (k x) q.rest) m q.follows)) ∙ sym q.split

-- Two codings of one record agree in every number that is handed out: in every bit, that is, but those that are ignored and reserved codes.
pub loses-nothing : {R : Type 0} (f : Format R R) → Faithful f → (w v : List Bool) (a : R) → Coded f w a → Coded f v a → Alike f w v
loses-nothing f h w v a d q = same_alike f (λ a. a) _ h w v a a refl d q

-- So they are of one length, and one only is plain.
pub one-length : {R : Type 0} (f : Format R R) → Faithful f → (w v : List Bool) (a : R) → Coded f w a → Coded f v a → length v ≡ length w
one-length f h w v a d q = alike-length f w v (loses-nothing f h w v a d q)

pub one_plain : {R : Type 0} (f : Format R R) → Faithful f → (w v : List Bool) (a : R) → Coded f w a → Coded f v a → Plain f w → Plain f v → w ≡ v
one_plain f h w v a d q = plain-once f w v (loses-nothing f h w v a d q)

-- ---- a table put together

pub faithful-map : {R A : Type 0} (f : Format R A) (back : A → R) (P Q : A → Type 0) → ((a : A) → P a → Q a) → FaithfulTo back P f → FaithfulTo back Q f
faithful-map (done a) back P Q h p = h a p
faithful-map (asks t f) back P Q h p = faithful-map f back _ _ (λ a q. (h a q.0, q.1)) p
faithful-map (read e g k) back P Q h p = λ c x. faithful-map (k (handed e c)) back _ _ (λ a q. (h a q.0, q.1)) (p c x)

-- 0 has a code, and is handed out as itself
fits-zero : (h : Shape) → fits h 0 ≡ true
fits-zero (unsigned n) = lt-ltb 0 (2 ^ n) (pow_pos n)
fits-zero exp_golomb = refl

hands-zero : (t : Bool) → ◌≡◌ {A = ℕ} (if t then 0 else 0) 0
hands-zero true = refl
hands-zero false = refl

and-true : {s t : Bool} → s ≡ true → t ≡ true → s && t ≡ true
and-true a b = rw (a, b)

-- where a part is absent, each of its numbers is 0 in the record
absent : {R A B : Type 0} (f : Format R A) (k : A → Format R B) (back : B → R) (P : B → Type 0)
    → FaithfulTo back P (f >>= k) → FaithfulTo back (λ x. P x × (all_zero f (back x) ≡ true)) (k (zeros f))
absent (done a) k back P h = faithful-map (k a) back _ _ (λ x p. (p, refl)) h
absent (asks t f) k back P h = faithful-map (k (zeros f)) back _ _ (λ x p. (p.0.0, and-true p.0.1 p.1)) (absent f k back _ h)
absent (read e g n) k back P h =
    faithful-map (k (zeros (n 0))) back _ _ (λ x p. (p.0.0, and-true (eq-eqb _ _ p.0.1) p.1))
    (absent (n 0) k back (λ x. P x × (g (back x) ≡ 0)) (subst (λ m. FaithfulTo back (λ x. P x × (g (back x) ≡ m)) (n m >>= k)) (hands-zero (silent e 0)) (h 0 (fits-zero e.shape))))

-- so a part that may be absent is faithful where it is so when it is there
pub faithful-when-then : {R A B : Type 0} (back : B → R) (P : B → Type 0) (t : Bool) (f : Format R A) (k : A → Format R B)
    → FaithfulTo back P (f >>= k) → FaithfulTo back P (when t f >>= k)
faithful-when-then back P true f k h = h
faithful-when-then back P false f k h = absent f k back P h

-- and one for which something else stands, where it is so with that too
pub faithful-else-then : {R A B : Type 0} (back : B → R) (P : B → Type 0) (t : Bool) (f : Format R A) (gone : R → Bool) (z : A) (k : A → Format R B)
    → FaithfulTo back P (f >>= k)
    → FaithfulTo back (λ x. P x × (gone (back x) ≡ true)) (k z)
    → FaithfulTo back P (when_else t f gone z >>= k)
faithful-else-then back P true f gone z k h l = h
faithful-else-then back P false f gone z k h l = l

-- the same at the end of a table
nothing-after : {R A : Type 0} (f : Format R A) (back : A → R) (P : A → Type 0) → FaithfulTo back P f → FaithfulTo back P (f >>= done)
nothing-after (done a) back P h = h
nothing-after (asks t f) back P h = nothing-after f back _ h
nothing-after (read e g k) back P h = λ c x. nothing-after (k (handed e c)) back _ (h c x)

pub zeros-faithful : {R A : Type 0} (f : Format R A) (back : A → R) (P : A → Type 0) → FaithfulTo back P f → P (zeros f) × (all_zero f (back (zeros f)) ≡ true)
zeros-faithful f back P h = absent f done back P (nothing-after f back P h)

pub faithful-when : {R A : Type 0} (back : A → R) (P : A → Type 0) (t : Bool) (f : Format R A) → FaithfulTo back P f → FaithfulTo back P (when t f)
faithful-when back P true f h = h
faithful-when back P false f h = zeros-faithful f back P h

pub faithful-else : {R A : Type 0} (back : A → R) (P : A → Type 0) (t : Bool) (f : Format R A) (gone : R → Bool) (z : A)
    → FaithfulTo back P f
    → P z × (gone (back z) ≡ true)
    → FaithfulTo back P (when_else t f gone z)
faithful-else back P true f gone z h l = h
faithful-else back P false f gone z h l = l

-- a part of a record, and then the rest of it
pub faithful-part : {R S A : Type 0} (f : Format S S) (h : R → S) (k : S → Format R A) (back : A → R) (P : A → Type 0) (Q : S → Type 0)
    → FaithfulTo (λ s. s) Q f
    → ((s : S) → Q s → FaithfulTo back (λ a. P a × (h (back a) ≡ s)) (k s))
    → FaithfulTo back P (f of h >>= k)
faithful-part (done s) h k back P Q q l = faithful-map (k s) back _ P (λ a p. p.0) (l s q)
faithful-part (asks t f) h k back P Q q l =
    faithful-part f h k back (λ a. P a × (t (h (back a)) ≡ true)) (λ s. Q s × (t s ≡ true)) q
    (λ s x. faithful-map (k s) back _ _ (λ a p. ((p.0, ap t p.1 ∙ x.1), p.1)) (l s x.0))
faithful-part (read e g n) h k back P Q q l =
    λ c f. faithful-part (n (handed e c)) h k back (λ a. P a × (g (h (back a)) ≡ handed e c)) (λ s. Q s × (g s ≡ handed e c)) (q c f)
    (λ s x. faithful-map (k s) back _ _ (λ a p. ((p.0, ap g p.1 ∙ x.1), p.1)) (l s x.0))
