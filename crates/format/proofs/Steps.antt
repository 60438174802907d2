-- What reading a format comes to, element after element, and from these laws a reader's proof.
-- Assumes nothing.
use Prim.Native.Nat.{ℕ, suc, ◌+◌, ◌^◌, ◌<◌}
use mathlib.Core.Path.{◌≡◌, refl, sym, ap, ◌∙◌}
use mathlib.Core.Bool.{Bool, true, false}
use mathlib.Core.List.{List, [], ◌∷◌, ◌++◌, append_assoc, append-nil}
use native.Mathlib.Omega.{arith}
use Rattle.bits.specs.Bits.{from}
use Rattle.bits.specs.Refusals.{Verdict, fine, against, refusal_of}
use Rattle.bits.specs.Out.{Out, taken, refused, after, placed, refusal_in}
use Rattle.bits.specs.Elements.{u_at, ue_at, shape_front, shape_at}
use Rattle.bits.specs.Coding.{Shape, unsigned, exp_golomb}
use Rattle.bits.specs.declared.refusal.Refusal.{Refusal}
use Rattle.bits.proofs.BitLaws.{drop-from}
use Rattle.bits.proofs.ElementLaws.{u-below}
use Rattle.format.specs.Format.{Element, handed, verdict, Format, done, read, asks, ◌>>=◌, ◌of◌, zeros, all_zero}
use Rattle.format.specs.Reading.{ruled, judged, element_front, element_at, run, run_at}
use Rattle.format.specs.Syntax.{when_else, when, times}

-- ---- one reading after another

placed-placed : {A : Type 0} (p n : ℕ) (o : Out A) → placed p (placed n o) ≡ placed (p + n) o
placed-placed p n (taken a l) = ap (taken a) (omega arith)
placed-placed p n (refused r) = refl

module _ {A B : Type 0} where
  -- o and then k, of which the first came from bit p on
  after-placed : (p : ℕ) (o : Out A) (k : A → ℕ → Out B) (g : A → ℕ → Out B) → ((a : A) (n : ℕ) → placed p (k a n) ≡ g a (p + n)) → placed p (after o k) ≡ after (placed p o) g
  after-placed p (taken a n) k g h = h a n
  after-placed p (refused r) k g h = refl

  pub same_after : (o : Out A) (k g : A → ℕ → Out B) → ((a : A) (q : ℕ) → k a q ≡ g a q) → after o k ≡ after o g
  same_after (taken a q) k g h = h a q
  same_after (refused r) k g h = refl

  after-after : {C : Type 0} (o : Out A) (k : A → ℕ → Out B) (g : B → ℕ → Out C) → after (after o k) g ≡ after o (λ a q. after (k a q) g)
  after-after (taken a q) k g = refl
  after-after (refused r) k g = refl

-- ---- one element: its code, and then what its rule says of its meaning

by-verdict : (v : Verdict) (p m n : ℕ) → placed p (ruled v m n) ≡ ruled v m (p + n)
by-verdict fine p m n = refl
by-verdict (against b) p m n = refl

placed-judged : (e : Element) (p : ℕ) (o : Out ℕ) → placed p (judged e o) ≡ after (placed p o) (λ c q. ruled (verdict e c) (handed e c) q)
placed-judged e p (taken c n) = by-verdict (verdict e c) p (handed e c) n
placed-judged e p (refused r) = refl

shape-at : (h : Shape) (s : List ℕ) (p : ℕ) → placed p (shape_front h (from s p)) ≡ shape_at h s p
unfolding u_at ue_at
shape-at (unsigned n) s p = refl
shape-at exp_golomb s p = refl

pub judged-at : (e : Element) (s : List ℕ) (p : ℕ) → element_at e s p ≡ after (shape_at e.shape s p) (λ c q. ruled (verdict e c) (handed e c) q)
unfolding element_at element_front
judged-at e s p =
    placed-judged e p (shape_front e.shape (from s p))
    ∙ ap (λ o. after o (λ c q. ruled (verdict e c) (handed e c) q)) (shape-at e.shape s p)

-- ---- the laws of `run_at`, which stays shut

-- what follows, if the verdict is fine: of u(n), ue(v) and ignored bits, which have no rule, it always is
abbrev pub go_on : {A : Type 0} → Verdict → Out A → Out A
go_on fine o = o
go_on (against b) o = refused (refusal_of b)

pub step-done : (R : Type 0) {A : Type 0} (a : A) (s : List ℕ) (p : ℕ) → run_at {R = R} (done a) s p ≡ taken a p
unfolding run_at run
step-done R a s p = ap (taken a) (omega arith)

module _ {R A : Type 0} where
  -- an element, and then what follows it
  pub step : (e : Element) (g : R → ℕ) (k : ℕ → Format R A) (s : List ℕ) (p : ℕ) → run_at (read e g k) s p ≡ after (element_at e s p) (λ m q. run_at (k m) s q)
  unfolding run_at run element_at
  step e g k s p =
      after-placed p (element_front e (from s p)) _ _
      (λ m n. ap (λ w. placed p (placed n (run (k m) w))) (drop-from s p n) ∙ placed-placed p n (run (k m) (from s (p + n))))

  -- the same for an element that is read by its code
  pub step-code : (e : Element) (g : R → ℕ) (k : ℕ → Format R A) (s : List ℕ) (p : ℕ)
      → run_at (read e g k) s p ≡ after (shape_at e.shape s p) (λ c q. go_on (verdict e c) (run_at (k (handed e c)) s q))
  step-code e g k s p =
      step e g k s p
      ∙ ap (λ o. after o (λ m q. run_at (k m) s q)) (judged-at e s p)
      ∙ after-after (shape_at e.shape s p) _ _
      ∙ same_after (shape_at e.shape s p) _ _ (λ c q. go (verdict e c) (handed e c) q)
    where
      go : (v : Verdict) (m q : ℕ) → after (ruled v m q) (λ m q. run_at (k m) s q) ≡ go_on v (run_at (k m) s q)
      go fine m q = refl
      go (against b) m q = refl

  -- the element was read, and what follows it is left; or it was refused, and so is the whole: o is what reading it came to
  module _ (e : Element) (g : R → ℕ) (k : ℕ → Format R A) (s : List ℕ) (p : ℕ) where
    pub step-value : {m q : ℕ} → taken m q ≡ element_at e s p → run_at (read e g k) s p ≡ run_at (k m) s q
    step-value l = rw (step e g k s p, ← l)

    pub step-refused : {o : Out ℕ} {r t : Refusal} → o ≡ element_at e s p → o ≡ refused r → t ≡ refusal_in o → run_at (read e g k) s p ≡ refused t
    step-refused l f h = rw (step e g k s p, ← l, h, f)

    pub step-code-value : {c q : ℕ} → taken c q ≡ shape_at e.shape s p → run_at (read e g k) s p ≡ go_on (verdict e c) (run_at (k (handed e c)) s q)
    step-code-value l = rw (step-code e g k s p, ← l)

    pub step-code-refused : {o : Out ℕ} {r t : Refusal} → o ≡ shape_at e.shape s p → o ≡ refused r → t ≡ refusal_in o → run_at (read e g k) s p ≡ refused t
    step-code-refused l f h = rw (step-code e g k s p, ← l, h, f)

  -- what a record must have to be written is passed over
  pub step-asks : (t : R → Bool) (f : Format R A) (s : List ℕ) (p : ℕ) → run_at (asks t f) s p ≡ run_at f s p
  unfolding run_at run
  step-asks t f s p = refl

  -- a part that is there, and one that is absent
  pub step-yes : {t : Bool} (f : Format R A) (s : List ℕ) (p : ℕ) → t ≡ true → run_at (when t f) s p ≡ run_at f s p
  step-yes f s p e = rw e

  pub step-no : {t : Bool} (f : Format R A) (s : List ℕ) (p : ℕ) → t ≡ false → run_at (when t f) s p ≡ taken (zeros f) p
  step-no f s p e = rw e (step-asks (all_zero f) (done (zeros f)) s p ∙ step-done R (zeros f) s p)

  -- where something else stands for it
  pub step_then : {t : Bool} (f : Format R A) (gone : R → Bool) (z : A) (s : List ℕ) (p : ℕ) → t ≡ true → run_at (when_else t f gone z) s p ≡ run_at f s p
  step_then f gone z s p e = rw e

  pub step-else : {t : Bool} (f : Format R A) (gone : R → Bool) (z : A) (s : List ℕ) (p : ℕ) → t ≡ false → run_at (when_else t f gone z) s p ≡ taken z p
  step-else f gone z s p e = rw e (step-asks gone (done z) s p ∙ step-done R z s p)

-- ---- a format put together from formats is read in that order

pub step_part : {R A B : Type 0} (f : Format R A) (g : A → Format R B) (s : List ℕ) (p : ℕ) → run_at (f >>= g) s p ≡ after (run_at f s p) (λ a q. run_at (g a) s q)
step_part {R} (done a) g s p = rw (step-done R a s p)
step_part (asks b f) g s p = step-asks b (f >>= g) s p ∙ step_part f g s p ∙ ap (λ o. after o (λ a q. run_at (g a) s q)) (sym (step-asks b f s p))
step_part (read e h k) g s p =
    step e h (λ m. k m >>= g) s p
    ∙ same_after (element_at e s p) _ _ (λ m q. step_part (k m) g s q)
    ∙ sym (after-after (element_at e s p) (λ m q. run_at (k m) s q) (λ a q. run_at (g a) s q))
    ∙ ap (λ o. after o (λ a q. run_at (g a) s q)) (sym (step e h k s p))

-- a part that is there, and one that is absent, where more of the part that it stands in follows, and then more of the table
module _ {R A B C : Type 0} {t : Bool} (f : Format R A) (g : A → Format R B) (k : B → Format R C) (s : List ℕ) (p : ℕ) where
  pub step-there-within : t ≡ true → run_at (when t f >>= g >>= k) s p ≡ run_at (f >>= g >>= k) s p
  step-there-within e = rw e

  pub step-absent-within : t ≡ false → run_at (when t f >>= g >>= k) s p ≡ run_at (g (zeros f) >>= k) s p
  step-absent-within e = rw e (step-asks (all_zero f) (g (zeros f) >>= k) s p)

-- a part of a record is read by its own format
pub step-own : {R S A : Type 0} (f : Format S A) (h : R → S) (s : List ℕ) (p : ℕ) → run_at (f of h) s p ≡ run_at f s p
step-own {R} {S} (done a) h s p = step-done R a s p ∙ sym (step-done S a s p)
step-own (asks b f) h s p = step-asks (λ r. b (h r)) (f of h) s p ∙ step-own f h s p ∙ sym (step-asks b f s p)
step-own (read e g k) h s p =
    step e (λ r. g (h r)) (λ m. k m of h) s p
    ∙ same_after (element_at e s p) _ _ (λ m q. step-own (k m) h s q)
    ∙ sym (step e g k s p)

pub step_of : {R S A B : Type 0} (f : Format S A) (h : R → S) (g : A → Format R B) (s : List ℕ) (p : ℕ)
    → run_at ((f of h) >>= g) s p ≡ after (run_at f s p) (λ a q. run_at (g a) s q)
step_of f h g s p = step_part (f of h) g s p ∙ ap (λ o. after o (λ a q. run_at (g a) s q)) (step-own f h s p)

-- f, n + 1 times over: once, and then n times
times-next : {A : Type 0} (c n : ℕ) (f : Format A A) (s : List ℕ) (p : ℕ)
    → run_at (times c (suc n) f) s p ≡ after (run_at f s p) (λ x q. after (run_at (times c n f) s q) (λ xs r. taken (x ∷ xs) r))
unfolding times
times-next c n f s p =
    step_of f _ _ s p
    ∙ same_after (run_at f s p) _ _
    (λ x q. step_part (times c n f) (λ xs. done (x ∷ xs)) s q ∙ same_after (run_at (times c n f) s q) _ _ (λ xs r. step-done _ (x ∷ xs) s r))

-- A loop that reads f `n` times from p: at q, with xs behind it and f still to be read `left` times.
pub Ahead : {A : Type 0} (f : Format A A) (s : List ℕ) (n p : ℕ) (xs : List A) (left q : ℕ) → Type 0
Ahead f s n p xs left q = run_at (times n n f) s p ≡ after (run_at (times n left f) s q) (λ ys r. taken (xs ++ ys) r)

module _ {A : Type 0} (f : Format A A) (s : List ℕ) (n p : ℕ) where
  after-taken : (o : Out (List A)) → o ≡ after o (λ ys r. taken ([] ++ ys) r)
  after-taken (taken a q) = refl
  after-taken (refused r) = refl

  pub ahead-start : Ahead f s n p [] n p
  unfolding Ahead
  ahead-start = after-taken (run_at (times n n f) s p)

  -- nothing is left: the whole is what was read
  pub ahead-end : (xs : List A) (q : ℕ) → Ahead f s n p xs 0 q → run_at (times n n f) s p ≡ taken xs q
  unfolding Ahead times
  ahead-end xs q h = h ∙ rw (step-done (List A) {A = List A} [] s q) (ap (λ l. taken l q) (append-nil xs))

  module _ (xs : List A) (left q : ℕ) (h : Ahead f s n p xs (suc left) q) where
    opened : run_at (times n n f) s p ≡ after (run_at f s q) (λ x t. after (run_at (times n left f) s t) (λ ys r. taken (xs ++ (x ∷ ys)) r))
    unfolding Ahead
    opened =
        h
        ∙ ap (λ o. after o (λ ys r. taken (xs ++ ys) r)) (times-next n left f s q)
        ∙ after-after (run_at f s q) _ _
        ∙ same_after (run_at f s q) _ _ (λ x t. after-after (run_at (times n left f) s t) _ _)

    -- the next is refused, and so is the whole
    pub ahead-stop : {r : Refusal} → run_at f s q ≡ refused r → run_at (times n n f) s p ≡ refused r
    ahead-stop e = opened ∙ ap (λ o. after o (λ x t. after (run_at (times n left f) s t) (λ ys r. taken (xs ++ (x ∷ ys)) r))) e

    -- the next is taken
    pub ahead_step : {x : A} {t : ℕ} → run_at f s q ≡ taken x t → Ahead f s n p (xs ++ (x ∷ [])) left t
    unfolding Ahead
    ahead_step {x} {t} e =
        opened
        ∙ ap (λ o. after o (λ x t. after (run_at (times n left f) s t) (λ ys r. taken (xs ++ (x ∷ ys)) r))) e
        ∙ same_after (run_at (times n left f) s t) _ _ (λ ys r. ap (λ l. taken l r) (sym (append_assoc xs (x ∷ []) ys)))

-- ---- the places of a reader's proof

-- right after a read that came to o: the whole, x, is o and then k
pub record At {A : Type 0} (B : Type 0) (o : Out A) : Type 0 where
  pub x : Out B
  pub k : A → ℕ → Out B
  pub is : x ≡ after o k

-- the first read
abbrev pub start : {A B : Type 0} {o o' : Out A} (x : Out B) (k : A → ℕ → Out B) → o ≡ o' → x ≡ after o' k → At B o
start x k e h = record { x = x; k = k; is = rw e h }

-- the next one, where the last gave a value
abbrev pub next : {A A' B : Type 0} {o : Out A} {o₂ o' : Out A'} {v : A} {p : ℕ} (a : At B o) (k : A' → ℕ → Out B) → o ≡ taken v p → o₂ ≡ o' → a.k v p ≡ after o' k → At B o₂
next a k g e h = record { x = a.x; k = k; is = a.is ∙ rw (g, e) h }

-- the last one gave a value: what is left of the whole comes to y
pub last : {A B : Type 0} {o : Out A} {v : A} {p : ℕ} {y : Out B} (a : At B o) → o ≡ taken v p → a.k v p ≡ y → y ≡ a.x
last a g e = sym (a.is ∙ rw g e)

-- where the ways with a part and without it meet, with y for it: what follows it is left
abbrev pub meet : {R A B C D : Type 0} {o : Out D} {v : D} {q : ℕ} (t : Bool) (f : Format R A) (g : A → Format R B) (k : B → Format R C) (s : List ℕ) (p : ℕ)
    (a : At C o) → o ≡ taken v q → a.k v q ≡ run_at (when t f >>= g >>= k) s p → (y : A) (r : ℕ) → a.x ≡ run_at (g y >>= k) s r → At C (taken y r)
meet t f g k s p a e h y r l = record { x = a.x; k = λ y r. run_at (g y >>= k) s r; is = l }

-- it was refused, and so is the whole
pub stop : {A B : Type 0} {o : Out A} {r t : Refusal} (a : At B o) → o ≡ refused r → t ≡ refusal_in o → refused t ≡ a.x
stop a g f = sym (a.is ∙ rw (f, g))

-- ---- what goals want

-- a number of n bits is below 2 ^ n
pub below-width : (s : List ℕ) (p n : ℕ) {v q : ℕ} → taken v q ≡ u_at s p n → v < 2 ^ n
below-width s p n e = u-below s p n (sym e)

-- what the goals of a reader want
pub ruleset reading = (step-code, step-asks, step-done, step_part, step_of, below-width)
