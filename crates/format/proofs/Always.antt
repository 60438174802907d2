-- What holds of every message of a format: of its value, and of how many bits it has.
-- Assumes nothing.
use Prim.Native.Nat.{ℕ, zero, suc, ◌+◌, ◌-◌, ◌^◌, ◌≤◌, ◌<◌}
use native.Mathlib.Nat.{zero-add, add-zero, add_assoc}
use mathlib.Core.Path.{◌≡◌, refl, sym, ap, ◌∙◌, subst}
use mathlib.Core.Bool.{Bool, true, false}
use mathlib.Core.List.{List, [], ◌∷◌}
use native.Mathlib.Omega.{arith}
use lib.ListN.{length, drop, get_or, replicate, length-append, length-replicate}
use lib.Seq.{drop_at}
use Rattle.bits.specs.Bits.{from}
use Rattle.bits.specs.Refusals.{fine}
use Rattle.bits.specs.Out.{Out, taken, refused, placed}
use Rattle.bits.specs.Coding.{CodedUnsigned, CodedShape}
use Rattle.bits.proofs.BitLaws.{number_lt}
use Rattle.bits.proofs.Reading.{not_taken}
use Rattle.format.specs.Format.{handed, verdict, Format, done, read, asks, ◌>>=◌, ◌of◌, zeros}
use Rattle.format.specs.Reading.{run, run_at}
use Rattle.format.specs.Coded.{Coded}
use Rattle.format.specs.Syntax.{when_else, when, times, listed}
use Rattle.format.proofs.Run.{run_sound}

-- P holds of what a format gives and of the number of its bits, whatever codes its elements have that its rules find fine
abbrev pub Always : {R A : Type 0} → (A → ℕ → Type 0) → Format R A → Type 0
Always P (done a) = P a 0
Always P (asks b f) = Always P f
Always P (read e g k) =
    (c : ℕ) (own : List Bool)
    → CodedShape e.shape own c
    → verdict e c ≡ fine
    → Always (λ a n. P a (length own + n)) (k (handed e c))

-- a code of n bits is below 2 ^ n
pub code_below : {n : ℕ} {w : List Bool} {c : ℕ} → CodedUnsigned n w c → c < 2 ^ n
code_below {n} {w} {c} d = subst (λ m. c < 2 ^ m) d.long (subst (λ m. m < 2 ^ length w) d.says (number_lt w))

-- ---- of a format put together

always-map : {R A : Type 0} (f : Format R A) (P Q : A → ℕ → Type 0) → ((a : A) (n : ℕ) → P a n → Q a n) → Always P f → Always Q f
always-map (done a) P Q h p = h a 0 p
always-map (asks b f) P Q h p = always-map f P Q h p
always-map (read e g k) P Q h p = λ c own d v. always-map (k (handed e c)) _ _ (λ a n. h a (length own + n)) (p c own d v)

pub always-part : {R A B : Type 0} (f : Format R A) (g : A → Format R B) (Q : A → ℕ → Type 0) (P : B → ℕ → Type 0)
    → Always Q f
    → ((a : A) (n : ℕ) → Q a n → Always (λ b m. P b (n + m)) (g a))
    → Always P (f >>= g)
always-part (done a) g Q P h l = always-map (g a) (λ b m. P b (0 + m)) P (λ b m. subst (P b) (zero-add m)) (l a 0 h)
always-part (asks b f) g Q P h l = always-part f g Q P h l
always-part (read e g' k) g Q P h l =
    λ c own d v. always-part (k (handed e c)) g (λ a n. Q a (length own + n)) (λ b m. P b (length own + m)) (h c own d v)
    (λ a n q. always-map (g a) (λ b m. P b (length own + n + m)) (λ b m. P b (length own + (n + m)))
    (λ b m. subst (P b) (add_assoc (length own) n m)) (l a (length own + n) q))

-- a part that may be absent
pub always-when : {R A : Type 0} (t : Bool) (f : Format R A) (P : A → ℕ → Type 0) → (t ≡ true → Always P f) → (t ≡ false → P (zeros f) 0) → Always P (when t f)
always-when true f P h l = h refl
always-when false f P h l = l refl

pub always-else : {R A : Type 0} (t : Bool) (f : Format R A) (gone : R → Bool) (z : A) (P : A → ℕ → Type 0) → (t ≡ true → Always P f) → (t ≡ false → P z 0) → Always P (when_else t f gone z)
always-else true f gone z P h l = h refl
always-else false f gone z P h l = l refl

-- a format gives something: no more is said of it
pub always-any : {R A : Type 0} (f : Format R A) → Always (λ a n. record {}) f
always-any (done a) = record {}
always-any (asks b f) = always-any f
always-any (read e g k) = λ c own d v. always-any (k (handed e c))

-- of a part of a record
pub always-of : {R S A : Type 0} (f : Format S A) (h : R → S) (P : A → ℕ → Type 0) → Always P f → Always P (f of h)
always-of (done a) h P p = p
always-of (asks b f) h P p = always-of f h P p
always-of (read e g k) h P p = λ c own d v. always-of (k (handed e c)) h _ (p c own d v)

-- of f, n times over: P holds of none, and of one more where it holds of the others
pub always-times : {A : Type 0} (most : ℕ) (f : Format A A) (Q : A → ℕ → Type 0) (P : ℕ → List A → ℕ → Type 0)
    → Always Q f
    → P 0 [] 0
    → ((n : ℕ) (x : A) (l : ℕ) (xs : List A) (m : ℕ) → Q x l → P n xs m → P (suc n) (x ∷ xs) (l + m))
    → (n : ℕ)
    → Always (P n) (times most n f)
unfolding times
always-times most f Q P h none more zero = none
always-times most f Q P h none more (suc n) =
    always-part (f of (λ xs. get_or xs (most - suc n) (zeros f))) _ Q (P (suc n)) (always-of f _ Q h)
    λ x l q. always-part (times most n f) _ (P n) (λ b m. P (suc n) b (l + m)) (always-times most f Q P h none more n)
    λ xs m p. rw add-zero (more n x l xs m q p)

-- a record's list has `most` entries, and every one past n is z
pub record Padded {A : Type 0} (most : ℕ) (z : A) (n : ℕ) (xs : List A) : Type 0 where
  pub entries : length xs ≡ most
  pub past : drop n xs ≡ replicate (most - n) z

pub always-listed : {A : Type 0} (most n : ℕ) (f : Format A A) → n ≤ most → Always (λ xs l. Padded most (zeros f) n xs) (listed most n f)
always-listed most n f h =
    always-part (times n n f) _ (λ xs l. length xs ≡ n) _ (always-times n f (λ a l. record {}) (λ n xs l. length xs ≡ n) (always-any f) refl (λ n x l xs m any e. ap suc e) n)
    λ xs l e. record {
      entries = length-append xs (replicate (most - length xs) (zeros f)) ∙ omega (arith, length-replicate (most - length xs) (zeros f));
      past = drop_at xs _ n e ∙ ap (λ k. replicate (most - k) (zeros f)) e;
    }

-- ---- of what is coded, and of what is read

pub always-coded : {R A : Type 0} (f : Format R A) (P : A → ℕ → Type 0) → Always P f → (w : List Bool) (a : A) → Coded f w a → P a (length w)
always-coded (done a) P h w b d = subst (λ v. P b (length v)) (sym d.0) (subst (λ x. P x 0) d.1 h)
always-coded (asks t f) P h w b d = always-coded f P h w b d
always-coded (read e g k) P h w b d =
    subst (P b) (sym (ap length d.split ∙ length-append d.own d.rest))
    (always-coded (k (handed e d.code)) (λ a n. P a (length d.own + n)) (h d.code d.own d.element d.judged) d.rest b d.follows)

pub always-taken : {R A : Type 0} (f : Format R A) (P : A → ℕ → Type 0) → Always P f → (s : List ℕ) (p : ℕ) {a : A} {q : ℕ} → run_at f s p ≡ taken a q → (n : ℕ) × P a n × (p + n ≡ q)
unfolding run_at
always-taken {R} {A} f P h s p {a} {q} e = go (run f (from s p)) refl
  where
    go : (o : Out A) → run f (from s p) ≡ o → (n : ℕ) × P a n × (p + n ≡ q)
    go (taken b n) g =
        let k : placed p (taken b n) ≡ taken a q = ap (placed p) (sym g) ∙ e in
        let same : b ≡ a = cc in
        let l : p + n ≡ q = cc in
        let d = run_sound f (from s p) (g ∙ ap (λ x. taken x n) same) in
        (length d.own, always-coded f P h d.own a d.coded, ap (p +◌) d.long ∙ l)
    go (refused r) g = not_taken (ap (placed p) (sym g) ∙ e)
