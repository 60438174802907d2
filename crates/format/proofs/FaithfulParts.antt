-- A number with a sign is faithful, a part within a part, and a list that is read entry by entry.
-- Assumes nothing.
use Prim.Native.Nat.{ℕ, zero, suc, ◌+◌, ◌-◌, ◌^◌}
use mathlib.Core.Path.{◌≡◌, refl, sym, ap, ◌∙◌, subst}
use mathlib.Core.Bool.{Bool, true}
use mathlib.Core.List.{List, [], ◌∷◌, ◌++◌, append_assoc}
use native.Mathlib.Omega.{arith}
use lib.ListN.{length, get_or, drop, replicate, length-append}
use lib.Seq.{drop_at, get_or_at}
use lib.IntN.{ℤ}
use borrow.Author.Tests.{ltb-true}
use Rattle.bits.specs.Refusals.{Verdict}
use Rattle.bits.proofs.SignedLaws.{twos-signed}
use Rattle.format.specs.Format.{handed, Format, done, read, asks, ◌>>=◌, ◌of◌, zeros, all_zero}
use Rattle.format.specs.Syntax.{i32, when, times, padded, each, listed}
use Rattle.format.specs.Faithful.{FaithfulTo, Faithful}
use Rattle.format.proofs.Faithful.{faithful-when-then, zeros-faithful, faithful-part}

pub faithful-i32 : (rule : ℤ → Verdict) → Faithful (i32 rule)
unfolding i32
faithful-i32 rule = λ c f. (tt, twos-signed c (ltb-true c (2 ^ 32) f))

-- ---- parts within parts

-- one after the other, in either grouping
pub assoc : {R A B C : Type 0} (m : Format R A) (g : A → Format R B) (k : B → Format R C) (back : C → R) (P : C → Type 0)
    → FaithfulTo back P (m >>= (λ a. g a >>= k)) → FaithfulTo back P ((m >>= g) >>= k)
assoc (done a) g k back P h = h
assoc (asks b f) g k back P h = assoc f g k back _ h
assoc (read e get n) g k back P h = λ c v. assoc (n (handed e c)) g k back _ (h c v)

-- a part that may be absent, within a part
pub faithful-when-within : {R A B C : Type 0} (back : C → R) (P : C → Type 0) (t : Bool) (f : Format R A) (g : A → Format R B) (k : B → Format R C)
    → FaithfulTo back P (f >>= (λ a. g a >>= k)) → FaithfulTo back P ((when t f >>= g) >>= k)
faithful-when-within back P t f g k h = assoc (when t f) g k back P (faithful-when-then back P t f (λ a. g a >>= k) h)

-- ---- lists

-- what follows may be put in another way
same_rest : {R A B : Type 0} (m : Format R A) (g k : A → Format R B) (back : B → R) (P : B → Type 0) → ((a : A) → g a ≡ k a) → FaithfulTo back P (m >>= g) → FaithfulTo back P (m >>= k)
same_rest (done a) g k back P e h = subst (FaithfulTo back P) (e a) h
same_rest (asks b f) g k back P e h = same_rest f g k back _ e h
same_rest (read x get n) g k back P e h = λ c v. same_rest (n (handed x c)) g k back _ e (h c v)

all-zero : {A : Type 0} (t : A → Bool) (z : A) (n : ℕ) → t z ≡ true → each t (replicate n z) ≡ true
all-zero t z zero h = refl
all-zero t z (suc n) h = rw h (all-zero t z n h)

module _ {A : Type 0} (most : ℕ) (f : Format A A) (own : Faithful f) where
  -- the list, once its entries are l
  closed : ℕ → List A → Format (List A) (List A)
  closed c l = asks (λ r. each (all_zero f) (drop c r)) (done (padded most (zeros f) l))

  -- after the entries ys, n more up to the c-th
  entries : (c n : ℕ) (ys : List A) (P : List A → Type 0) → length ys + n ≡ c → ((xs : List A) → length xs ≡ n → P (padded most (zeros f) (ys ++ xs)))
      → FaithfulTo (λ r. r) P (times c n f >>= (λ xs. closed c (ys ++ xs)))
  unfolding times closed
  entries c zero ys P l h =
      let e : length (ys ++ []) ≡ c = length-append ys [] ∙ omega (arith, l) in
      (h [] refl, ap (each (all_zero f)) (drop_at (ys ++ []) (replicate (most - length (ys ++ [])) (zeros f)) c e) ∙ all-zero (all_zero f) (zeros f) (most - length (ys ++ [])) (zeros-faithful f (λ a. a) _ own).1)
  entries c (suc n) ys P l h =
      assoc (f of (λ xs. get_or xs (c - suc n) (zeros f))) _ _ (λ r. r) P
      (faithful-part f (λ xs. get_or xs (c - suc n) (zeros f)) _ (λ r. r) P (λ a. Unit {0}) own λ x u.
      assoc (times c n f) (λ xs. done (x ∷ xs)) _ (λ r. r) _
      (same_rest (times c n f) _ _ (λ r. r) _ (λ xs. ap (closed c) (append_assoc ys (x ∷ []) xs))
      (entries c n (ys ++ (x ∷ [])) (λ r. P r × (get_or r (c - suc n) (zeros f) ≡ x)) (omega (arith, length-append ys (x ∷ []), l)) λ xs m. (subst (λ w. P (padded most (zeros f) w)) (sym (append_assoc ys (x ∷ []) xs)) (h (x ∷ xs) (ap suc m)), entry xs))))
    where
      -- the next entry stands after those in ys
      entry : {x : A} (xs : List A) → get_or (padded most (zeros f) ((ys ++ (x ∷ [])) ++ xs)) (c - suc n) (zeros f) ≡ x
      entry {x} xs =
          let rest = replicate (most - length ((ys ++ (x ∷ [])) ++ xs)) (zeros f) in
          let i : length ys ≡ c - suc n = omega (arith, l) in
          ap (λ w. get_or w (c - suc n) (zeros f)) (ap (λ w. w ++ rest) (append_assoc ys (x ∷ []) xs) ∙ append_assoc ys (x ∷ xs) rest)
          ∙ get_or_at ys x (xs ++ rest) (zeros f) (c - suc n) i

  pub faithful-listed : (count : ℕ) → Faithful (listed most count f)
  unfolding closed
  faithful-listed count = entries count count [] (λ r. Unit {0}) (omega arith) (λ xs l. tt)
