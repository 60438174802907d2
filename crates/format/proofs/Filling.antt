-- A loop that reads messages of f into a list of `most` entries: the list fills from its front, and what is behind and what is still to
-- be read make up the whole.
-- Assumes nothing.
use Prim.Native.Nat.{ℕ, suc, ◌+◌, ◌-◌, ◌≤◌, ◌<◌}
use mathlib.Core.Path.{◌≡◌, refl, sym, ap, ◌∙◌, subst}
use mathlib.Core.List.{List, [], ◌∷◌, ◌++◌, append_assoc}
use native.Mathlib.Omega.{arith}
use lib.ListN.{length, length-append, replicate, set}
use lib.Seq.{set_at}
use Rattle.bits.specs.Out.{taken, refused, after}
use Rattle.bits.specs.declared.refusal.Refusal.{Refusal}
use Rattle.format.specs.Format.{Format, done, zeros}
use Rattle.format.specs.Reading.{run_at}
use Rattle.format.specs.Syntax.{times, padded, listed}
use Rattle.format.proofs.Steps.{step-done, step_part, step-asks, same_after, Ahead, ahead-start, ahead_step, ahead-stop, ahead-end}

-- the entry after those in xs
set_next : {A : Type 0} (most : ℕ) (z : A) (xs : List A) (x : A) (i : ℕ) → length xs ≡ i → i < most → set (padded most z xs) i x ≡ padded most z (xs ++ (x ∷ []))
set_next most z xs x i l h =
    let m : most - length xs ≡ suc (most - (i + 1)) = omega arith in
    let n : length (xs ++ (x ∷ [])) ≡ i + 1 = length-append xs (x ∷ []) ∙ omega (arith, l) in
    ap (λ k. set (xs ++ replicate k z) i x) m
    ∙ set_at xs z (replicate (most - (i + 1)) z) x i l
    ∙ sym (append_assoc xs (x ∷ []) (replicate (most - (i + 1)) z))
    ∙ ap (λ k. (xs ++ (x ∷ [])) ++ replicate (most - k) z) (sym n)

-- of `count` messages from p on, i are in the list, and the next is at q
pub record Filling {A : Type 0} (f : Format A A) (most : ℕ) (s : List ℕ) (count p : ℕ) (list : List A) (i q : ℕ) : Type 0 where
  pub limit : count ≤ most
  pub few : i ≤ count
  pub behind : List A
  pub long : length behind ≡ i
  pub is : list ≡ padded most (zeros f) behind
  pub ahead : Ahead f s count p behind (count - i) q

module _ {A : Type 0} (f : Format A A) (most : ℕ) (s : List ℕ) (count p : ℕ) where
  pub first : count ≤ most → Filling f most s count p (replicate most (zeros f)) 0 p
  first h =
      let e : count - 0 ≡ count = omega arith in
      let m : most ≡ most - 0 = omega arith in
      record { limit = h; few = omega arith; behind = []; long = refl; is = ap (λ n. replicate n (zeros f)) m; ahead = rw e (ahead-start f s count p) }

  opened : run_at (listed most count f) s p ≡ after (run_at (times count count f) s p) (λ xs q. taken (padded most (zeros f) xs) q)
  opened =
      step_part (times count count f) _ s p
      ∙ same_after (run_at (times count count f) s p) _ _ (λ xs q. step-asks _ (done (padded most (zeros f) xs)) s q ∙ step-done _ (padded most (zeros f) xs) s q)

  module _ {list : List A} {i q : ℕ} (g : Filling f most s count p list i q) where
    here : i < count → Ahead f s count p g.behind (suc (count - (i + 1))) q
    here h =
        let e : count - i ≡ suc (count - (i + 1)) = omega arith in
        subst (λ n. Ahead f s count p g.behind n q) e g.ahead

    pub one_more : i < count → {x : A} {t : ℕ} → run_at f s q ≡ taken x t → Filling f most s count p (set list i x) (i + 1) t
    one_more h {x} {t} e =
        record {
          limit = g.limit;
          few = omega arith;
          behind = g.behind ++ (x ∷ []);
          long = length-append g.behind (x ∷ []) ∙ omega (arith, g.long);
          is = ap (λ l. set l i x) g.is ∙ set_next most (zeros f) g.behind x i g.long (omega (arith, g.limit));
          ahead = ahead_step f s count p g.behind (count - (i + 1)) q (here h) e;
        }

    pub stopped : i < count → {r : Refusal} → run_at f s q ≡ refused r → run_at (listed most count f) s p ≡ refused r
    stopped h e = opened ∙ rw (ahead-stop f s count p g.behind (count - (i + 1)) q (here h) e)

    pub filled : count ≤ i → run_at (listed most count f) s p ≡ taken list q
    filled h =
        let e : count - i ≡ 0 = omega arith in
        let k = ahead-end f s count p g.behind q (subst (λ n. Ahead f s count p g.behind n q) e g.ahead) in
        opened ∙ rw (k, g.is)
