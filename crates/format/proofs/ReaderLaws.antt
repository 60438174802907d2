-- Laws for readers over any format: elements with a rule, and formats of one element.
-- Assumes nothing.
use Prim.Native.Nat.{ℕ, ◌^◌, ◌≤◌, ◌<◌}
use mathlib.Core.Path.{◌≡◌, refl, sym, ap, ◌∙◌, subst}
use mathlib.Core.Bool.{Bool, true, false}
use mathlib.Core.List.{List}
use native.Mathlib.Omega.{arith}
use lib.Dec.{leb}
use native.Mathlib.Nat.{pow-le-pow_right}
use borrow.Author.Tests.{le-leb, lt-leb, leb-true, ne_eqb}
use Rattle.bits.specs.Refusals.{broken, Verdict, fine, against}
use Rattle.bits.specs.Out.{Out, taken, refused, after}
use Rattle.bits.specs.Elements.{u_at, shape_at}
use Rattle.bits.proofs.ElementLaws.{u-below}
use Rattle.bits.proofs.Reading.{not_taken}
use Rattle.format.specs.Format.{Element, handed, verdict, done}
use Rattle.format.specs.Reading.{ruled, element_at, run_at}
use Rattle.format.specs.Syntax.{u, ue, ◌at◌, ◌must◌, ◌unless◌, at_most}
use Rattle.format.proofs.Steps.{judged-at, step, step-code, step-done}

-- ---- an element's rule

-- an element that was taken: its code was read, and its rule finds it fine
pub taken-from : (e : Element) (s : List ℕ) (p : ℕ) {m q : ℕ} → element_at e s p ≡ taken m q → (c : ℕ) × (shape_at e.shape s p ≡ taken c q) × (handed e c ≡ m) × (verdict e c ≡ fine)
taken-from e s p {m} {q} h = from-code (shape_at e.shape s p) refl (sym (judged-at e s p) ∙ h)
  where
    by-verdict : (v : Verdict) (c t : ℕ) → shape_at e.shape s p ≡ taken c t → verdict e c ≡ v → ruled v (handed e c) t ≡ taken m q
        → (c : ℕ) × (shape_at e.shape s p ≡ taken c q) × (handed e c ≡ m) × (verdict e c ≡ fine)
    by-verdict fine c t o k r =
        let same : handed e c ≡ m = cc in
        let end : t ≡ q = cc in
        (c, o ∙ ap (taken c) end, same, k)
    by-verdict (against b) c t o k r = not_taken r

    from-code : (o : Out ℕ) → shape_at e.shape s p ≡ o → after o (λ c t. ruled (verdict e c) (handed e c) t) ≡ taken m q
        → (c : ℕ) × (shape_at e.shape s p ≡ taken c q) × (handed e c ≡ m) × (verdict e c ≡ fine)
    from-code (taken c t) o r = by-verdict (verdict e c) c t o refl r
    from-code (refused x) o r = not_taken r

-- a number of n bits is below 2 ^ n, whatever its rule
pub taken-below : (n : ℕ) (rule : ℕ → Verdict) (s : List ℕ) (p : ℕ) {v q : ℕ} → element_at (u n must rule) s p ≡ taken v q → v < 2 ^ n
taken-below n rule s p e = let t = taken-from (u n must rule) s p e in subst (λ x. x < 2 ^ n) t.2 (u-below s p n t.1)

-- at most n
pub at-most-fine : (n x : ℕ) → at_most n x ≡ fine → x ≤ n
at-most-fine n x = go (leb x n) refl
  where
    go : (b : Bool) → leb x n ≡ b → (broken unless b) ≡ fine → x ≤ n
    go true l e = leb-true x n l
    go false l e = let z : ◌≡◌ {A = ℕ} 0 1 = cc in absurd (omega arith)

pub at-most-kept : (n : ℕ) (s : List ℕ) (p : ℕ) {v q : ℕ} → element_at (ue must at_most n) s p ≡ taken v q → v ≤ n
at-most-kept n s p {v} e = let t = taken-from (ue must at_most n) s p e in subst (λ x. x ≤ n) t.2 (at-most-fine n t.0 t.3)

-- ---- a format that is one element comes to what the element comes to

done-after : (R : Type 0) (s : List ℕ) (o : Out ℕ) → after o (λ m q. run_at {R = R} (done m) s q) ≡ o
done-after R s (taken m q) = step-done R m s q
done-after R s (refused r) = refl

pub one-element : {R : Type 0} (e : Element) (g : R → ℕ) (s : List ℕ) (p : ℕ) → run_at (e at g) s p ≡ element_at e s p
one-element e g s p = step e g done s p ∙ done-after _ s (element_at e s p)

-- ---- what goals want

-- a number of n bits fits where there is room for n
pub room-for : (s : List ℕ) (p n r : ℕ) {v q : ℕ} → n ≤ r → taken v q ≡ u_at s p n → v < 2 ^ r
room-for s p n r {v} h e = omega (arith, u-below s p n (sym e), pow-le-pow_right {n = 2} (omega arith) h)

-- of a function that reads one element and judges it
pub ruleset one_judged = (judged-at, le-leb, lt-leb, room-for)

-- of a reader, beside `reading`, where elements have rules
pub ruleset judging = (step, one-element, at-most-kept, taken-below, ne_eqb)
