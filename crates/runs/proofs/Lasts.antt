-- A machine holds something exactly where a call brought it and no call since has ended it, if each call by itself keeps to that.
-- Assumes nothing.
use Prim.Native.Nat.{ℕ}
use native.Mathlib.Omega.{arith}
use mathlib.Core.Path.{◌≡◌, refl, ap, subst}
use mathlib.Core.Logic.{◌↔◌, ◌⊎◌, inl, inr, ⊎_elim}
use mathlib.Core.List.{List, [], ◌∷◌, ◌++◌}
use Rattle.runs.specs.Run.{Machine, after}
use Rattle.runs.specs.Since.{Told, history, Leave, Since}

-- Fine is what a call may count on, and every call keeps
module _ {X C R : Type 0} (turn : Machine X C R) (Fine Holds : X → Type 0) (Gives : Told C R → Type 0) (Leaves : C → R → Type 0) where
  abbrev told : X → C → Told C R
  told x c = record { call = c; reply = (turn x c).1 }

  -- what a single call keeps to
  abbrev pub OneCall : Type 0
  OneCall = (x : X) → Fine x → (c : C) → Fine (turn x c).0 × (Holds (turn x c).0 ↔ (Gives (told x c) ⊎ (Holds x × Leaves c (turn x c).1)))

  nowhere : Since Gives Leaves [] → ⊥
  nowhere s = go s.before s.split
    where
      go : (before : List (Told C R)) → [] ≡ before ++ s.giver ∷ s.later → ⊥
      go [] e = let z : ◌≡◌ {A = ℕ} 0 1 = cc in omega arith
      go (b ∷ bs) e = let z : ◌≡◌ {A = ℕ} 0 1 = cc in omega arith

  first-or-later : (t : Told C R) (ts : List (Told C R)) → Since Gives Leaves (t ∷ ts) → (Gives t × Leave Gives Leaves ts) ⊎ Since Gives Leaves ts
  first-or-later t ts s = go s.before s.split
    where
      go : (before : List (Told C R)) → t ∷ ts ≡ before ++ s.giver ∷ s.later → (Gives t × Leave Gives Leaves ts) ⊎ Since Gives Leaves ts
      go [] e =
          let f : s.giver ≡ t = cc in
          let l : s.later ≡ ts = cc in
          inl (subst Gives f s.gives, subst (Leave Gives Leaves) l s.lasts)
      go (b ∷ bs) e = inr (record { before = bs; giver = s.giver; later = s.later; split = cc; gives = s.gives; lasts = s.lasts })

  later : (t : Told C R) (ts : List (Told C R)) → Since Gives Leaves ts → Since Gives Leaves (t ∷ ts)
  later t ts s =
      record { before = t ∷ s.before; giver = s.giver; later = s.later; split = ap (λ l. t ∷ l) s.split; gives = s.gives; lasts = s.lasts }

  first : (t : Told C R) (ts : List (Told C R)) → Gives t → Leave Gives Leaves ts → Since Gives Leaves (t ∷ ts)
  first t ts g l = record { before = []; giver = t; later = ts; split = refl; gives = g; lasts = l }

  module _ (one : OneCall) where
    -- what is held after calls from x on: it came since, or x holds it and it was left
    abbrev Kept : X → List C → Type 0
    Kept x cs = Since Gives Leaves (history turn x cs) ⊎ (Holds x × Leave Gives Leaves (history turn x cs))

    one_more : (x : X) → Fine x → (c : C) (cs : List C) → Kept (turn x c).0 cs ↔ Kept x (c ∷ cs)
    one_more x f c cs = (to, back)
      where
        ts : List (Told C R)
        ts = history turn (turn x c).0 cs

        by : Holds (turn x c).0 ↔ (Gives (told x c) ⊎ (Holds x × Leaves c (turn x c).1))
        by = (one x f c).1

        to : Kept (turn x c).0 cs → Kept x (c ∷ cs)
        to (inl s) = inl (later (told x c) ts s)
        to (inr w) = ⊎_elim (λ g. inl (first (told x c) ts g w.1)) (λ v. inr (v.0, (v.1, w.1))) (by.0 w.0)

        back : Kept x (c ∷ cs) → Kept (turn x c).0 cs
        back (inl s) = ⊎_elim (λ g. inr (by.1 (inl g.0), g.1)) (λ l. inl l) (first-or-later (told x c) ts s)
        back (inr w) = inr (by.1 (inr (w.0, w.1.0)), w.1.1)

    holds-from : (cs : List C) (x : X) → Fine x → Holds (after turn x cs) ↔ Kept x cs
    holds-from [] x f = (λ q. inr (q, tt), λ y. ⊎_elim (λ s. absurd (nowhere s)) (λ w. w.0) y)
    holds-from (c ∷ cs) x f =
        let r = holds-from cs (turn x c).0 (one x f c).0 in
        let m = one_more x f c cs in
        (λ q. m.0 (r.0 q), λ y. r.1 (m.1 y))

    -- from where it was not held
    pub holds-when : (x : X) → Fine x → (Holds x → ⊥) → (cs : List C) → Holds (after turn x cs) ↔ Since Gives Leaves (history turn x cs)
    holds-when x f without cs =
        let r = holds-from cs x f in
        (λ q. ⊎_elim (λ s. s) (λ w. absurd (without w.0)) (r.0 q), λ s. r.1 (inl s))
