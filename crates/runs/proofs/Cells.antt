-- What a run gives at a cell is what the cell alone gives on its own calls; so nothing that came before a call which makes the cell anew can
-- be seen in it, nor anything that is called beside it.
-- Assumes nothing.
use mathlib.Core.Path.{◌≡◌, refl, sym, ap, ◌∙◌}
use mathlib.Core.Bool.{Bool, true, false}
use mathlib.Core.List.{List, [], ◌∷◌}
use Rattle.std.specs.Prelude.{if◌then◌else◌}
use Rattle.runs.specs.Run.{Machine, after, replies, replies_at, only, each}
use Rattle.runs.specs.Cell.{Cell, Pairwise, end, both, Same}

module _ {S X C R : Type 0} {step : Machine S C R} {turn : Machine X C R} {Good : S → Type 0} {acts : C → Bool} {view : S → X} (cell : Cell step turn Good acts view) where
  abbrev at : S → List C → List R
  at = replies_at step acts

  abbrev own : List C → List C
  own = only acts

  pub good-after : (cs : List C) (s : S) → Good s → Good (after step s cs)
  good-after [] s g = g
  good-after (c ∷ cs) s g = good-after cs (step s c).0 (cell.keeps s c g)

  abbrev Factors : S → List C → Type 0
  Factors s cs = (at s cs ≡ replies turn (view s) (own cs)) × (view (after step s cs) ≡ after turn (view s) (own cs))

  one_more : (s : S) (c : C) (cs : List C) → Good s → Factors (step s c).0 cs → (b : Bool) → acts c ≡ b
      → ((if b then (step s c).1 ∷ at (step s c).0 cs else at (step s c).0 cs) ≡ replies turn (view s) (if b then c ∷ own cs else own cs))
      × (view (after step (step s c).0 cs) ≡ after turn (view s) (if b then c ∷ own cs else own cs))
  one_more s c cs g ih true a =
      let o = cell.own s c g a in
      let r : (step s c).1 ≡ (turn (view s) c).1 = ap (λ (w : X × R). w.1) o in
      let x : view (step s c).0 ≡ (turn (view s) c).0 = ap (λ (w : X × R). w.0) o in
      (rw (r, ih.0, x), rw (ih.1, x))
  one_more s c cs g ih false a =
      let x = cell.other s c g a in
      (rw (ih.0, x), rw (ih.1, x))

  pub factors : (cs : List C) (s : S) → Good s
      → (at s cs ≡ replies turn (view s) (own cs)) × (view (after step s cs) ≡ after turn (view s) (own cs))
  factors [] s g = (refl, refl)
  factors (c ∷ cs) s g = one_more s c cs g (factors cs (step s c).0 (cell.keeps s c g)) (acts c) refl

  -- c makes the cell anew: whatever it was, it is x after it, and c is answered r
  module _ (c : C) (x : X) (r : R) (anew : (y : X) → turn y c ≡ (x, r)) where
    pub alone : (s : S) → Good s → (cs xs : List C) → own cs ≡ c ∷ xs → (at s cs ≡ r ∷ replies turn x xs) × (view (after step s cs) ≡ after turn x xs)
    alone s g cs xs p =
        let f = rw p at (factors cs s g) in
        let n = anew (view s) in
        (f.0 ∙ ap (λ (w : X × R). w.1 ∷ replies turn w.0 xs) n, f.1 ∙ ap (λ (w : X × R). after turn w.0 xs) n)

    -- calls that are alike leave a cell the same and, but for what `blind` takes from it, are answered the same
    module _ (Alike : C → C → Type 0) (blind : R → R)
        (like : (c d : C) → Alike c d → (y : X) → ((turn y c).0 ≡ (turn y d).0) × (blind (turn y c).1 ≡ blind (turn y d).1)) where
      like-run : {cs ds : List C} → Pairwise Alike cs ds → (y : X)
          → (each blind (replies turn y cs) ≡ each blind (replies turn y ds)) × (after turn y cs ≡ after turn y ds)
      like-run end y = (refl, refl)
      like-run (both {c} {d} {cs} {ds} p ps) y =
          let w = like c d p y in
          let v = like-run ps (turn y c).0 in
          (rw (v.0, w.0, w.1), rw (v.1, w.0))

      pub isolated : (s t : S) → Good s → Good t → (cs ds xs ys : List C) → own cs ≡ c ∷ xs → own ds ≡ c ∷ ys → Pairwise Alike xs ys
          → Same step turn acts view blind x r s t cs ds xs ys
      isolated s t g h cs ds xs ys p q l =
          let a = alone s g cs xs p in
          let b = alone t h ds ys q in
          let w = like-run l x in
          record { answered = rw (a.0, b.0, w.0); left = a.1 ∙ w.1 ∙ sym b.1; alone = a.0; stands = a.1; alone' = b.0; stands' = b.1 }

      -- so it is after any two runs
      pub unseen : (s t : S) → Good s → Good t → (before before' : List C) (cs ds xs ys : List C) → own cs ≡ c ∷ xs → own ds ≡ c ∷ ys → Pairwise Alike xs ys
          → Same step turn acts view blind x r (after step s before) (after step t before') cs ds xs ys
      unseen s t g h before before' = isolated (after step s before) (after step t before') (good-after before s g) (good-after before' t h)
