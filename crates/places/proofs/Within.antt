-- A part of a value in memory. `Within q R F h h' f f' b o p`: of h at (b, o), the part f at (b, p) can be taken out, and with f' put there the whole is h'.
--     field        a field of a declared struct is the kit's `borrow.Struct.Behind`: `look_at` where it is left, `put_at_lem` where it is changed
--     element      an element of an array, as it was set last
--     deeper       a part of a part
-- Assumes `Logic`.
use mathlib.Core.Path.{refl, sym, ◌∙◌, subst}
use Prim.Native.Nat.{ℕ, ◌+◌, ◌*◌, ◌<◌}
use mathlib.Core.List.{List, [], ◌∷◌}
use lib.ListN.{length, get_or, set, length-set}
use lib.Seq.{get_or-set_same, set-set}
use seplogic.Ra.Ura.{Ura}
use base.Logic.{ent, sep, wand, apply∗}
use base.Fml.{Share}
use types.Logic.{Logic, sem}
use types.Kit.{‵, raw, ◌⊛◌, ◌$◌, ◌∵◌, !, qed, use1, use2, split, rewrite, fsplit, fjoin, feq_l, feq_i, frame, assume, done}
use types.Share.{arr_parts}
use denote.RattleType.{RattleType}
use denote.Memory.{part_at, part_of, mem, shares}
use denote.Struct.Struct.{Struct}
use denote.Struct.Declared as D
use denote.Struct.Declared.{Declared, shape}
use denote.Array.{Array}
use denote.ArrayMemory.{Single, Array-apart, Array-whole}
use denote.Index.{place, place_is, others, takes, puts, row}

module _ {M : Type 1} {𝓤 : Ura M} (𝓛 : Logic 𝓤) where
  abbrev pub Within : (q : Share) (R F : RattleType) (h h' : R.Denot) (f f' : F.Denot) (b o p : ℕ) → Type 1
  Within q R F h h' f f' b o p = ent 𝓤 (sem 𝓛 (part_at R q h b o))
      (sep 𝓤 (sem 𝓛 (part_at F q f b p)) (wand 𝓤 (sem 𝓛 (part_at F q f' b p)) (sem 𝓛 (part_at R q h' b o))))

  -- a field that is a struct stands at the tuple of its values, which is its record
  pub as-record : (q : Share) (R : RattleType) (N : Declared) (h h' : R.Denot) (y y' : N.D) (b o p : ℕ) → Within q R (Struct (shape N)) h h' (N.to y) (N.to y') b o p → Within q R (D.row N) h h' y y' b o p
  unfolding part_of
  as-record q R N h h' y y' b o p w = w

module _ {M : Type 1} {𝓤 : Ura M} (𝓛 : Logic 𝓤) where
  pub itself : (q : Share) (R : RattleType) (h h' : R.Denot) (b o : ℕ) → Within 𝓛 q R R h h' h h' b o o
  itself q R h h' b o = qed 𝓛 (‵ (part_at R q h b o) ∷ []) ∵ frame ! $ assume {P = sem 𝓛 (part_at R q h' b o)} ! (‵ (part_at R q h' b o)) $ done !

  pub deeper : (q : Share) (R F G : RattleType) (h h' : R.Denot) (f f' : F.Denot) (g g' : G.Denot) (b o p r : ℕ)
      → Within 𝓛 q R F h h' f f' b o p → Within 𝓛 q F G f f' g g' b p r → Within 𝓛 q R G h h' g g' b o r
  deeper q R F G h h' f f' g g' b o p r outer inner =
      qed 𝓛 (‵ (part_at R q h b o) ∷ []) ∵ use1 𝓛 (‵ (part_at F q f b p) ⊛ raw (wand 𝓤 (sem 𝓛 (part_at F q f' b p)) (sem 𝓛 (part_at R q h' b o)))) outer $ split ! $
      use1 𝓛 (‵ (part_at G q g b r) ⊛ raw (wand 𝓤 (sem 𝓛 (part_at G q g' b r)) (sem 𝓛 (part_at F q f' b p)))) inner $ split ! $ frame ! $
      assume {P = sem 𝓛 (part_at R q h' b o)} ! (‵ (part_at G q g' b r)) $ use2 𝓛 (‵ (part_at F q f' b p)) (apply∗ 𝓤 (sem 𝓛 (part_at G q g' b r)) (sem 𝓛 (part_at F q f' b p))) $
      use2 𝓛 (‵ (part_at R q h' b o)) (apply∗ 𝓤 (sem 𝓛 (part_at F q f' b p)) (sem 𝓛 (part_at R q h' b o))) $ done !

  pub element : (q : Share) (P : RattleType) (n : ℕ) → Single P.mir → (xs : List P.Denot) (i : ℕ) (x y : P.Denot) (b o : ℕ) → i < n
      → Within 𝓛 q (Array P n) P (set xs i x) (set xs i y) x y b o (i * (mem P).size + o)
  element q P n one xs i x y b o lt =
      subst (λ (p : ℕ). Within 𝓛 q (Array P n) P (set xs i x) (set xs i y) x y b o p) (place_is (mem P).size o i)
      (qed 𝓛 (‵ (part_at (Array P n) q (set xs i x) b o) ∷ []) ∵ use1 𝓛 (‵ ((arr_parts (shares P) n).part q (set xs i x) b o)) (Array-apart 𝓛 P q one n (set xs i x) b o) $ fsplit ! $ feq_l ! (λ l.
      let within : i < length (set xs i x) = subst (λ (m : ℕ). i < m) (sym l) lt in
      use1 𝓛 (‵ (part_at P q (get_or (set xs i x) i x) b (place (mem P).size o i)) ⊛ ‵ (others (shares P) q (set xs i x) i b o)) (takes (shares P) q 𝓛 (set xs i x) i x b o within) $ split ! $
      rewrite ! 0 (λ (z : P.Denot). ‵ (part_at P q z b (place (mem P).size o i))) (get_or-set_same xs i x x (subst (λ (m : ℕ). i < m) (length-set xs i x) within)) refl $ frame ! $
      assume {P = sem 𝓛 (part_at (Array P n) q (set xs i y) b o)} ! (‵ (part_at P q y b (place (mem P).size o i))) $
      use2 𝓛 (‵ (row P q (set (set xs i x) i y) b o)) (puts (shares P) q 𝓛 (set xs i x) i y b o within) $ rewrite ! 0 (λ (zs : List P.Denot). ‵ (row P q zs b o)) (set-set xs i x y) refl $
      feq_i ! ℕ (length (set xs i y)) n (length-set xs i y ∙ sym (length-set xs i x) ∙ l) $ fjoin ! $ use1 𝓛 (‵ (part_at (Array P n) q (set xs i y) b o)) (Array-whole 𝓛 P q n (set xs i y) b o) $ done !))
