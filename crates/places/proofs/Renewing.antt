-- A part of a value behind a pointer that is changed as a whole, whatever the numbers of the locals.
--     renews       `place = g();`, where g makes X.        renews-last     the same at the end of a block
-- At the head of the context stand the temporary, the pointer's local and the value; the temporary is let go again.
-- Assumes `Logic`.
use mathlib.Core.Path.{◌≡◌, refl, sym, subst}
use Prim.Native.Nat.{ℕ}
use mathlib.Core.List.{List, [], ◌∷◌}
use seplogic.Ra.Ura.{Ura}
use base.Fraction.{full_share}
use lib.Dec.{T}
use mir.Syntax.{Callee, Place, place, copy, rv_opd, Body, seq, assign, call}
use mir.Val.{Val, WT, has_ty}
use base.Fml.{fat, froom}
use prog.Wp.{Heap, Env, spot_of, Calls, Loops, next}
use types.Logic.{Logic}
use sound.WpLaws.{FmC}
use types.Kit.{Item, Post, post, runs, prop, Seq, Step, step, ‵, raw, ◌$◌, drop, use0}
use types.Run.{Finds, init, forget, stop, from, of_opd, assigns, assigns_last, no_more, land}
use denote.RattleType.{RattleType}
use denote.Laws.{Is}
use denote.Memory.{part_at, lone}
use denote.Steps.{heard}
use denote.Triple.Statement.{Triple}
use Rattle.places.proofs.Within.{Within}
use Rattle.places.proofs.Places.{store-part, var, calls-fn}
use Rattle.places.proofs.Numbered.{maker, makes, Made, asks}
use Rattle.places.proofs.Store.{Data}

module _ {M : Type 1} (𝓤 : Ura M) (H : Heap 𝓤) (E : Env 𝓤 H) where
  abbrev pub free : ℕ → Item 𝓤
  free i = ‵ (froom (spot_of 𝓤 H E i).0 (spot_of 𝓤 H E i).1 0)

  abbrev pub set : ℕ → Val → Item 𝓤
  set i v = ‵ (fat full_share (spot_of 𝓤 H E i).0 (spot_of 𝓤 H E i).1 0 v)

module _ {M : Type 1} {𝓤 : Ura M} {𝓛 : Logic 𝓤} {K : Type 0} where
  -- local i is what g makes
  open 𝓛 use {H}

  makes-local : K → {C : Calls 𝓤 H} {Λ : Loops 𝓤 H} {E : Env 𝓤 H} {Γ : List (Item 𝓤)} {Qt : Post 𝓤 H} {rest : Body} {g : Callee} {i : ℕ} → FmC 𝓤 H 𝓛.laws C → (Q : RattleType) (D : Data Q) (X : Q.Denot) → Triple 𝓤 (C g) (Made Q 𝓛 X)
      → ((v : Val) → T (has_ty (lone Q.mir) v) × WT v → T (has_ty (spot_of 𝓤 H E i).0 v) × WT v)
      → (Is Q X (D.val X ∷ []) → Seq K 𝓛 (set 𝓤 H E i (D.val X) ∷ Γ) (runs C Λ E rest Qt)) → Seq K 𝓛 (free 𝓤 H E i ∷ Γ) (runs C Λ E (seq (call g [] (place i [])) rest) Qt)
  makes-local t {C} {Λ} {E} {Γ} {Qt} {rest} {i = i} fm Q D X known room k =
      use0 𝓛 (raw ((Made Q 𝓛 X).pre ((tt, tt, tt, tt, tt), tt))) (asks Q 𝓛 X) $ calls-fn t fm (maker Q) (makes Q 𝓤 X) known ((tt, tt, tt, tt, tt), tt) D.val D.tells (no_more t) (λ x _ is.
      heard t (x ≡ X) (λ e. drop t $ drop t $ land t (from t (stop t)) (init t 0 refl (room _ (D.typed 𝓛 x _ is))) $
      subst (λ (y : Q.Denot). Is Q y (D.val y ∷ []) → Seq K 𝓛 (set 𝓤 H E i (D.val y) ∷ Γ) (runs C Λ E rest Qt)) (sym e) k is))

  -- R is the whole, h before; p is where its part lies
  pub renews : K → {C : Calls 𝓤 H} {Λ : Loops 𝓤 H} {E : Env 𝓤 H} {Γ : List (Item 𝓤)} {Qt : Post 𝓤 H} {rest : Body} {g : Callee} {pl : Place} {here : Item 𝓤} {i : ℕ} → FmC 𝓤 H 𝓛.laws C → (Q : RattleType) (D : Data Q) (X : Q.Denot) → Triple 𝓤 (C g) (Made Q 𝓛 X)
      → (R : RattleType) (h h' : R.Denot) (f : Q.Denot) (b o p : ℕ) → Within 𝓛 full_share R Q h h' f X b o p → ((v : Val) → T (has_ty (lone Q.mir) v) × WT v → T (has_ty (spot_of 𝓤 H E i).0 v) × WT v)
      → ((v : Val) → Finds K 𝓛 (set 𝓤 H E i v ∷ here ∷ ‵ (part_at R full_share h b o) ∷ Γ) E pl (lone Q.mir, b, p))
      → Step K 𝓛 (free 𝓤 H E i ∷ here ∷ ‵ (part_at R full_share h' b o) ∷ Γ) (runs C Λ E rest Qt)
      (free 𝓤 H E i ∷ here ∷ ‵ (part_at R full_share h b o) ∷ Γ) (runs C Λ E (seq (call g [] (place i [])) (seq (assign pl (rv_opd (copy (place i [])))) rest)) Qt)
  renews t fm Q D X known R h h' f b o p change room find = step (λ k. makes-local t fm Q D X known room (λ is.
      assigns t (of_opd t (var t 0 refl)) (find _) (store-part t 2 R Q h h' f X b o p D.one _ (D.typed 𝓛 X _ is) (D.makes 𝓛 X _ is) refl change) $ forget t 0 refl $ k))

  -- the same at the end of a block
  pub renews-last : K → {C : Calls 𝓤 H} {Λ : Loops 𝓤 H} {E : Env 𝓤 H} {Γ : List (Item 𝓤)} {Qt : Post 𝓤 H} {g : Callee} {pl : Place} {here : Item 𝓤} {i : ℕ} → FmC 𝓤 H 𝓛.laws C → (Q : RattleType) (D : Data Q) (X : Q.Denot) → Triple 𝓤 (C g) (Made Q 𝓛 X)
      → (R : RattleType) (h h' : R.Denot) (f : Q.Denot) (b o p : ℕ) → Within 𝓛 full_share R Q h h' f X b o p → ((v : Val) → T (has_ty (lone Q.mir) v) × WT v → T (has_ty (spot_of 𝓤 H E i).0 v) × WT v)
      → ((v : Val) → Finds K 𝓛 (set 𝓤 H E i v ∷ here ∷ ‵ (part_at R full_share h b o) ∷ Γ) E pl (lone Q.mir, b, p))
      → Step K 𝓛 (free 𝓤 H E i ∷ here ∷ ‵ (part_at R full_share h' b o) ∷ Γ) (prop (post 𝓤 H Qt next))
      (free 𝓤 H E i ∷ here ∷ ‵ (part_at R full_share h b o) ∷ Γ) (runs C Λ E (seq (call g [] (place i [])) (assign pl (rv_opd (copy (place i []))))) Qt)
  renews-last t fm Q D X known R h h' f b o p change room find = step (λ k. makes-local t fm Q D X known room (λ is.
      assigns_last t (of_opd t (var t 0 refl)) (find _) (store-part t 2 R Q h h' f X b o p D.one _ (D.typed 𝓛 X _ is) (D.makes 𝓛 X _ is) refl change) $ forget t 0 refl $ k))
