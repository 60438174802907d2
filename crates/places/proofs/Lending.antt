-- A function that looks at a store and is lent numbers: `fn f(r: &T, n: u64, lent: &mut [u64]) -> Y`, which hands the numbers on. Φ is over the store, n and the numbers at entry, the answer, and the numbers at exit. Writes Ψ is the contract of `fn g(x: Q, lent: &mut [u64]) -> Y`, with Ψ of x, the numbers at entry, the answer and the numbers at exit.
-- Assumes `Logic`.
use mathlib.Core.Path.{◌≡◌, refl}
use Prim.Native.Nat.{ℕ, ◌<◌, ◌^◌}
use mathlib.Core.List.{[], ◌∷◌, List}
use mathlib.Core.Option.{Option}
use lib.ListN.{length}
use seplogic.Ra.Ura.{Ura}
use mir.Syntax.{Ty, named, w64, Fn}
use mir.Val.{Val, vint, vptr}
use base.Logic.{SProp, ent, sep, emp, via, fst∗}
use base.Fml.{Fml, Lft, Share, fsep, flft, fres, fbor}
use prog.Wp.{WpFn, Tables}
use types.Logic.{Logic, sem}
use contract.Lifetimes.{toks}
use contract.Monad.{fact}
use types.Kit.{Item, prop, frees, Sq, ‵, raw, ◌⊛◌, ◌$◌, ◌∵◌, !, qed, move, keep, drop, use0, use1, split, join, fsplit, fjoin, suffices, updating, frame, done}
use types.SemTy.{Arr, Body}
use types.Hole.{Holey}
use sound.WpLaws.{WpFn-mono}
use denote.RattleType.{RattleType, owns}
use denote.Laws.{Is}
use denote.Memory.{part_at, mem, hidden_shr}
use denote.Opens.{Shut as way_back, shr_Shut}
use denote.Plain.{uint_vals, uint_Tells}
use denote.Builtin.{u64}
use denote.Ref.{Bor, MutBor, ShrRef, shr_vals, shr_Tells}
use denote.Slice.{mut_slice_vals, MutSlice, mut_slice_Tells, finally, res-finally, coded_holeys, heres}
use denote.Signature.{plain, shr_ref, mut_slice}
use denote.Steps.{nothing}
use denote.Triple.Spec.{Meets, triple_of}
use denote.Triple.Statement.{Contract}
use denote.Triple.Clauses.{Ended, Clauses, closing}
use denote.Triple.Walked.{says, Stays, stay_dropped, gave_slice, walk_of, Goes-dropped, Goes-gave_slice, ends_at, walked, walk_Meets}
use denote.Exit.{yes}
use Rattle.places.proofs.Frame.{locals, free_all}
use Rattle.places.proofs.Places.{updated}
use Rattle.places.proofs.Store.{Data}

-- what is had of the numbers once they are ys for good: that they are, and the borrow of them
abbrev pub handed : Lft → MutBor (List ℕ) → List ℕ → Fml
handed κ lent ys = fsep (finally u64 lent.ghost_name ys) (fbor κ (Body (Arr (Holey (mem u64)) (length lent.now)) lent.ref_ptr.0 lent.ref_ptr.1 lent.ghost_name))

module _ (R Y : RattleType) where
  abbrev ended : Ended
  ended = record { signature = record { lifetimes = 2; outlives = []; params = shr_ref 0 tt (λ _. R) ∷ plain (λ _. u64) ∷ mut_slice 1 tt (λ _. u64) ∷ []; result = plain (λ _. Y) }; kept = (yes, (yes, (yes, tt))) }

  abbrev stayed : Stays ended.signature.params ended.kept
  stayed = (stay_dropped (shr_ref 0 tt (λ _. R)) yes, (stay_dropped (plain (λ _. u64)) yes, (gave_slice (1 ∷ []) tt (plain (λ _. u64)), tt)))

  abbrev pub Claim : Type 1
  Claim = R.Denot → ℕ → List ℕ → Y.Denot → List ℕ → Type 0

  module _ {M : Type 1} (𝓤 : Ura M) (Φ : Claim) where
    abbrev said : Clauses 𝓤 ended
    said κs a = record { ghost = Unit {0}; requires = λ _. emp 𝓤; ensures = λ _ r t. fact 𝓤 (Φ a.0.now a.1.0 a.1.1.0.now r t.1.1.0.now) }

  module _ {M : Type 1} {𝓤 : Ura M} (𝓛 : Logic 𝓤) (Φ : Claim) where
    open 𝓛 use {H}

    module _ (κ κ' : Lft) (q q' : Share) (b o : ℕ) (h : R.Denot) (n : ℕ) (lent : MutBor (List ℕ)) where
      abbrev x : Bor R.Denot × (ℕ × (MutBor (List ℕ) × Unit {0}))
      x = (record { ref_ptr = (b, o); now = h }, (n, (lent, tt)))

      abbrev at : List Val × (List Val × (List Val × Unit {0}))
      at = (vptr b o ∷ [], (vint w64 n ∷ [], (mut_slice_vals lent, tt)))

      abbrev pub Post : Val → SProp 𝓤
      Post = (walk_of 𝓛 ended stayed (said 𝓤 Φ)).post (((κ, (κ', tt)), (q, (q', tt)), tt, x, at), tt)

      abbrev pub Shut : List (Item 𝓤)
      Shut = ‵ (hidden_shr R κ h b o) ∷ ‵ (flft κ q) ∷ raw (toks 𝓛 1 (κ', tt) (q', tt)) ∷ ‵ ((MutSlice (named 1) κ' u64).own_val lent (mut_slice_vals lent)) ∷ []

      -- once a share of the store is taken out: ys are the numbers at exit
      abbrev pub Open : Share → List ℕ → List (Item 𝓤)
      Open s ys = ‵ (part_at R s h b o) ∷ way_back 𝓛 κ q (part_at R s h b o) ∷ raw (toks 𝓛 1 (κ', tt) (q', tt)) ∷ ‵ (handed κ' lent ys) ∷ []

      pub ends : (E : List (Ty × ℕ)) (vs : List (Option Val)) (s : Share) (D : Data Y) (r : Y.Denot) (v : Val) → Is Y r (v ∷ []) → (ys : List ℕ) → length ys ≡ length lent.now → Φ h n lent.now r ys
          → Sq 𝓛 (locals 𝓤 E vs (Open s ys)) (frees E (prop (Post v)))
      ends E vs s D r v is ys l e = free_all ! vs $ updating ! $ move ! (1 ∷ 0 ∷ []) $ shr_Shut ! tt $ updated ! $
          suffices ! _ (ends_at 𝓛 ended stayed (said 𝓤 Φ) (((κ, (κ', tt)), (q, (q', tt)), tt, x, at), tt) v r (tt, (tt, (ys, tt))) (tt, (tt, (l, tt)))) $ says ! e $ join ! $ frame ! $
          nothing ! $ move ! (1 ∷ 0 ∷ []) $ fjoin ! $ nothing ! $ fjoin ! $ nothing ! $ fjoin ! $ use0 𝓛 (‵ (Y.own_val r (v ∷ []))) (D.makes 𝓛 r v is) $ move ! (1 ∷ 0 ∷ []) $ done !

    abbrev pub Met : Tables 𝓤 H → Fn → Type 1
    Met 𝓣 f = Meets 𝓛 ended.signature (WpFn 𝓤 H 𝓣.C 𝓣.Λ f) (closing 𝓛 ended (said 𝓤 Φ))

    pub meets : (𝓣 : Tables 𝓤 H) (f : Fn)
        → ((κ κ' : Lft) (q q' : Share) (b o : ℕ) (h : R.Denot) (n : ℕ) (lent : MutBor (List ℕ)) → n < 2 ^ 64 → Is (MutSlice (named 1) κ' u64) lent (mut_slice_vals lent)
        → Sq 𝓛 (Shut κ κ' q q' b o h n lent) (prop (WpFn 𝓤 H 𝓣.C 𝓣.Λ f (vptr b o ∷ vint w64 n ∷ mut_slice_vals lent) (Post κ κ' q q' b o h n lent))))
        → Met 𝓣 f
    meets 𝓣 f walk = walk_Meets 𝓛 ended stayed (Goes-dropped 𝓛 2 (shr_ref 0 tt (λ _. R)) yes (λ κs x g. refl), (Goes-dropped 𝓛 2 (plain (λ _. u64)) yes (λ κs x g. refl), (Goes-gave_slice 𝓛 2 1 tt (plain (λ _. u64)), tt)))
        (said 𝓤 Φ) (WpFn 𝓤 H 𝓣.C 𝓣.Λ f) (WpFn-mono 𝓤 H 𝓛.laws 𝓣 f)
        (walked 𝓛 ended stayed (said 𝓤 Φ) (WpFn 𝓤 H 𝓣.C 𝓣.Λ f) (λ κs. (shr_vals, (uint_vals w64, (mut_slice_vals, tt)))) (λ κs. (shr_Tells (named 0) κs.0 R, (uint_Tells w64, (mut_slice_Tells (named 1) κs.1.0 u64, tt))))
        (λ κs qs bounds a _ are. via 𝓤 _ (fst∗ 𝓤 _ (emp 𝓤))
        (qed 𝓛 ((‵ (flft κs.0 qs.0) ⊛ raw (toks 𝓛 1 κs.1 qs.1)) ∷ ‵ (owns (ShrRef (named 0) κs.0 R ∷ u64 ∷ MutSlice (named 1) κs.1.0 u64 ∷ []) a (vptr a.0.ref_ptr.0 a.0.ref_ptr.1 ∷ [], (vint w64 a.1.0 ∷ [], (mut_slice_vals a.1.1.0, tt)))) ∷ []) ∵
        split ! $ move ! (2 ∷ []) $ fsplit ! $ fsplit ! $ drop ! $ move ! (1 ∷ []) $ fsplit ! $ drop ! $ fsplit ! $ move ! (1 ∷ []) $ drop ! $ move ! (1 ∷ 2 ∷ 3 ∷ []) $
        walk κs.0 κs.1.0 qs.0 qs.1.0 a.0.ref_ptr.0 a.0.ref_ptr.1 a.0.now a.1.0 a.1.1.0 are.1.0.1 are.1.1.0)))

module _ {M : Type 1} {𝓤 : Ura M} (𝓛 : Logic 𝓤) where
  -- numbers to which nothing is written
  pub unwritten : (κ : Lft) (lent : MutBor (List ℕ)) → ent 𝓤 (sem 𝓛 ((MutSlice (named 1) κ u64).own_val lent (mut_slice_vals lent))) (sem 𝓛 (handed κ lent lent.now))
  unwritten κ lent = qed 𝓛 (‵ ((MutSlice (named 1) κ u64).own_val lent (mut_slice_vals lent)) ∷ []) ∵ fsplit ! $ move ! (1 ∷ []) $ fsplit ! $
      use1 𝓛 (‵ (fres lent.ghost_name ((coded_holeys u64).code (heres u64 lent.now)))) (𝓛.names.obs-res lent.ghost_name ((coded_holeys u64).code (heres u64 lent.now))) $
      use1 𝓛 (‵ (finally u64 lent.ghost_name lent.now)) (res-finally 𝓛 (named 1) κ u64 lent.ghost_name lent.now) $ keep ! (0 ∷ 1 ∷ []) $ fjoin ! $ done !

-- ---- a function of a record that writes to numbers
module _ (Q Y : RattleType) where
  abbrev pub writer : Ended
  writer = record { signature = record { lifetimes = 1; outlives = []; params = plain (λ _. Q) ∷ mut_slice 0 tt (λ _. u64) ∷ []; result = plain (λ _. Y) }; kept = (yes, (yes, tt)) }

  module _ {M : Type 1} (𝓤 : Ura M) (Ψ : Q.Denot → List ℕ → Y.Denot → List ℕ → Type 0) where
    abbrev pub writes : Clauses 𝓤 writer
    writes κs a = record { ghost = Unit {0}; requires = λ _. emp 𝓤; ensures = λ _ r t. fact 𝓤 (Ψ a.0 a.1.0.now r t.1.0.now) }

  module _ {M : Type 1} {𝓤 : Ura M} (𝓛 : Logic 𝓤) (Ψ : Q.Denot → List ℕ → Y.Denot → List ℕ → Type 0) where
    abbrev pub Writes : Contract 𝓤
    Writes = triple_of 𝓛 writer.signature (closing 𝓛 writer (writes 𝓤 Ψ))

    abbrev pub to : Data Q → Lft → Share → Q.Denot → MutBor (List ℕ) → Writes.Ghost
    to D κ q x lent = (((κ, tt), (q, tt), tt, (x, (lent, tt)), (D.val x ∷ [], (mut_slice_vals lent, tt))), tt)

    pub asks : (D : Data Q) (κ : Lft) (q : Share) (x : Q.Denot) (lent : MutBor (List ℕ)) → Is Q x (D.val x ∷ [])
        → ent 𝓤 (sep 𝓤 (sem 𝓛 ((MutSlice (named 1) κ u64).own_val lent (mut_slice_vals lent))) (toks 𝓛 1 (κ, tt) (q, tt))) (Writes.pre (to D κ q x lent))
    asks D κ q x lent is = qed 𝓛 (‵ ((MutSlice (named 1) κ u64).own_val lent (mut_slice_vals lent)) ∷ raw (toks 𝓛 1 (κ, tt) (q, tt)) ∷ []) ∵ nothing ! $ move ! (1 ∷ 0 ∷ []) $ fjoin ! $
        use0 𝓛 (‵ (Q.own_val x (D.val x ∷ []))) (D.makes 𝓛 x (D.val x) is) $ fjoin ! $ move ! (1 ∷ 0 ∷ []) $ join ! $ nothing ! $ move ! (1 ∷ 0 ∷ []) $ done !
