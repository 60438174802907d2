-- A function that changes what its first parameter lends: `fn f(r: &mut T, ..) -> S`, of whose other parameters nothing is said at exit, as of plain data, of a `&` and of a `&[U]`.
--     Said Φ       the contract: Φ of the lent value and the other arguments at entry, the answer, and the lent value at exit
--     Shut         what a walk has of the reference at first, and the other lifetimes' tokens.        Open t     the same once the borrow is open, where the lent value is t
--     ends         where a walk ends: the locals are freed, and the borrow is closed
--     meets        a walk shows that the function meets the contract
-- Assumes `Logic`.
use mathlib.Core.Path.{refl}
use Prim.Native.Nat.{ℕ, suc}
use mathlib.Core.List.{[], ◌∷◌, List}
use mathlib.Core.Option.{Option}
use seplogic.Ra.Ura.{Ura}
use base.Fraction.{full_share}
use mir.Syntax.{Ty, named, Fn}
use mir.Val.{Val, vptr}
use base.Logic.{SProp, ent, emp, via, fst∗}
use base.Fml.{GName, flft, fobs, fauth, fbor, fobor}
use prog.Wp.{WpFn, Tables}
use types.Logic.{Logic, sem}
use contract.Lifetimes.{Lfts, Shares, toks}
use contract.Monad.{fact}
use types.Kit.{Item, prop, frees, Sq, ‵, raw, ◌⊛◌, ◌$◌, ◌∵◌, !, qed, move, drop, use0, split, join, fsplit, fsplit3, fjoin, fjoin3, feq_i, suffices, updating, frame, done}
use types.SemTy.{Body}
use types.Mut.{close_ref}
use sound.WpLaws.{WpFn-mono}
use denote.RattleType.{RattleType, Denots, Valss, flat, owns}
use denote.Laws.{Are, Ises, Spells, Tellss, valss}
use denote.Memory.{part_at, mem}
use denote.Ref.{MutBor, MutRef, mut_vals, mut_Tells}
use denote.Signature.{Slot, plain, mut_ref, types_at}
use denote.Steps.{nothing}
use denote.Triple.End.{Kepts, Fins}
use denote.Triple.Spec.{Meets}
use denote.Triple.Clauses.{Ended, Clauses, closing}
use denote.Triple.Walked.{says, Stays, stay_ref, stay_dropped, fits_of, has_of, walk_of, Silent, AllGo, Goes-dropped, Goes-ref, ends_at, walked, walk_Meets}
use denote.Exit.{yes}
use Rattle.places.proofs.Frame.{locals, free_all}
use Rattle.places.proofs.Places.{updated}

-- ---- the other parameters: nothing is had of them at exit, and nothing said
module _ {n : ℕ} where
  abbrev dropped : (ss : List (Slot n)) (ks : Kepts ss) → Stays ss ks
  dropped [] ks = tt
  dropped (s ∷ ss) ks = (stay_dropped s ks.0, dropped ss ks.1)

  fits : (κs : Lfts n) (ss : List (Slot n)) (ks : Kepts ss) (a : Denots (types_at ss κs)) (ws : Fins κs ss ks a) → fits_of κs ss ks (dropped ss ks) a ws
  fits κs [] ks a ws = tt
  fits κs (s ∷ ss) ks a ws = (tt, fits κs ss ks.1 a.1 ws.1)

module _ {M : Type 1} {𝓤 : Ura M} (𝓛 : Logic 𝓤) (n : ℕ) where
  abbrev pub Silents : (ss : List (Slot n)) → Kepts ss → Type 1
  Silents [] ks = Unit {1}
  Silents (s ∷ ss) ks = Silent 𝓛 n s ks.0 × Silents ss ks.1

  all_go : (ss : List (Slot n)) (ks : Kepts ss) → Silents ss ks → AllGo 𝓛 n ss ks (dropped ss ks)
  all_go [] ks qs = tt
  all_go (s ∷ ss) ks qs = (Goes-dropped 𝓛 n s ks.0 qs.0, all_go ss ks.1 qs.1)

  had : (κs : Lfts n) (ss : List (Slot n)) (ks : Kepts ss) (a : Denots (types_at ss κs)) (ws : Fins κs ss ks a) (vss : Valss (types_at ss κs)) → ent 𝓤 (emp 𝓤) (sem 𝓛 (has_of κs ss ks (dropped ss ks) a ws vss))
  had κs [] ks a ws vss = qed 𝓛 [] ∵ done !
  had κs (s ∷ ss) ks a ws vss = qed 𝓛 [] ∵ use0 𝓛 (‵ (has_of κs ss ks.1 (dropped ss ks.1) a.1 ws.1 vss.1)) (had κs ss ks.1 a.1 ws.1 vss.1) $ nothing ! $ done !

module _ (R : RattleType) (m : ℕ) (ss : List (Slot (suc m))) (ks : Kepts ss) (S : RattleType) where
  abbrev pub ended : Ended
  ended = record { signature = record { lifetimes = suc m; outlives = []; params = mut_ref 0 tt (λ _. R) ∷ ss; result = plain (λ _. S) }; kept = (yes, ks) }

  abbrev stayed : Stays ended.signature.params ended.kept
  stayed = (stay_ref (0 ∷ []) tt (plain (λ _. R)), dropped ss ks)

  -- the lent value and the other arguments at entry, the answer, and the lent value at exit
  abbrev pub Claim : Type 1
  Claim = (κs : Lfts (suc m)) → R.Denot → Denots (types_at ss κs) → S.Denot → R.Denot → Type 0

  module _ {M : Type 1} (𝓤 : Ura M) (Φ : Claim) where
    abbrev pub Said : Clauses 𝓤 ended
    Said κs a = record { ghost = Unit {0}; requires = λ _. emp 𝓤; ensures = λ _ r t. fact 𝓤 (Φ κs a.0.now a.1 r t.0.now) }

  module _ {M : Type 1} {𝓤 : Ura M} (𝓛 : Logic 𝓤) (Φ : Claim) where
    open 𝓛 use {H}

    module _ (κs : Lfts (suc m)) (qs : Shares (suc m)) (b o : ℕ) (γ : GName) (h : R.Denot) (a : Denots (types_at ss κs)) (vss : Valss (types_at ss κs)) where
      abbrev x : MutBor R.Denot × Denots (types_at ss κs)
      x = (record { ref_ptr = (b, o); ghost_name = γ; now = h }, a)

      abbrev at : List Val × Valss (types_at ss κs)
      at = (vptr b o ∷ [], vss)

      abbrev pub Post : Val → SProp 𝓤
      Post = (walk_of 𝓛 ended stayed (Said 𝓤 Φ)).post ((κs, qs, tt, x, at), tt)

      abbrev pub Shut : List (Item 𝓤)
      Shut = ‵ (fobs γ (R.coded.code h)) ∷ ‵ (fbor κs.0 (Body (mem R) b o γ)) ∷ ‵ (flft κs.0 qs.0) ∷ raw (toks 𝓛 m κs.1 qs.1) ∷ []

      abbrev pub Open : R.Denot → List (Item 𝓤)
      Open t = ‵ (part_at R full_share t b o) ∷ ‵ (fobor κs.0 qs.0 (Body (mem R) b o γ)) ∷ ‵ (fobs γ (R.coded.code h)) ∷ ‵ (fauth γ (R.coded.code h)) ∷ raw (toks 𝓛 m κs.1 qs.1) ∷ []

      pub ends : (E : List (Ty × ℕ)) (vs : List (Option Val)) (v : Val) (r : S.Denot) → ent 𝓤 (emp 𝓤) (sem 𝓛 (S.own_val r (v ∷ []))) → (t : R.Denot) (ws : Fins κs ss ks a) → Φ κs h a r t → Sq 𝓛 (locals 𝓤 E vs (Open t)) (frees E (prop (Post v)))
      ends E vs v r own t ws e = free_all ! vs $ updating ! $ close_ref ! tt (mem R) t {b = b} {o = o} $ updated ! $
          suffices ! _ (ends_at 𝓛 ended stayed (Said 𝓤 Φ) ((κs, qs, tt, x, at), tt) v r (t, ws) (tt, fits κs ss ks a ws)) $ says ! e $ move ! (2 ∷ 3 ∷ []) $ join ! $ frame ! $
          feq_i ! (List Val) (vptr b o ∷ []) (vptr b o ∷ []) refl $ fjoin3 ! $ use0 𝓛 (‵ (has_of κs ss ks (dropped ss ks) a ws vss)) (had 𝓛 (suc m) κs ss ks a ws vss) $ move ! (1 ∷ 0 ∷ []) $ fjoin ! $
          use0 𝓛 (‵ (S.own_val r (v ∷ []))) own $ move ! (1 ∷ 0 ∷ []) $ done !

    pub meets : (𝓣 : Tables 𝓤 H) (f : Fn) → Silents 𝓛 (suc m) ss ks → (sp : (κs : Lfts (suc m)) → Spells (types_at ss κs)) → ((κs : Lfts (suc m)) → Tellss (types_at ss κs) (Ises (types_at ss κs)) (sp κs))
        → ((κs : Lfts (suc m)) (qs : Shares (suc m)) (b o : ℕ) (γ : GName) (h : R.Denot) (a : Denots (types_at ss κs)) → Are (types_at ss κs) (Ises (types_at ss κs)) a (valss (types_at ss κs) (sp κs) a)
        → Sq 𝓛 (‵ (owns (types_at ss κs) a (valss (types_at ss κs) (sp κs) a)) ∷ Shut κs qs b o γ h a (valss (types_at ss κs) (sp κs) a))
        (prop (WpFn 𝓤 H 𝓣.C 𝓣.Λ f (vptr b o ∷ flat (types_at ss κs) (valss (types_at ss κs) (sp κs) a)) (Post κs qs b o γ h a (valss (types_at ss κs) (sp κs) a)))))
        → Meets 𝓛 ended.signature (WpFn 𝓤 H 𝓣.C 𝓣.Λ f) (closing 𝓛 ended (Said 𝓤 Φ))
    meets 𝓣 f silent sp tl walk = walk_Meets 𝓛 ended stayed (Goes-ref 𝓛 (suc m) 0 tt (plain (λ _. R)), all_go 𝓛 (suc m) ss ks silent) (Said 𝓤 Φ) (WpFn 𝓤 H 𝓣.C 𝓣.Λ f) (WpFn-mono 𝓤 H 𝓛.laws 𝓣 f)
        (walked 𝓛 ended stayed (Said 𝓤 Φ) (WpFn 𝓤 H 𝓣.C 𝓣.Λ f) (λ κs. (mut_vals, sp κs)) (λ κs. (mut_Tells (named 0) κs.0 R, tl κs))
        (λ κs qs bounds a _ are. via 𝓤 _ (fst∗ 𝓤 _ (emp 𝓤))
        (qed 𝓛 ((‵ (flft κs.0 qs.0) ⊛ raw (toks 𝓛 m κs.1 qs.1)) ∷ ‵ (owns (MutRef (named 0) κs.0 R ∷ types_at ss κs) a (vptr a.0.ref_ptr.0 a.0.ref_ptr.1 ∷ [], valss (types_at ss κs) (sp κs) a.1)) ∷ []) ∵
        split ! $ move ! (2 ∷ []) $ fsplit ! $ fsplit3 ! $ drop ! $ move ! (2 ∷ 0 ∷ 1 ∷ []) $ walk κs qs a.0.ref_ptr.0 a.0.ref_ptr.1 a.0.ghost_name a.0.now a.1 are.1)))
