-- A function that is lent a store and a record: `fn f(r: &mut T, n: u64, shown: &mut U) -> u32`. Φ is over the lent store and n at entry, the answer, and the store and the record at exit.
-- Assumes `Logic`.
use mathlib.Core.Path.{refl}
use Prim.Native.Nat.{ℕ, ◌<◌, ◌^◌}
use mathlib.Core.List.{[], ◌∷◌, List}
use mathlib.Core.Option.{Option}
use seplogic.Ra.Ura.{Ura}
use base.Fraction.{full_share}
use mir.Syntax.{Ty, named, w32, w64, Fn}
use mir.Val.{Val, vint, vptr}
use base.Logic.{SProp, emp, via, fst∗}
use base.Fml.{GName, Lft, Share, ftrue, flft, fobs, fauth, fbor, fobor}
use prog.Wp.{WpFn, Tables}
use types.Logic.{Logic}
use contract.Monad.{fact}
use types.Kit.{Item, prop, frees, Sq, ‵, ◌⊛◌, ◌$◌, ◌∵◌, !, qed, move, keep, drop, use0, split, join, fsplit, fsplit3, fjoin, fjoin3, feq_i, suffices, updating, frame, done}
use types.SemTy.{Body}
use types.Mut.{close_ref}
use sound.WpLaws.{WpFn-mono}
use denote.RattleType.{RattleType, owns}
use denote.Memory.{part_at, mem}
use denote.Plain.{uint_vals, uint_Tells, uint_Makes}
use denote.Builtin.{u32, u64}
use denote.Ref.{MutBor, MutRef, mut_vals, mut_Tells}
use denote.Signature.{plain, mut_ref}
use denote.Steps.{nothing}
use denote.Triple.Spec.{Meets}
use denote.Triple.Clauses.{Ended, Clauses, closing}
use denote.Triple.Walked.{says, Stays, stay_ref, stay_dropped, walk_of, Goes-dropped, Goes-ref, ends_at, walked, walk_Meets}
use denote.Exit.{yes}
use Rattle.places.proofs.Frame.{locals, free_all}
use Rattle.places.proofs.Places.{updated}

module _ (R U : RattleType) where
  abbrev ended : Ended
  ended = record { signature = record { lifetimes = 2; outlives = []; params = mut_ref 0 tt (λ _. R) ∷ plain (λ _. u64) ∷ mut_ref 1 tt (λ _. U) ∷ []; result = plain (λ _. u32) }; kept = (yes, (yes, (yes, tt))) }

  abbrev stayed : Stays ended.signature.params ended.kept
  stayed = (stay_ref (0 ∷ []) tt (plain (λ _. R)), (stay_dropped (plain (λ _. u64)) yes, (stay_ref (1 ∷ []) tt (plain (λ _. U)), tt)))

  abbrev pub Claim : Type 1
  Claim = R.Denot → ℕ → ℕ → R.Denot → U.Denot → Type 0

  module _ {M : Type 1} (𝓤 : Ura M) (Φ : Claim) where
    abbrev said : Clauses 𝓤 ended
    said κs a = record { ghost = Unit {0}; requires = λ _. emp 𝓤; ensures = λ _ r t. fact 𝓤 (Φ a.0.now a.1.0 r t.0.now t.1.1.0.now) }

  module _ {M : Type 1} {𝓤 : Ura M} (𝓛 : Logic 𝓤) (Φ : Claim) where
    open 𝓛 use {H}

    module _ (κ κ' : Lft) (q q' : Share) (b o b' o' : ℕ) (γ γ' : GName) (h : R.Denot) (n : ℕ) (u : U.Denot) where
      abbrev x : MutBor R.Denot × (ℕ × (MutBor U.Denot × Unit {0}))
      x = (record { ref_ptr = (b, o); ghost_name = γ; now = h }, (n, (record { ref_ptr = (b', o'); ghost_name = γ'; now = u }, tt)))

      abbrev at : List Val × (List Val × (List Val × Unit {0}))
      at = (vptr b o ∷ [], (vint w64 n ∷ [], (vptr b' o' ∷ [], tt)))

      abbrev pub Post : Val → SProp 𝓤
      Post = (walk_of 𝓛 ended stayed (said 𝓤 Φ)).post (((κ, (κ', tt)), (q, (q', tt)), tt, x, at), tt)

      abbrev pub Shut : List (Item 𝓤)
      Shut = ‵ (fobs γ (R.coded.code h)) ∷ ‵ (fbor κ (Body (mem R) b o γ)) ∷ ‵ (flft κ q) ∷ ‵ (fobs γ' (U.coded.code u)) ∷ ‵ (fbor κ' (Body (mem U) b' o' γ')) ∷ ‵ (flft κ' q') ∷ []

      -- once both borrows are open, where the lent values are t and y
      abbrev pub Open : R.Denot → U.Denot → List (Item 𝓤)
      Open t y = ‵ (part_at R full_share t b o) ∷ ‵ (fobor κ q (Body (mem R) b o γ)) ∷ ‵ (fobs γ (R.coded.code h)) ∷ ‵ (fauth γ (R.coded.code h))
          ∷ ‵ (part_at U full_share y b' o') ∷ ‵ (fobor κ' q' (Body (mem U) b' o' γ')) ∷ ‵ (fobs γ' (U.coded.code u)) ∷ ‵ (fauth γ' (U.coded.code u)) ∷ []

      pub ends : (E : List (Ty × ℕ)) (vs : List (Option Val)) (r : ℕ) → r < 2 ^ 32 → (t : R.Denot) (y : U.Denot) → Φ h n r t y → Sq 𝓛 (locals 𝓤 E vs (Open t y)) (frees E (prop (Post (vint w32 r))))
      ends E vs r fits t y e = free_all ! vs $ updating ! $ close_ref ! tt (mem R) t {b = b} {o = o} $ move ! (3 ∷ 4 ∷ 5 ∷ 6 ∷ []) $ close_ref ! tt (mem U) y {b = b'} {o = o'} $ updated ! $
          suffices ! _ (ends_at 𝓛 ended stayed (said 𝓤 Φ) (((κ, (κ', tt)), (q, (q', tt)), tt, x, at), tt) (vint w32 r) r (t, (tt, (y, tt))) (tt, (tt, (tt, tt)))) $ says ! e $
          -- [obs and borrow of the record; its token; obs and borrow of the store; its token]
          nothing ! $ move ! (3 ∷ 0 ∷ []) $ join ! $ move ! (5 ∷ 0 ∷ []) $ join ! $ frame ! $
          feq_i ! (List Val) (vptr b' o' ∷ []) (vptr b' o' ∷ []) refl $ fjoin3 ! $ nothing ! $ move ! (1 ∷ 0 ∷ []) $ fjoin ! $ nothing ! $ fjoin ! $ move ! (1 ∷ 2 ∷ []) $
          feq_i ! (List Val) (vptr b o ∷ []) (vptr b o ∷ []) refl $ fjoin3 ! $ fjoin ! $ use0 𝓛 (‵ (u32.own_val r (vint w32 r ∷ []))) (uint_Makes 𝓛 w32 r (vint w32 r ∷ []) (refl, fits)) $ move ! (1 ∷ 0 ∷ []) $ done !

    abbrev pub Met : Tables 𝓤 H → Fn → Type 1
    Met 𝓣 f = Meets 𝓛 ended.signature (WpFn 𝓤 H 𝓣.C 𝓣.Λ f) (closing 𝓛 ended (said 𝓤 Φ))

    pub meets : (𝓣 : Tables 𝓤 H) (f : Fn)
        → ((κ κ' : Lft) (q q' : Share) (b o b' o' : ℕ) (γ γ' : GName) (h : R.Denot) (n : ℕ) (u : U.Denot) → n < 2 ^ 64
        → Sq 𝓛 (Shut κ κ' q q' b o b' o' γ γ' h n u) (prop (WpFn 𝓤 H 𝓣.C 𝓣.Λ f (vptr b o ∷ vint w64 n ∷ vptr b' o' ∷ []) (Post κ κ' q q' b o b' o' γ γ' h n u))))
        → Met 𝓣 f
    meets 𝓣 f walk = walk_Meets 𝓛 ended stayed (Goes-ref 𝓛 2 0 tt (plain (λ _. R)), (Goes-dropped 𝓛 2 (plain (λ _. u64)) yes (λ κs x g. refl), (Goes-ref 𝓛 2 1 tt (plain (λ _. U)), tt)))
        (said 𝓤 Φ) (WpFn 𝓤 H 𝓣.C 𝓣.Λ f) (WpFn-mono 𝓤 H 𝓛.laws 𝓣 f)
        (walked 𝓛 ended stayed (said 𝓤 Φ) (WpFn 𝓤 H 𝓣.C 𝓣.Λ f) (λ κs. (mut_vals, (uint_vals w64, (mut_vals, tt)))) (λ κs. (mut_Tells (named 0) κs.0 R, (uint_Tells w64, (mut_Tells (named 1) κs.1.0 U, tt))))
        (λ κs qs bounds a _ are. via 𝓤 _ (fst∗ 𝓤 _ (emp 𝓤))
        (qed 𝓛 ((‵ (flft κs.0 qs.0) ⊛ (‵ (flft κs.1.0 qs.1.0) ⊛ ‵ ftrue))
        ∷ ‵ (owns (MutRef (named 0) κs.0 R ∷ u64 ∷ MutRef (named 1) κs.1.0 U ∷ []) a (vptr a.0.ref_ptr.0 a.0.ref_ptr.1 ∷ [], (vint w64 a.1.0 ∷ [], (vptr a.1.1.0.ref_ptr.0 a.1.1.0.ref_ptr.1 ∷ [], tt)))) ∷ []) ∵
        split ! $ move ! (1 ∷ []) $ split ! $ move ! (3 ∷ []) $ fsplit ! $ fsplit3 ! $ drop ! $ move ! (2 ∷ []) $ fsplit ! $ drop ! $ fsplit ! $ fsplit3 ! $ drop ! $
        -- [obs and borrow of the record; ..; obs and borrow of the store; the record's token; ..; the store's]
        keep ! (3 ∷ 4 ∷ 7 ∷ 0 ∷ 1 ∷ 5 ∷ []) $
        walk κs.0 κs.1.0 qs.0 qs.1.0 a.0.ref_ptr.0 a.0.ref_ptr.1 a.1.1.0.ref_ptr.0 a.1.1.0.ref_ptr.1 a.0.ghost_name a.1.1.0.ghost_name a.0.now a.1.0 a.1.1.0.now are.1.0.1)))
