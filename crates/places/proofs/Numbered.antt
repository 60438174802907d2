-- `Entry`'s law at `fn f(r: &mut T, n: u64) -> u32`. Φ is over the lent value and n at entry, the answer, and the lent value at exit. Made X is the contract of a function that makes X.
-- Assumes `Logic`.
use mathlib.Core.Path.{◌≡◌, refl}
use Prim.Native.Nat.{ℕ, ◌<◌, ◌^◌}
use mathlib.Core.List.{[], ◌∷◌, List}
use mathlib.Core.Option.{Option}
use seplogic.Ra.Ura.{Ura}
use mir.Syntax.{Ty, w32, w64, Fn}
use mir.Val.{Val, vint, vptr}
use base.Logic.{SProp, ent, emp}
use base.Fml.{GName, Lft, Share, ftrue}
use prog.Wp.{WpFn, Tables}
use types.Logic.{Logic}
use contract.Monad.{fact}
use types.Kit.{Item, prop, frees, Sq, ‵, ◌$◌, ◌∵◌, !, qed, move, drop, join, done}
use denote.RattleType.{RattleType}
use denote.Plain.{uint_vals, uint_Tells, uint_Makes}
use denote.Builtin.{u32, u64}
use denote.Signature.{Slot, plain}
use denote.Steps.{nothing}
use denote.Triple.Spec.{Meets, triple_of}
use denote.Triple.Statement.{Contract}
use denote.Triple.Clauses.{Ended, Clauses, closing}
use denote.Exit.{yes}
use Rattle.places.proofs.Frame.{locals}
use Rattle.places.proofs.Entry as entry

abbrev number : List (Slot 1)
number = plain (λ _. u64) ∷ []

module _ (R : RattleType) where
  abbrev pub Claim : Type 1
  Claim = R.Denot → ℕ → ℕ → R.Denot → Type 0

  module _ (Φ : Claim) where
    abbrev claim : entry.Claim R 0 number (yes, tt) u32
    claim κs h a r t = Φ h a.0 r t

  module _ {M : Type 1} {𝓤 : Ura M} (𝓛 : Logic 𝓤) (Φ : Claim) where
    open 𝓛 use {H}

    module _ (κ : Lft) (q : Share) (b o : ℕ) (γ : GName) (h : R.Denot) (n : ℕ) where
      abbrev pub Post : Val → SProp 𝓤
      Post = entry.Post R 0 number (yes, tt) u32 𝓛 (claim Φ) (κ, tt) (q, tt) b o γ h (n, tt) (vint w64 n ∷ [], tt)

      abbrev pub Shut : List (Item 𝓤)
      Shut = entry.Shut R 0 number (yes, tt) u32 𝓛 (claim Φ) (κ, tt) (q, tt) b o γ h (n, tt) (vint w64 n ∷ [], tt)

      abbrev pub Open : R.Denot → List (Item 𝓤)
      Open = entry.Open R 0 number (yes, tt) u32 𝓛 (claim Φ) (κ, tt) (q, tt) b o γ h (n, tt) (vint w64 n ∷ [], tt)

      pub ends : (E : List (Ty × ℕ)) (vs : List (Option Val)) (r : ℕ) → r < 2 ^ 32 → (t : R.Denot) → Φ h n r t → Sq 𝓛 (locals 𝓤 E vs (Open t)) (frees E (prop (Post (vint w32 r))))
      ends E vs r fits t e = entry.ends R 0 number (yes, tt) u32 𝓛 (claim Φ) (κ, tt) (q, tt) b o γ h (n, tt) (vint w64 n ∷ [], tt) E vs (vint w32 r) r (uint_Makes 𝓛 w32 r (vint w32 r ∷ []) (refl, fits)) t (tt, tt) e

    abbrev pub Met : Tables 𝓤 H → Fn → Type 1
    Met 𝓣 f = Meets 𝓛 (entry.ended R 0 number (yes, tt) u32).signature (WpFn 𝓤 H 𝓣.C 𝓣.Λ f) (closing 𝓛 (entry.ended R 0 number (yes, tt) u32) (entry.Said R 0 number (yes, tt) u32 𝓤 (claim Φ)))

    pub meets : (𝓣 : Tables 𝓤 H) (f : Fn)
        → ((κ : Lft) (q : Share) (b o : ℕ) (γ : GName) (h : R.Denot) (n : ℕ) → n < 2 ^ 64 → Sq 𝓛 (Shut κ q b o γ h n) (prop (WpFn 𝓤 H 𝓣.C 𝓣.Λ f (vptr b o ∷ vint w64 n ∷ []) (Post κ q b o γ h n))))
        → Met 𝓣 f
    meets 𝓣 f walk = entry.meets R 0 number (yes, tt) u32 𝓛 (claim Φ) 𝓣 f (λ κs x g. refl, tt) (λ κs. (uint_vals w64, tt)) (λ κs. (uint_Tells w64, tt))
        (λ κs qs b o γ h a are. drop ! $ walk κs.0 qs.0 b o γ h a.0 are.0.1)

-- ---- a function of no arguments that makes X
module _ (P : RattleType) where
  abbrev pub maker : Ended
  maker = record { signature = record { lifetimes = 0; outlives = []; params = []; result = plain (λ _. P) }; kept = tt }

  module _ {M : Type 1} (𝓤 : Ura M) (X : P.Denot) where
    abbrev pub makes : Clauses 𝓤 maker
    makes κs a = record { ghost = Unit {0}; requires = λ _. emp 𝓤; ensures = λ _ r _. fact 𝓤 (r ≡ X) }

  module _ {M : Type 1} {𝓤 : Ura M} (𝓛 : Logic 𝓤) (X : P.Denot) where
    abbrev pub Made : Contract 𝓤
    Made = triple_of 𝓛 maker.signature (closing 𝓛 maker (makes 𝓤 X))

    pub asks : ent 𝓤 (emp 𝓤) (Made.pre ((tt, tt, tt, tt, tt), tt))
    asks = qed 𝓛 (‵ ftrue ∷ []) ∵ nothing ! $ join ! $ nothing ! $ move ! (1 ∷ 0 ∷ []) $ done !
