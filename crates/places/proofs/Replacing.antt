-- `if 8 <= n { return 8; } let here = &mut r.0[n as usize]; if here.0 != 1 { return 8; } *here = g(); 0`, over any store: closing a slot, and a sequence call.
-- Assumes `Logic`.
use mathlib.Core.Path.{refl}
use mathlib.Core.Bool.{not}
use mathlib.Core.Option.{some}
use Prim.Native.Nat.{ℕ, ◌+◌, ◌*◌, ◌≤◌, ◌<◌, ◌^◌}
use mathlib.Core.List.{[], ◌∷◌, List}
use lib.Dec.{T, eqb, lit<}
use seplogic.Ra.Ura.{Ura}
use base.Fraction.{full_share}
use mir.Syntax.{Callee, Body, named, erased, mut, w8, w32, w64, ty_int, ty_bool, ty_ptr, ty_ref, Opd as Operand, int, copy, rv_opd, place, deref, seq, assign, call, return, value_local, local, Fn}
use mir.Val.{Val, vint, vptr}
use base.Fml.{GName, Lft, Share}
use prog.Wp.{Env, Tables, WpFn}
use types.Logic.{Logic}
use types.Kit.{Item, Go, prop, Sq, ◌$◌, !, move}
use types.Run.{Opd, look, init, stop, hop, from, lit, of_opd, enter, params1}
use types.Mut.{open_ref}
use sound.WpLaws.{fm_of}
use denote.Laws.{Is}
use denote.Memory.{mem, lone, pointee}
use denote.Triple.Statement.{Triple}
use Rattle.places.proofs.Frame.{allots, passing}
use Rattle.places.proofs.Places.{span, back, answers}
use Rattle.places.proofs.Numbered.{Claim, Post, Shut, ends, Met, meets, Made}
use Rattle.places.proofs.Store.{Store, changes}
use Rattle.places.proofs.Finding.{Names, finds, begins-alike}
use Rattle.places.proofs.Renewing.{renews}

abbrev names : Names
names = record { here = 3; test = 4; index = 5; scaled = 6; array = 7; element = 8; mark = 9 }

abbrev away : Body
away = seq (assign (place 0 []) (rv_opd (int w32 8))) return

-- to the front: what `Finding` uses
abbrev used : List ℕ
used = 4 ∷ 5 ∷ 6 ∷ 7 ∷ 8 ∷ 9 ∷ 3 ∷ 2 ∷ 1 ∷ 12 ∷ []

-- k is the constant that is an element's width, and g the function that makes the new element
module _ (S : Store) (k : Operand) (g : Callee) where
  abbrev pub shape : Fn
  shape = record {
    lifetimes = 1;
    outlives = [];
    ty_params = [];
    givens = 0;
    params = 2;
    locals =
        local (ty_int w32) value_local
        ∷ local (ty_ref (named 0) mut (pointee S.R.written)) value_local
        ∷ local (ty_int w64) value_local
        ∷ local (ty_ref erased mut (pointee S.P.written)) value_local
        ∷ local ty_bool value_local
        ∷ local (ty_int w64) value_local
        ∷ local (ty_int w64) value_local
        ∷ local ty_ptr value_local
        ∷ local ty_ptr value_local
        ∷ local (ty_int w8) value_local
        ∷ local (lone S.P.mir) value_local
        ∷ [];
    body =
        finds S k names away away
        (seq (call g [] (place 10 []))
        (seq (assign (place 3 (deref (lone S.P.mir) ∷ [])) (rv_opd (copy (place 10 []))))
        (seq (assign (place 0 []) (rv_opd (int w32 0)))
        return)));
  }

  module _ {M : Type 1} {𝓤 : Ura M} (𝓛 : Logic 𝓤) (width : (Γ : List (Item 𝓤)) (E : Env 𝓤 𝓛.H) → Opd Go 𝓛 Γ E k (vint w64 S.width)) (Φ : Claim S.R) (X : S.P.Denot)
      (past : (h : S.R.Denot) (w : Val) (n : ℕ) → Is S.R h (w ∷ []) → 8 ≤ n → Φ h n 8 h)
      (shut : (h : S.R.Denot) (n : ℕ) → T (not (eqb (S.mark.get (S.get h n)) 1)) → Φ h n 8 h)
      (anew : (h : S.R.Denot) (n : ℕ) → n < 8 → T (not (not (eqb (S.mark.get (S.get h n)) 1))) → Φ h n 0 (S.put h n X))
      (𝓣 : Tables 𝓤 𝓛.H) (known : Triple 𝓤 (𝓣.C g) (Made S.P 𝓛 X)) where
    open 𝓛 use {H}

    walk : (κ : Lft) (q : Share) (b o : ℕ) (γ : GName) (h : S.R.Denot) (n : ℕ) → n < 2 ^ 64
        → Sq 𝓛 (Shut S.R 𝓛 Φ κ q b o γ h n) (prop (WpFn 𝓤 H 𝓣.C 𝓣.Λ shape (vptr b o ∷ vint w64 n ∷ []) (Post S.R 𝓛 Φ κ q b o γ h n)))
    walk κ q b o γ h n fits =
        enter ! 𝓣.C 𝓣.Λ shape (vptr b o ∷ vint w64 n ∷ []) _ $ allots ! (λ bs. params1 ! $ passing ! _ ((tt, tt), ((tt, record { fits = fits }), tt)) $
        move ! (span 12 3) $ open_ref ! tt (mem S.R) {x = h} {b = b} {o = o} $ move ! (span 4 12) $
        -- [_0; ..; _10; the frame; the store; the open borrow; obs; auth; ..]
        move ! used $ begins-alike S k names ! full_share h (Φ h n 8 h) width (record { here = λ _ _. tt; test = λ _. tt; index = λ _. tt; scaled = λ _. tt; array = λ _ _. tt; element = λ _ _. tt; mark = λ _. tt }) fits (λ w all l. past h w n all l) (λ off. shut h n off)
        (λ Q e same. move ! (back used 13) $ answers ! (Post S.R 𝓛 Φ κ q b o γ h n) (of_opd ! (lit ! tt)) (init ! 0 refl (tt, record { fits = lit< tt })) (look ! 0 refl) e $ ends S.R 𝓛 Φ κ q b o γ h n _ (some _ ∷ some _ ∷ some _ ∷ []) 8 (lit< tt) h same)
        (λ lt on. move ! (11 ∷ 6 ∷ 9 ∷ []) $ renews ! (fm_of 𝓤 H 𝓛.laws 𝓣) S.P S.part X known S.R h (S.put h n X) (S.get h n) b o (n * S.width + (o + 0)) (changes S 𝓛 full_share h n b o lt X) (λ v typed. typed) (λ v. from ! (hop ! (look ! 1 refl) (stop !))) $
        move ! (back (11 ∷ 6 ∷ 9 ∷ []) 12) $ move ! (back used 13) $ answers ! (Post S.R 𝓛 Φ κ q b o γ h n) (of_opd ! (lit ! tt)) (init ! 0 refl (tt, record { fits = lit< tt })) (look ! 0 refl) refl $
        ends S.R 𝓛 Φ κ q b o γ h n _ (some _ ∷ some _ ∷ some _ ∷ some _ ∷ []) 0 (lit< tt) (S.put h n X) (anew h n lt on)))

    pub replaces : Met S.R 𝓛 Φ 𝓣 shape
    replaces = meets S.R 𝓛 Φ 𝓣 shape walk
