-- `if 8 <= n { return 8; } r.0[n as usize] = g(); 0`, over any store: opening a slot.
-- Assumes `Logic`.
use mathlib.Core.Path.{◌≡◌, refl, sym, subst}
use mathlib.Core.Option.{some}
use Prim.Native.Nat.{ℕ, ◌+◌, ◌*◌, ◌≤◌, ◌<◌, ◌^◌}
use mathlib.Core.List.{[], ◌∷◌, List}
use lib.Dec.{lit<, leb→le, nleb→lt}
use seplogic.Ra.Ura.{Ura}
use base.Fraction.{full_share}
use mir.Syntax.{Callee, named, mut, w32, w64, ty_int, ty_bool, ty_ptr, ty_ref, unsigned, Opd as Operand, int, copy, rv_opd, op2, addr_of, le, mul, offset, place, deref, field, seq, skip, cond, assign, call, return, value_local, local, Fn}
use mir.Val.{vint, vptr}
use base.Fml.{GName, Lft, Share}
use prog.Wp.{Env, Tables, WpFn}
use types.Logic.{Logic}
use types.Kit.{Item, Go, prop, Sq, raw, ◌$◌, !, move, drop, use0}
use types.Run.{Opd, look, init, stop, hop, fld, from, lit, addr, of_opd, bin, no_more, assigns, land, enter, params1}
use types.Mut.{open_ref}
use sound.WpLaws.{fm_of}
use denote.Memory.{mem, lone, pointee}
use denote.Steps.{heard}
use denote.Triple.Statement.{Triple}
use Rattle.places.proofs.Frame.{allots, passing}
use Rattle.places.proofs.Places.{span, store-part, var, sets, calls-fn, early, answers}
use Rattle.places.proofs.Numbered.{Claim, Post, Shut, ends, Met, meets, maker, makes, Made, asks}
use Rattle.places.proofs.Store.{Store, changes}

-- k is the constant that is an element's width, and g the function that makes the new element
module _ (S : Store) (k : Operand) (g : Callee) where
  abbrev pub shape : Fn
  shape = record {
    lifetimes = 1;
    outlives = [];
    ty_params = [];
    givens = 0;
    params = 2;
    locals =
        local (ty_int w32) value_local
        ∷ local (ty_ref (named 0) mut (pointee S.R.written)) value_local
        ∷ local (ty_int w64) value_local
        ∷ local ty_bool value_local
        ∷ local (lone S.P.mir) value_local
        ∷ local (ty_int w64) value_local
        ∷ local (ty_int w64) value_local
        ∷ local ty_ptr value_local
        ∷ local ty_ptr value_local
        ∷ [];
    body =
        seq (assign (place 3 []) (op2 (le unsigned) (int w64 8) (copy (place 2 []))))
        (seq (cond (copy (place 3 [])) (seq (assign (place 0 []) (rv_opd (int w32 8))) return) skip)
        (seq (call g [] (place 4 []))
        (seq (assign (place 5 []) (rv_opd (copy (place 2 []))))
        (seq (assign (place 6 []) (op2 (mul unsigned) (copy (place 5 [])) k))
        (seq (assign (place 7 []) (addr_of (place 1 (deref (lone S.R.mir) ∷ field 0 ∷ []))))
        (seq (assign (place 8 []) (op2 offset (copy (place 7 [])) (copy (place 6 []))))
        (seq (assign (place 8 (deref (lone S.P.mir) ∷ [])) (rv_opd (copy (place 4 []))))
        (seq (assign (place 0 []) (rv_opd (int w32 0)))
        return))))))));
  }

  module _ {M : Type 1} {𝓤 : Ura M} (𝓛 : Logic 𝓤) (width : (Γ : List (Item 𝓤)) (E : Env 𝓤 𝓛.H) → Opd Go 𝓛 Γ E k (vint w64 S.width)) (Φ : Claim S.R) (X : S.P.Denot)
      (past : (h : S.R.Denot) (n : ℕ) → 8 ≤ n → Φ h n 8 h) (anew : (h : S.R.Denot) (n : ℕ) → n < 8 → Φ h n 0 (S.put h n X))
      (𝓣 : Tables 𝓤 𝓛.H) (known : Triple 𝓤 (𝓣.C g) (Made S.P 𝓛 X)) where
    open 𝓛 use {H}

    walk : (κ : Lft) (q : Share) (b o : ℕ) (γ : GName) (h : S.R.Denot) (n : ℕ) → n < 2 ^ 64
        → Sq 𝓛 (Shut S.R 𝓛 Φ κ q b o γ h n) (prop (WpFn 𝓤 H 𝓣.C 𝓣.Λ shape (vptr b o ∷ vint w64 n ∷ []) (Post S.R 𝓛 Φ κ q b o γ h n)))
    walk κ q b o γ h n fits =
        enter ! 𝓣.C 𝓣.Λ shape (vptr b o ∷ vint w64 n ∷ []) _ $ allots ! (λ bs. params1 ! $ passing ! _ ((tt, tt), ((tt, record { fits = fits }), tt)) $
        move ! (span 10 3) $ open_ref ! tt (mem S.R) {x = h} {b = b} {o = o} $ move ! (span 4 10) $
        -- [_0; ..; _8; the frame; the store; the open borrow; obs; auth; ..]
        sets ! (bin ! (lit ! tt) (var ! 2 refl) tt) (init ! 3 refl (tt, tt)) $ early ! (var ! 3 refl)
        (λ big. answers ! (Post S.R 𝓛 Φ κ q b o γ h n) (of_opd ! (lit ! tt)) (init ! 0 refl (tt, record { fits = lit< tt })) (look ! 0 refl) refl $
        ends S.R 𝓛 Φ κ q b o γ h n _ (some _ ∷ some _ ∷ some _ ∷ some _ ∷ []) 8 (lit< tt) h (past h n (leb→le 8 n big)))
        (λ small. let lt : n < 8 = nleb→lt 8 n small in
        use0 𝓛 (raw ((Made S.P 𝓛 X).pre ((tt, tt, tt, tt, tt), tt))) (asks S.P 𝓛 X) $ calls-fn ! (fm_of 𝓤 H 𝓛.laws 𝓣) (maker S.P) (makes S.P 𝓤 X) known ((tt, tt, tt, tt, tt), tt) S.part.val S.part.tells (no_more !) (λ x _ is.
        heard ! (x ≡ X) (λ e. drop ! $ drop ! $ land ! (from ! (stop !)) (init ! 4 refl (S.part.typed 𝓛 x _ is)) $
        sets ! (of_opd ! (var ! 2 refl)) (init ! 5 refl (tt, record { fits = fits })) $
        sets ! (bin ! (var ! 5 refl) (width _ _) (record { fits = S.near n lt })) (init ! 6 refl (tt, record { fits = S.near n lt })) $
        sets ! (addr ! (from ! (hop ! (look ! 1 refl) (fld ! S.array (stop !))))) (init ! 7 refl (tt, tt)) $
        sets ! (bin ! (var ! 7 refl) (var ! 6 refl) tt) (init ! 8 refl (tt, tt)) $
        assigns ! (of_opd ! (var ! 4 refl)) (from ! (hop ! (look ! 8 refl) (stop !)))
        (store-part ! 10 S.R S.P h (S.put h n x) (S.get h n) x b o (n * S.width + (o + 0)) S.part.one _ (S.part.typed 𝓛 x _ is) (S.part.makes 𝓛 x _ is) refl (changes S 𝓛 full_share h n b o lt x)) $
        answers ! (Post S.R 𝓛 Φ κ q b o γ h n) (of_opd ! (lit ! tt)) (init ! 0 refl (tt, record { fits = lit< tt })) (look ! 0 refl) refl $
        ends S.R 𝓛 Φ κ q b o γ h n _ (some _ ∷ some _ ∷ some _ ∷ some _ ∷ some _ ∷ some _ ∷ some _ ∷ some _ ∷ some _ ∷ []) 0 (lit< tt) (S.put h n x) (subst (λ (y : S.P.Denot). Φ h n 0 (S.put h n y)) (sym e) (anew h n lt))))))

    pub opens : Met S.R 𝓛 Φ 𝓣 shape
    opens = meets S.R 𝓛 Φ 𝓣 shape walk
