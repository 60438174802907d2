-- How a call on a slot begins: `if 8 <= n { away } let here = &r.0[n as usize]; if here.mark != 1 { away }`, over any store, whatever the numbers of the locals and whatever comes after.
--     finds            the code
--     Before, After    what stands at the head of the context: the locals it uses, and the store; `here` then points to element n
--     begins           its walk: either `away` is reached with the locals as they were, or the rest, where element n is there and its mark is 1
-- Assumes `Logic`.
use mathlib.Core.Path.{◌≡◌, refl}
use mathlib.Core.Bool.{Bool, not}
use Prim.Native.Nat.{ℕ, ◌+◌, ◌*◌, ◌≤◌, ◌<◌, ◌^◌}
use mathlib.Core.List.{[], ◌∷◌, List}
use lib.Dec.{T, eqb, leb→le, nleb→lt}
use seplogic.Ra.Ura.{Ura}
use base.Fraction.{full_share}
use mir.Syntax.{w8, w64, unsigned, Opd as Operand, int, copy, rv_opd, op2, addr_of, le, ne, mul, offset, place, deref, field, Body, seq, skip, cond, assign}
use mir.Val.{Val, vbool, vint, vptr, has_ty}
use base.Fml.{Share, fat, froom}
use prog.Wp.{Heap, Env, spot_of, Calls, Loops, returns as returnsᴼ}
use types.Logic.{Logic}
use types.Kit.{Item, Post, post, runs, Seq, ‵, ◌$◌}
use types.Run.{Opd, look, init, store, forget, stop, hop, fld, from, load, lit, addr, of_opd, bin}
use denote.Laws.{Is}
use denote.Memory.{part_at, lone}
use denote.Plain.{uint_Tells}
use denote.Builtin.{u8}
use Rattle.places.proofs.Within.{itself}
use Rattle.places.proofs.Places.{look-part, know-part, var, sets, early}
use Rattle.places.proofs.Store.{Store, part-seen}

-- the locals' numbers
pub record Names : Type 0 where
  pub here : ℕ
  pub test : ℕ
  pub index : ℕ
  pub scaled : ℕ
  pub array : ℕ
  pub element : ℕ
  pub mark : ℕ

module _ (S : Store) (k : Operand) (N : Names) where
  abbrev pub finds : (away away' rest : Body) → Body
  finds away away' rest =
      seq (assign (place N.test []) (op2 (le unsigned) (int w64 8) (copy (place 2 []))))
      (seq (cond (copy (place N.test [])) away skip)
      (seq (assign (place N.index []) (rv_opd (copy (place 2 []))))
      (seq (assign (place N.scaled []) (op2 (mul unsigned) (copy (place N.index [])) k))
      (seq (assign (place N.array []) (addr_of (place 1 (deref (lone S.R.mir) ∷ field 0 ∷ []))))
      (seq (assign (place N.element []) (op2 offset (copy (place N.array [])) (copy (place N.scaled []))))
      (seq (assign (place N.here []) (addr_of (place N.element (deref (lone S.P.mir) ∷ []))))
      (seq (assign (place N.mark []) (rv_opd (copy (place N.here (deref (lone S.P.mir) ∷ S.mark.path [])))))
      (seq (assign (place N.test []) (op2 ne (copy (place N.mark [])) (int w8 1)))
      (seq (cond (copy (place N.test [])) away' skip)
      rest)))))))))

  -- what its locals can hold
  pub record Roomy {M : Type 1} (𝓤 : Ura M) (H : Heap 𝓤) (E : Env 𝓤 H) : Type 0 where
    pub here : (b o : ℕ) → T (has_ty (spot_of 𝓤 H E N.here).0 (vptr b o))
    pub test : (y : Bool) → T (has_ty (spot_of 𝓤 H E N.test).0 (vbool y))
    pub index : (n : ℕ) → T (has_ty (spot_of 𝓤 H E N.index).0 (vint w64 n))
    pub scaled : (n : ℕ) → T (has_ty (spot_of 𝓤 H E N.scaled).0 (vint w64 n))
    pub array : (b o : ℕ) → T (has_ty (spot_of 𝓤 H E N.array).0 (vptr b o))
    pub element : (b o : ℕ) → T (has_ty (spot_of 𝓤 H E N.element).0 (vptr b o))
    pub mark : (n : ℕ) → T (has_ty (spot_of 𝓤 H E N.mark).0 (vint w8 n))

  module _ {M : Type 1} (𝓤 : Ura M) (H : Heap 𝓤) (E : Env 𝓤 H) (q : Share) (h : S.R.Denot) (n b o : ℕ) (Γ : List (Item 𝓤)) where
    abbrev free : ℕ → Item 𝓤
    free i = ‵ (froom (spot_of 𝓤 H E i).0 (spot_of 𝓤 H E i).1 0)

    abbrev set : ℕ → Val → Item 𝓤
    set i v = ‵ (fat full_share (spot_of 𝓤 H E i).0 (spot_of 𝓤 H E i).1 0 v)

    abbrev With : Item 𝓤 → List (Item 𝓤)
    With here = free N.test ∷ free N.index ∷ free N.scaled ∷ free N.array ∷ free N.element ∷ free N.mark ∷ here ∷ set 2 (vint w64 n) ∷ set 1 (vptr b o) ∷ ‵ (part_at S.R q h b o) ∷ Γ

    abbrev pub Before : List (Item 𝓤)
    Before = With (free N.here)

    abbrev pub After : List (Item 𝓤)
    After = With (set N.here (vptr b (n * S.width + (o + 0))))

  module _ {M : Type 1} {𝓤 : Ura M} {𝓛 : Logic 𝓤} {K : Type 0} where
    open 𝓛 use {H}

    pub begins : K → (q : Share) (h : S.R.Denot) {C : Calls 𝓤 H} {Λ : Loops 𝓤 H} {E : Env 𝓤 H} {n b o : ℕ} {Γ : List (Item 𝓤)} {Q : Post 𝓤 H} {away away' rest : Body}
        → ((Γ : List (Item 𝓤)) (E : Env 𝓤 H) → Opd K 𝓛 Γ E k (vint w64 S.width)) → Roomy 𝓤 H E → n < 2 ^ 64
        → ((Q' : Post 𝓤 H) → post 𝓤 H Q' returnsᴼ ≡ post 𝓤 H Q returnsᴼ → (w : Val) → Is S.R h (w ∷ []) → 8 ≤ n → Seq K 𝓛 (Before 𝓤 H E q h n b o Γ) (runs C Λ E away Q'))
        → ((Q' : Post 𝓤 H) → post 𝓤 H Q' returnsᴼ ≡ post 𝓤 H Q returnsᴼ → T (not (eqb (S.mark.get (S.get h n)) 1)) → Seq K 𝓛 (Before 𝓤 H E q h n b o Γ) (runs C Λ E away' Q'))
        → (n < 8 → T (not (not (eqb (S.mark.get (S.get h n)) 1))) → Seq K 𝓛 (After 𝓤 H E q h n b o Γ) (runs C Λ E rest Q))
        → Seq K 𝓛 (Before 𝓤 H E q h n b o Γ) (runs C Λ E (finds away away' rest) Q)
    begins t q h {E = E} {n} {b} {o} width ok n-fits past shut on = let p : ℕ = n * S.width + (o + 0) in let m : ℕ = S.mark.get (S.get h n) in
        know-part t 9 q S.R S.R h h b o o S.all.one refl (itself 𝓛 q S.R h h b o) (λ w all.
        sets t (bin t (lit t tt) (var t 7 refl) tt) (init t 0 refl (ok.test _, tt)) $ early t (var t 0 refl) (λ big. forget t 0 refl $ past _ refl w all (leb→le 8 n big)) (λ small. let lt : n < 8 = nleb→lt 8 n small in
        sets t (of_opd t (var t 7 refl)) (init t 1 refl (ok.index n, record { fits = n-fits })) $
        sets t (bin t (var t 1 refl) (width _ _) (record { fits = S.near n lt })) (init t 2 refl (ok.scaled _, record { fits = S.near n lt })) $
        sets t (addr t (from t (hop t (look t 8 refl) (fld t S.array (stop t))))) (init t 3 refl (ok.array b (o + 0), tt)) $
        sets t (bin t (var t 3 refl) (var t 2 refl) tt) (init t 4 refl (ok.element b p, tt)) $
        sets t (addr t (from t (hop t (look t 4 refl) (stop t)))) (init t 6 refl (ok.here b p, tt)) $
        let part = part-seen S 𝓛 q h n b o lt S.mark in
        know-part t 9 q S.R u8 h m b o (S.mark.shift p) refl refl part (λ _ byte.
        sets t (of_opd t (load t (from t (hop t (look t 6 refl) (S.mark.found t 𝓛 _ E b p [] _ (stop t)))) (look-part t 9 q S.R u8 h m b o (S.mark.shift p) refl (vint w8) (uint_Tells w8) refl part))) (init t 5 refl (ok.mark m, record { fits = byte.1 })) $
        sets t (bin t (var t 5 refl) (lit t tt) tt) (store t 0 refl (ok.test _, tt)) $ early t (var t 0 refl)
        (λ off. forget t 0 refl $ forget t 1 refl $ forget t 2 refl $ forget t 3 refl $ forget t 4 refl $ forget t 5 refl $ forget t 6 refl $ shut _ refl off)
        (λ is. forget t 0 refl $ forget t 1 refl $ forget t 2 refl $ forget t 3 refl $ forget t 4 refl $ forget t 5 refl $ on lt is))))

    -- the same where both ways away are the same, by what both show
    pub begins-alike : K → (q : Share) (h : S.R.Denot) (No : Type 0) {C : Calls 𝓤 H} {Λ : Loops 𝓤 H} {E : Env 𝓤 H} {n b o : ℕ} {Γ : List (Item 𝓤)} {Q : Post 𝓤 H} {away rest : Body}
        → ((Γ : List (Item 𝓤)) (E : Env 𝓤 H) → Opd K 𝓛 Γ E k (vint w64 S.width)) → Roomy 𝓤 H E → n < 2 ^ 64 → ((w : Val) → Is S.R h (w ∷ []) → 8 ≤ n → No) → (T (not (eqb (S.mark.get (S.get h n)) 1)) → No)
        → ((Q' : Post 𝓤 H) → post 𝓤 H Q' returnsᴼ ≡ post 𝓤 H Q returnsᴼ → No → Seq K 𝓛 (Before 𝓤 H E q h n b o Γ) (runs C Λ E away Q'))
        → (n < 8 → T (not (not (eqb (S.mark.get (S.get h n)) 1))) → Seq K 𝓛 (After 𝓤 H E q h n b o Γ) (runs C Λ E rest Q))
        → Seq K 𝓛 (Before 𝓤 H E q h n b o Γ) (runs C Λ E (finds away away rest) Q)
    begins-alike t q h No width ok n-fits past shut none on = begins t q h width ok n-fits (λ Q e w all l. none Q e (past w all l)) (λ Q e off. none Q e (shut off)) on
