-- `let mut i = 0; while i < 8 { r.0[i] = g(); i = i + 1; }`, over any store: every element is made anew, and one lies on the stack. `Anew i t` is what is known of the store t when the first i are.
-- Assumes `Logic`.
use mathlib.Core.Path.{◌≡◌, refl, sym, subst}
use mathlib.Core.Option.{none, some}
use mathlib.Core.WellFounded.InvImage
use mathlib.Core.WellFounded.{WellFounded}
use Prim.Native.Nat.{ℕ, ◌+◌, ◌-◌, ◌*◌, ◌≤◌, ◌<◌, ◌^◌, zero-le}
use native.Mathlib.Nat.{le_antisymm, lt_of_le_of_lt}
use native.Mathlib.Numerals.{add-one-le, add-one-dec}
use mathlib.Core.List.{[], ◌∷◌, List}
use lib.Dec.{ltb→lt, nltb→le, lit<}
use lib.WfN.{lt-wf_rel}
use seplogic.Ra.Ura.{Ura}
use base.Fraction.{full_share}
use mir.Syntax.{Callee, Body, named, mut, w64, ty_unit, ty_int, ty_bool, ty_ptr, ty_ref, unsigned, Opd as Operand, int, opd_unit, copy, rv_opd, op2, addr_of, add, lt, mul, offset, place, deref, field, seq, skip, cond, block, loop, exit, assign, call, return, value_local, local, Fn}
use mir.Val.{Val, vunit, vint, vptr}
use base.Logic.{SProp}
use base.Fml.{GName, Lft, Share}
use prog.Wp.{Env, Out, Tables, Wp, WpFn, after_seq, after_block, after_turn, at_return}
use types.Logic.{Logic}
use types.Kit.{Item, Go, runs, any_q, at_ret, prop, Sq, raw, ◌$◌, !, move, drop, use0}
use types.Run.{Opd, look, init, store, forget, stop, hop, fld, from, lit, unit_lit, addr, of_opd, bin, no_more, assigns, assigns_last, first, branches, skips, jumps, blocks, land, enter, params1, exec, Below, again, loops}
use types.Mut.{open_ref}
use sound.WpLaws.{fm_of}
use denote.Laws.{Is}
use denote.Memory.{mem, lone, pointee}
use denote.Plain.{Nothing-Makes}
use denote.Builtin.{unit}
use denote.Steps.{heard}
use denote.Triple.Spec.{Meets}
use denote.Triple.Statement.{Triple}
use denote.Triple.Clauses.{closing}
use borrow.Fn.Frame.{EnvOf}
use Rattle.places.proofs.Within.{itself}
use Rattle.places.proofs.Frame.{tys, locals, allots, passing}
use Rattle.places.proofs.Places.{span, know-part, store-part, var, sets, calls-fn, answers}
use Rattle.places.proofs.Entry as entry
use Rattle.places.proofs.Numbered.{maker, makes, Made, asks}
use Rattle.places.proofs.Store.{Store, changes}

module _ (S : Store) (k : Operand) (g : Callee) where
  abbrev more : Body
  more =
      seq (call g [] (place 4 []))
      (seq (assign (place 5 []) (op2 (mul unsigned) (copy (place 2 [])) k))
      (seq (assign (place 6 []) (addr_of (place 1 (deref (lone S.R.mir) ∷ field 0 ∷ []))))
      (seq (assign (place 7 []) (op2 offset (copy (place 6 [])) (copy (place 5 []))))
      (seq (assign (place 7 (deref (lone S.P.mir) ∷ [])) (rv_opd (copy (place 4 []))))
      (assign (place 2 []) (op2 (add unsigned) (copy (place 2 [])) (int w64 1)))))))

  abbrev turn : Body
  turn = seq (assign (place 3 []) (op2 (lt unsigned) (copy (place 2 [])) (int w64 8))) (seq (cond (copy (place 3 [])) skip (exit 1)) more)

  abbrev rest : Body
  rest = seq (assign (place 0 []) (rv_opd opd_unit)) return

  abbrev pub shape : Fn
  shape = record {
    lifetimes = 1;
    outlives = [];
    ty_params = [];
    givens = 0;
    params = 1;
    locals =
        local ty_unit value_local
        ∷ local (ty_ref (named 0) mut (pointee S.R.written)) value_local
        ∷ local (ty_int w64) value_local
        ∷ local ty_bool value_local
        ∷ local (lone S.P.mir) value_local
        ∷ local (ty_int w64) value_local
        ∷ local ty_ptr value_local
        ∷ local ty_ptr value_local
        ∷ [];
    body = seq (assign (place 2 []) (rv_opd (int w64 0))) (seq (block (loop turn)) rest);
  }

  -- the lent value at entry and at exit
  abbrev pub Claim : Type 1
  Claim = S.R.Denot → S.R.Denot → Type 0

  abbrev claim : Claim → entry.Claim S.R 0 [] tt unit
  claim Φ κs h a r t = Φ h t

  module _ {M : Type 1} {𝓤 : Ura M} (𝓛 : Logic 𝓤) (width : (Γ : List (Item 𝓤)) (E : Env 𝓤 𝓛.H) → Opd Go 𝓛 Γ E k (vint w64 S.width)) (Φ : Claim) (X : S.P.Denot) (Anew : ℕ → S.R.Denot → Type 0)
      (none_yet : (h : S.R.Denot) (w : Val) → Is S.R h (w ∷ []) → Anew 0 h) (one_more : (i : ℕ) (t : S.R.Denot) → i < 8 → Anew i t → Anew (i + 1) (S.put t i X)) (all-now : (h t : S.R.Denot) → Anew 8 t → Φ h t)
      (𝓣 : Tables 𝓤 𝓛.H) (known : Triple 𝓤 (𝓣.C g) (Made S.P 𝓛 X)) where
    -- how far it is: i elements, and the store
    open 𝓛 use {H}

    abbrev Upto : Type 0
    Upto = (i : ℕ) × (i ≤ 8) × (t : S.R.Denot) × Anew i t

    abbrev Nearer : Upto → Upto → Type 0
    Nearer v u = 8 - v.0 < 8 - u.0

    Nearer-wf : WellFounded Nearer
    Nearer-wf = InvImage.wf (λ (u : Upto). 8 - u.0) lt-wf_rel.wf

    module _ (κ : Lft) (q : Share) (b o : ℕ) (γ : GName) (h : S.R.Denot) (bs : List ℕ) where
      abbrev E : Env 𝓤 H
      E = EnvOf 𝓛 (tys shape.locals) bs

      abbrev Post : Val → SProp 𝓤
      Post = entry.Post S.R 0 [] tt unit 𝓛 (claim Φ) (κ, tt) (q, tt) b o γ h tt tt

      -- [_0; ..; _7; the frame; the store; the open borrow; obs; auth; ..]
      abbrev At : Upto → List (Item 𝓤)
      At u = locals 𝓤 E (none ∷ some (vptr b o) ∷ some (vint w64 u.0) ∷ []) (entry.Open S.R 0 [] tt unit 𝓛 (claim Φ) (κ, tt) (q, tt) b o γ h tt tt u.2)

      abbrev Turned : Upto → Out → SProp 𝓤
      Turned u = after_turn 𝓤 H (Below 𝓛 Nearer At u) (after_block 𝓤 H (after_seq 𝓤 H (Wp 𝓤 H 𝓣.C 𝓣.Λ E rest (at_return 𝓤 H E Post)) (at_return 𝓤 H E Post)))

      turns : (u : Upto) → Sq 𝓛 (At u) (runs 𝓣.C 𝓣.Λ E turn (any_q (Turned u)))
      unfolding after_turn
      turns u = let i : ℕ = u.0 in let t : S.R.Denot = u.2 in
          sets ! (bin ! (var ! 2 refl) (lit ! tt) tt) (init ! 3 refl (tt, tt)) $ first ! $ branches ! (var ! 3 refl)
          (λ less. let l : i < 8 = ltb→lt i 8 less in let fits : i + 1 < 2 ^ 64 = lt_of_le_of_lt (add-one-le l) (lit< tt) in
          skips ! $ exec ! 𝓣.C 𝓣.Λ E more (any_q (Turned u)) $
          use0 𝓛 (raw ((Made S.P 𝓛 X).pre ((tt, tt, tt, tt, tt), tt))) (asks S.P 𝓛 X) $ calls-fn ! (fm_of 𝓤 H 𝓛.laws 𝓣) (maker S.P) (makes S.P 𝓤 X) known ((tt, tt, tt, tt, tt), tt) S.part.val S.part.tells (no_more !) (λ x _ is.
          heard ! (x ≡ X) (λ e. drop ! $ drop ! $ land ! (from ! (stop !)) (init ! 4 refl (S.part.typed 𝓛 x _ is)) $
          sets ! (bin ! (var ! 2 refl) (width _ _) (record { fits = S.near i l })) (init ! 5 refl (tt, record { fits = S.near i l })) $
          sets ! (addr ! (from ! (hop ! (look ! 1 refl) (fld ! S.array (stop !))))) (init ! 6 refl (tt, tt)) $
          sets ! (bin ! (var ! 6 refl) (var ! 5 refl) tt) (init ! 7 refl (tt, tt)) $
          assigns ! (of_opd ! (var ! 4 refl)) (from ! (hop ! (look ! 7 refl) (stop !)))
          (store-part ! 9 S.R S.P t (S.put t i x) (S.get t i) x b o (i * S.width + (o + 0)) S.part.one _ (S.part.typed 𝓛 x _ is) (S.part.makes 𝓛 x _ is) refl (changes S 𝓛 full_share t i b o l x)) $
          assigns_last ! (bin ! (var ! 2 refl) (lit ! tt) (record { fits = fits })) (from ! (stop !)) (store ! 2 refl (tt, record { fits = fits })) $
          forget ! 3 refl $ forget ! 4 refl $ forget ! 5 refl $ forget ! 6 refl $ forget ! 7 refl $
          again ! Nearer At u (i + 1, add-one-le l, S.put t i x, subst (λ (y : S.P.Denot). Anew (i + 1) (S.put t i y)) (sym e) (one_more i t l u.3)) (add-one-dec 8 i l))))
          (λ over. jumps ! $ exec ! 𝓣.C 𝓣.Λ E rest (at_ret E Post) $ answers ! Post (of_opd ! (unit_lit !)) (init ! 0 refl (tt, tt)) (look ! 0 refl) refl $
          entry.ends S.R 0 [] tt unit 𝓛 (claim Φ) (κ, tt) (q, tt) b o γ h tt tt E (some _ ∷ some _ ∷ some _ ∷ some _ ∷ []) vunit tt (Nothing-Makes 𝓛 tt (vunit ∷ []) refl) t tt
          (all-now h t (subst (λ (j : ℕ). Anew j t) (le_antisymm u.1 (nltb→le i 8 over)) u.3)))

    walk : (κ : Lft) (q : Share) (b o : ℕ) (γ : GName) (h : S.R.Denot)
        → Sq 𝓛 (entry.Shut S.R 0 [] tt unit 𝓛 (claim Φ) (κ, tt) (q, tt) b o γ h tt tt) (prop (WpFn 𝓤 H 𝓣.C 𝓣.Λ shape (vptr b o ∷ []) (Post κ q b o γ h [])))
    walk κ q b o γ h =
        enter ! 𝓣.C 𝓣.Λ shape (vptr b o ∷ []) _ $ allots ! (λ bs. params1 ! $ passing ! _ ((tt, tt), tt) $
        move ! (span 9 3) $ open_ref ! tt (mem S.R) {x = h} {b = b} {o = o} $ move ! (span 4 9) $
        know-part ! 9 full_share S.R S.R h h b o o S.all.one refl (itself 𝓛 full_share S.R h h b o) (λ w is.
        sets ! (of_opd ! (lit ! tt)) (init ! 2 refl (tt, record { fits = lit< tt })) $ first ! $ blocks ! $ loops ! 𝓣 Nearer Nearer-wf (At κ q b o γ h bs) (turns κ q b o γ h bs) (0, zero-le, h, none_yet h w is)))

    abbrev pub Met : Type 1
    Met = Meets 𝓛 (entry.ended S.R 0 [] tt unit).signature (WpFn 𝓤 H 𝓣.C 𝓣.Λ shape) (closing 𝓛 (entry.ended S.R 0 [] tt unit) (entry.Said S.R 0 [] tt unit 𝓤 (claim Φ)))

    pub starts : Met
    starts = entry.meets S.R 0 [] tt unit 𝓛 (claim Φ) 𝓣 shape tt (λ κs. tt) (λ κs. tt) (λ κs qs b o γ h a are. drop ! $ walk κs.0 qs.0 b o γ h)
