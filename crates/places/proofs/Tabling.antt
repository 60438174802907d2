-- `if 8 <= n { return no; } let here = &r.0[n as usize]; if here.0 != 1 { return no; } g(here.i, lent)`, over any store behind a `&` and any answer; `no` is two numbers, 8 and 0. The table of a slot.
-- Assumes `Logic`.
use mathlib.Core.Path.{refl, subst}
use mathlib.Core.Bool.{not}
use mathlib.Core.Option.{none, some}
use Prim.Native.Nat.{ℕ, ◌+◌, ◌*◌, ◌≤◌, ◌<◌, ◌^◌}
use mathlib.Core.List.{[], ◌∷◌, List}
use lib.Dec.{T, eqb}
use seplogic.Ra.Ura.{Ura}
use mir.Syntax.{Callee, Body, named, erased, mut, imm, w8, w32, w64, ty_int, ty_bool, ty_ptr, ty_ref, Opd as Operand, int, copy, rv_opd, addr_of, aggregate, place, deref, field, seq, assign, call, return, value_local, local, Fn}
use mir.Val.{Val, vint, vptr, vstruct, vcons, vnil}
use base.Fml.{Lft, Share}
use prog.Wp.{Env, Tables, WpFn}
use types.Logic.{Logic}
use types.Kit.{Item, Go, prop, Sq, ‵, raw, ◌$◌, !, move, drop, use1, use2, fsplit, fjoin, feq_l}
use types.Run.{Opd, look, init, stop, hop, fld, from, load, lit, addr, of_opd, and_then, no_more, land, returns, enter, params1}
use types.Part.{agg, whole, sub, look_in}
use sound.WpLaws.{fm_of}
use denote.RattleType.{RattleType}
use denote.Laws.{Is}
use denote.Memory.{lone, pointee, part_at, shared_of}
use denote.Opens.{shr_open}
use denote.Builtin.{u64}
use denote.Ref.{MutBor}
use denote.Slice.{slice_ty, mut_slice_vals, MutSlice, mut_slice_Lawful}
use denote.Steps.{heard}
use denote.Triple.Statement.{Triple}
use Rattle.places.proofs.Frame.{allots, passing}
use Rattle.places.proofs.Places.{span, back, look-part, know-part, var, var-field, sets, calls-fn, answers}
use Rattle.places.proofs.Lending.{Claim, Post, Shut, ends, Met, meets, handed, unwritten, writer, writes, Writes, to, asks}
use Rattle.places.proofs.Store.{Data, Store, Seen, part-seen}
use Rattle.places.proofs.Finding.{Names, finds, begins-alike}

abbrev names : Names
names = record { here = 4; test = 5; index = 6; scaled = 7; array = 8; element = 9; mark = 10 }

abbrev away : Body
away = seq (assign (place 0 []) (aggregate (int w32 8 ∷ int w32 0 ∷ []))) return

-- to the front: what `Finding` uses
abbrev used : List ℕ
used = 5 ∷ 6 ∷ 7 ∷ 8 ∷ 9 ∷ 10 ∷ 4 ∷ 2 ∷ 1 ∷ 15 ∷ []

module _ (S : Store) (Q : RattleType) (DQ : Data Q) (K : Seen S.P Q) (Y : RattleType) (D : Data Y) (k : Operand) (g : Callee) where
  abbrev pub shape : Fn
  shape = record {
    lifetimes = 2;
    outlives = [];
    ty_params = [];
    givens = 0;
    params = 3;
    locals =
        local (lone Y.mir) value_local
        ∷ local (ty_ref (named 0) imm (pointee S.R.written)) value_local
        ∷ local (ty_int w64) value_local
        ∷ local (slice_ty (ty_ref (named 1) mut (ty_int w64))) value_local
        ∷ local (ty_ref erased imm (pointee S.P.written)) value_local
        ∷ local ty_bool value_local
        ∷ local (ty_int w64) value_local
        ∷ local (ty_int w64) value_local
        ∷ local ty_ptr value_local
        ∷ local ty_ptr value_local
        ∷ local (ty_int w8) value_local
        ∷ local (lone Q.mir) value_local
        ∷ local (ty_ref erased mut (ty_int w64)) value_local
        ∷ local (slice_ty (ty_ref erased mut (ty_int w64))) value_local
        ∷ [];
    body =
        finds S k names away away
        (seq (assign (place 11 []) (rv_opd (copy (place 4 (deref (lone S.P.mir) ∷ K.path [])))))
        (seq (assign (place 12 []) (addr_of (place 3 (field 0 ∷ deref (ty_int w64) ∷ []))))
        (seq (assign (place 13 []) (aggregate (copy (place 12 []) ∷ copy (place 3 (field 1 ∷ [])) ∷ [])))
        (seq (call g (copy (place 11 []) ∷ copy (place 13 []) ∷ []) (place 0 []))
        return))));
  }

  module _ {M : Type 1} {𝓤 : Ura M} (𝓛 : Logic 𝓤) (width : (Γ : List (Item 𝓤)) (E : Env 𝓤 𝓛.H) → Opd Go 𝓛 Γ E k (vint w64 S.width)) (Φ : Claim S.R Y) (Ψ : Q.Denot → List ℕ → Y.Denot → List ℕ → Type 0)
      (no : Y.Denot) (is-no : Is Y no (vstruct (vcons (vint w32 8) (vcons (vint w32 0) vnil)) ∷ []))
      (past : (h : S.R.Denot) (w : Val) (n : ℕ) (lent : List ℕ) → Is S.R h (w ∷ []) → 8 ≤ n → Φ h n lent no lent)
      (shut : (h : S.R.Denot) (n : ℕ) (lent : List ℕ) → T (not (eqb (S.mark.get (S.get h n)) 1)) → Φ h n lent no lent)
      (given : (h : S.R.Denot) (n : ℕ) (lent : List ℕ) (r : Y.Denot) (ys : List ℕ) → n < 8 → T (not (not (eqb (S.mark.get (S.get h n)) 1))) → Ψ (K.get (S.get h n)) lent r ys → Φ h n lent r ys)
      (𝓣 : Tables 𝓤 𝓛.H) (known : Triple 𝓤 (𝓣.C g) (Writes Q Y 𝓛 Ψ)) where
    open 𝓛 use {H}

    walk : (κ κ' : Lft) (q q' : Share) (b o : ℕ) (h : S.R.Denot) (n : ℕ) (lent : MutBor (List ℕ)) → n < 2 ^ 64 → Is (MutSlice (named 1) κ' u64) lent (mut_slice_vals lent)
        → Sq 𝓛 (Shut S.R Y 𝓛 Φ κ κ' q q' b o h n lent) (prop (WpFn 𝓤 H 𝓣.C 𝓣.Λ shape (vptr b o ∷ vint w64 n ∷ mut_slice_vals lent) (Post S.R Y 𝓛 Φ κ κ' q q' b o h n lent)))
    walk κ κ' q q' b o h n lent fits slice = let p : ℕ = n * S.width + (o + 0) in let x : Q.Denot = K.get (S.get h n) in
        enter ! 𝓣.C 𝓣.Λ shape (vptr b o ∷ vint w64 n ∷ mut_slice_vals lent) _ $ allots ! (λ bs. params1 ! $
        passing ! _ ((tt, tt), ((tt, record { fits = fits }), (((mut_slice_Lawful 𝓛 (named 1) κ' u64).typed lent _ slice).0, tt))) $
        move ! (span 15 2) $ shr_open ! tt (λ s. part_at S.R s h b o) (shared_of S.R h b o) ((S.copy 𝓛).opens h b o).0 (λ s. move ! (1 ∷ 0 ∷ []) $ move ! (span 2 15) $
        -- [_0; ..; _13; the frame; a share of the store; the open borrow; the numbers' token; the numbers]
        move ! used $ begins-alike S k names ! s h (Φ h n lent.now no lent.now) width (record { here = λ _ _. tt; test = λ _. tt; index = λ _. tt; scaled = λ _. tt; array = λ _ _. tt; element = λ _ _. tt; mark = λ _. tt }) fits
        (λ w all l. past h w n lent.now all l) (λ off. shut h n lent.now off)
        (λ Q' e refused. move ! (back used 19) $ move ! (18 ∷ []) $ use1 𝓛 (‵ (handed κ' lent lent.now)) (unwritten 𝓛 κ' lent) $ move ! (span 1 18) $
        answers ! (Post S.R Y 𝓛 Φ κ κ' q q' b o h n lent) (agg ! (and_then ! (lit ! tt) (and_then ! (lit ! tt) (no_more !)))) (init ! 0 refl (D.typed 𝓛 no _ is-no)) (look ! 0 refl) e $
        ends S.R Y 𝓛 Φ κ κ' q q' b o h n lent _ (some _ ∷ some _ ∷ some _ ∷ some _ ∷ []) s D no _ is-no lent.now refl refused)
        (λ lt on. move ! (back used 19) $ let held = part-seen S 𝓛 s h n b o lt K in
        know-part ! 15 s S.R Q h x b o (K.shift p) DQ.one refl held (λ u was. let is-was : Is Q x (DQ.val x ∷ []) = subst (Is Q x) (DQ.tells x (u ∷ []) was) was in
        sets ! (of_opd ! (load ! (from ! (hop ! (look ! 4 refl) (K.found ! 𝓛 _ _ b p [] _ (stop !)))) (look-part ! 15 s S.R Q h x b o (K.shift p) DQ.one DQ.val DQ.tells refl held))) (init ! 11 refl (DQ.typed 𝓛 x _ is-was)) $
        sets ! (addr ! (from ! (fld ! refl (hop ! (look_in ! 3 (sub ! 0 refl (whole !))) (stop !))))) (init ! 12 refl (tt, tt)) $
        sets ! (agg ! (and_then ! (var ! 12 refl) (and_then ! (var-field ! 3 1 (ty_int w64) 8 refl refl refl) (no_more !)))) (init ! 13 refl (tt, (tt, (record { fits = slice.0.1.0 }, tt)))) $
        move ! (18 ∷ 17 ∷ []) $ use2 𝓛 (raw ((Writes Q Y 𝓛 Ψ).pre (to Q Y 𝓛 Ψ DQ κ' q' x lent))) (asks Q Y 𝓛 Ψ DQ κ' q' x lent is-was) $
        calls-fn ! (fm_of 𝓤 H 𝓛.laws 𝓣) (writer Q Y) (writes Q Y 𝓤 Ψ) known (to Q Y 𝓛 Ψ DQ κ' q' x lent) D.val D.tells (and_then ! (var ! 12 refl) (and_then ! (var ! 14 refl) (no_more !))) (λ r ws is.
        heard ! (Ψ x lent.now r ws.1.0) (λ e. move ! (1 ∷ []) $ fsplit ! $ drop ! $ fsplit ! $ fsplit ! $ fsplit ! $ move ! (1 ∷ []) $ feq_l ! (λ l. move ! (2 ∷ []) $ drop ! $ fjoin ! $ move ! (1 ∷ 0 ∷ []) $ move ! (span 2 17) $
        land ! (from ! (stop !)) (init ! 0 refl (D.typed 𝓛 r _ is)) $ returns ! (look ! 0 refl) $
        ends S.R Y 𝓛 Φ κ κ' q q' b o h n lent _ (some _ ∷ some _ ∷ some _ ∷ some _ ∷ some _ ∷ none ∷ none ∷ none ∷ none ∷ none ∷ none ∷ some _ ∷ some _ ∷ some _ ∷ []) s D r _ is ws.1.0 l (given h n lent.now r ws.1.0 lt on e))))))))

    pub hands_out : Met S.R Y 𝓛 Φ 𝓣 shape
    hands_out = meets S.R Y 𝓛 Φ 𝓣 shape walk
