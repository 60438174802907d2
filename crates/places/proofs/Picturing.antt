-- `if 8 <= n { *shown = z(); return 8; } let here = &mut r.0[n as usize]; if here.0 != 1 { *shown = z(); return 8; } *shown = here.i; ..; 0`, over any store: what a slot holds is shown, and then each of five records is dropped where it lies, or stays: `if here.i.j.. == 0 { here.i.j.0 = 0; here.i.j.1 = z(); }`.
-- Assumes `Logic`.
use mathlib.Core.Path.{◌≡◌, refl, sym, subst}
use mathlib.Core.Bool.{Bool, true, false, not}
use mathlib.Core.Option.{none, some}
use Prim.Native.Nat.{ℕ, ◌+◌, ◌*◌, ◌≤◌, ◌<◌, ◌^◌}
use mathlib.Core.List.{[], ◌∷◌, List}
use lib.Dec.{T, eqb, lit<}
use seplogic.Ra.Ura.{Ura}
use base.Fraction.{full_share}
use mir.Syntax.{Callee, Body, named, erased, mut, w8, w32, w64, ty_int, ty_bool, ty_ptr, ty_ref, Opd as Operand, int, copy, rv_opd, op2, eq, place, deref, seq, skip, cond, assign, call, return, value_local, local, Fn}
use mir.Val.{Val, vint, vbool, vptr, WT, has_ty}
use base.Fml.{GName, Lft, Share}
use prog.Wp.{Env, spot_of, Tables, WpFn}
use types.Logic.{Logic}
use types.Kit as Kit
use types.Kit.{Item, Go, prop, runs, Seq, step, Sq, ‵, ◌$◌, !, move, rewrite}
use types.Run.{Opd, look, init, forget, stop, hop, from, load, lit, of_opd, bin, assigns, first, skips, branches, enter, params1}
use types.Mut.{open_ref}
use sound.WpLaws.{fm_of}
use denote.RattleType.{RattleType}
use denote.Laws.{Is}
use denote.Memory.{part_at, mem, lone, pointee}
use denote.Plain.{uint_Tells, uint_Makes}
use denote.Builtin.{u8}
use denote.Triple.Statement.{Triple}
use Rattle.places.proofs.Within.{itself}
use Rattle.places.proofs.Frame.{allots, passing}
use Rattle.places.proofs.Places.{span, back, look-part, know-part, store-part, var, sets, answers}
use Rattle.places.proofs.Numbered.{Made}
use Rattle.places.proofs.Showing.{Claim, Post, Shut, ends, Met, meets}
use Rattle.places.proofs.Store.{Data, Store, Seen, Part, put-changes, put-seen, part-seen}
use Rattle.places.proofs.Finding.{Names, finds, begins}
use Rattle.places.proofs.Renewing.{free, set, renews, renews-last}

abbrev names : Names
names = record { here = 4; test = 5; index = 7; scaled = 8; array = 9; element = 10; mark = 11 }

-- to the front: what `Finding` uses
abbrev used : List ℕ
used = 5 ∷ 7 ∷ 8 ∷ 9 ∷ 10 ∷ 11 ∷ 4 ∷ 2 ∷ 1 ∷ 20 ∷ []

-- a record of an element: its mark, its value, and the byte of that which is 0 where it does not stay; z makes the value of none, Z
pub record Lapse (P : RattleType) : Type 3 where
  pub Q : RattleType
  pub data' : Data Q
  pub on : Part P u8
  pub value : Part P Q
  pub stays : Seen P u8
  pub z : Callee
  pub Z : Q.Denot

abbrev pub chosen : {A : Type 0} → Bool → A → A → A
chosen true x y = x
chosen false x y = y

chosen-yes : {A : Type 0} (c : Bool) (x y : A) → T c → x ≡ chosen c x y
chosen-yes true x y t = refl
chosen-yes false x y t = absurd t

chosen-no : {A : Type 0} (c : Bool) (x y : A) → T (not c) → y ≡ chosen c x y
chosen-no true x y t = absurd t
chosen-no false x y t = refl

-- an element after that
abbrev pub lapsed : {P : RattleType} → Lapse P → P.Denot → P.Denot
lapsed L x = chosen (eqb (L.stays.get x) 0) (L.value.put (L.on.put x 0) L.Z) x

-- U is what an element holds, and z makes what shows nothing
module _ (S : Store) (U : RattleType) (DU : Data U) (all : Seen S.P U) (L₁ L₂ L₃ L₄ L₅ : Lapse S.P) (k : Operand) (z : Callee) where
  abbrev away : ℕ → Body
  away i = seq (call z [] (place i [])) (seq (assign (place 3 (deref (lone U.mir) ∷ [])) (rv_opd (copy (place i [])))) (seq (assign (place 0 []) (rv_opd (int w32 8))) return))

  abbrev lapse : Lapse S.P → ℕ → Body → Body
  lapse L i rest =
      seq (assign (place 11 []) (rv_opd (copy (place 4 (deref (lone S.P.mir) ∷ L.stays.path [])))))
      (seq (assign (place 5 []) (op2 eq (copy (place 11 [])) (int w8 0)))
      (seq (cond (copy (place 5 []))
      (seq (assign (place 4 (deref (lone S.P.mir) ∷ L.on.at.path [])) (rv_opd (int w8 0)))
      (seq (call L.z [] (place i []))
      (assign (place 4 (deref (lone S.P.mir) ∷ L.value.at.path [])) (rv_opd (copy (place i []))))))
      skip)
      rest))

  abbrev pub shape : Fn
  shape = record {
    lifetimes = 2;
    outlives = [];
    ty_params = [];
    givens = 0;
    params = 3;
    locals =
        local (ty_int w32) value_local
        ∷ local (ty_ref (named 0) mut (pointee S.R.written)) value_local
        ∷ local (ty_int w64) value_local
        ∷ local (ty_ref (named 1) mut (pointee U.written)) value_local
        ∷ local (ty_ref erased mut (pointee S.P.written)) value_local
        ∷ local ty_bool value_local
        ∷ local (lone U.mir) value_local
        ∷ local (ty_int w64) value_local
        ∷ local (ty_int w64) value_local
        ∷ local ty_ptr value_local
        ∷ local ty_ptr value_local
        ∷ local (ty_int w8) value_local
        ∷ local (lone U.mir) value_local
        ∷ local (lone U.mir) value_local
        ∷ local (lone L₁.Q.mir) value_local
        ∷ local (lone L₂.Q.mir) value_local
        ∷ local (lone L₃.Q.mir) value_local
        ∷ local (lone L₄.Q.mir) value_local
        ∷ local (lone L₅.Q.mir) value_local
        ∷ [];
    body =
        finds S k names (away 6) (away 12)
        (seq (assign (place 13 []) (rv_opd (copy (place 4 (deref (lone S.P.mir) ∷ all.path [])))))
        (seq (assign (place 3 (deref (lone U.mir) ∷ [])) (rv_opd (copy (place 13 []))))
        (lapse L₁ 14 (lapse L₂ 15 (lapse L₃ 16 (lapse L₄ 17 (lapse L₅ 18
        (seq (assign (place 0 []) (rv_opd (int w32 0)))
        return))))))));
  }

  -- an element after all five
  abbrev pub left : S.P.Denot → S.P.Denot
  left x = lapsed L₅ (lapsed L₄ (lapsed L₃ (lapsed L₂ (lapsed L₁ x))))

  module _ {M : Type 1} {𝓤 : Ura M} (𝓛 : Logic 𝓤) (width : (Γ : List (Item 𝓤)) (E : Env 𝓤 𝓛.H) → Opd Go 𝓛 Γ E k (vint w64 S.width)) (Φ : Claim S.R U) (Z : U.Denot)
      (past : (h : S.R.Denot) (w : Val) (n : ℕ) → Is S.R h (w ∷ []) → 8 ≤ n → Φ h n 8 h Z)
      (shut : (h : S.R.Denot) (n : ℕ) → T (not (eqb (S.mark.get (S.get h n)) 1)) → Φ h n 8 h Z)
      (shows : (h : S.R.Denot) (n : ℕ) → n < 8 → T (not (not (eqb (S.mark.get (S.get h n)) 1))) → Φ h n 0 (S.put h n (left (S.get h n))) (all.get (S.get h n)))
      (𝓣 : Tables 𝓤 𝓛.H) (known-z : Triple 𝓤 (𝓣.C z) (Made U 𝓛 Z))
      (known₁ : Triple 𝓤 (𝓣.C L₁.z) (Made L₁.Q 𝓛 L₁.Z)) (known₂ : Triple 𝓤 (𝓣.C L₂.z) (Made L₂.Q 𝓛 L₂.Z)) (known₃ : Triple 𝓤 (𝓣.C L₃.z) (Made L₃.Q 𝓛 L₃.Z))
      (known₄ : Triple 𝓤 (𝓣.C L₄.z) (Made L₄.Q 𝓛 L₄.Z)) (known₅ : Triple 𝓤 (𝓣.C L₅.z) (Made L₅.Q 𝓛 L₅.Z)) where
    -- at the head: the byte, the test, the value of none, the pointer to element n, and the store in which that is x
    open 𝓛 use {H}

    module _ (E : Env 𝓤 H) (i b o n : ℕ) (h : S.R.Denot) (Γ : List (Item 𝓤)) where
      abbrev At : S.P.Denot → List (Item 𝓤)
      At x = free 𝓤 H E 11 ∷ free 𝓤 H E 5 ∷ free 𝓤 H E i ∷ set 𝓤 H E 4 (vptr b (n * S.width + (o + 0))) ∷ ‵ (part_at S.R full_share (S.put h n x) b o) ∷ Γ

    lapses : {Y : Type 0} → Y → (L : Lapse S.P) → Triple 𝓤 (𝓣.C L.z) (Made L.Q 𝓛 L.Z) → (h : S.R.Denot) (n b o : ℕ) → n < 8 → (x : S.P.Denot) {E : Env 𝓤 H} {Γ : List (Item 𝓤)} {Q : Kit.Post 𝓤 H} {rest : Body} {i : ℕ}
        → ((m : ℕ) → T (has_ty (spot_of 𝓤 H E 11).0 (vint w8 m))) → ((y : Bool) → T (has_ty (spot_of 𝓤 H E 5).0 (vbool y))) → ((v : Val) → T (has_ty (lone L.Q.mir) v) × WT v → T (has_ty (spot_of 𝓤 H E i).0 v) × WT v)
        → Kit.Step Y 𝓛 (At E i b o n h Γ (lapsed L x)) (runs 𝓣.C 𝓣.Λ E rest Q) (At E i b o n h Γ x) (runs 𝓣.C 𝓣.Λ E (lapse L i rest) Q)
    lapses {Y} t L known h n b o lt x {E} {Γ} {Q} {rest} {i} byte bool room = step (λ next.
        let p : ℕ = n * S.width + (o + 0) in let m : ℕ = L.stays.get x in let none : S.P.Denot = L.value.put (L.on.put x 0) L.Z in
        let goes : (y : S.P.Denot) → y ≡ lapsed L x → Seq Y 𝓛 (At E i b o n h Γ y) (runs 𝓣.C 𝓣.Λ E rest Q) = λ y e. subst (λ (w : S.P.Denot). Seq Y 𝓛 (At E i b o n h Γ w) (runs 𝓣.C 𝓣.Λ E rest Q)) (sym e) next in
        let part = put-seen S 𝓛 full_share h n b o lt x L.stays in
        know-part t 4 full_share S.R u8 (S.put h n x) m b o (L.stays.shift p) refl refl part (λ _ fits.
        sets t (of_opd t (load t (from t (hop t (look t 3 refl) (L.stays.found t 𝓛 _ E b p [] _ (stop t)))) (look-part t 4 full_share S.R u8 (S.put h n x) m b o (L.stays.shift p) refl (vint w8) (uint_Tells w8) refl part))) (init t 0 refl (byte m, record { fits = fits.1 })) $
        sets t (bin t (var t 0 refl) (lit t tt) tt) (init t 1 refl (bool _, tt)) $ first t $ branches t (var t 1 refl)
        (λ gone. forget t 0 refl $ forget t 1 refl $
        assigns t (of_opd t (lit t tt)) (from t (hop t (look t 3 refl) (L.on.at.found t 𝓛 _ E b p [] _ (stop t))))
        (store-part t 4 S.R u8 (S.put h n x) (S.put h n (L.on.put x 0)) (L.on.at.get x) 0 b o (L.on.at.shift p) refl (vint w8 0) (tt, record { fits = lit< tt }) (uint_Makes 𝓛 w8 0 (vint w8 0 ∷ []) (refl, lit< tt)) refl (put-changes S 𝓛 full_share h n b o lt x L.on 0)) $
        move t (2 ∷ 3 ∷ 4 ∷ []) $
        renews-last t (fm_of 𝓤 H 𝓛.laws 𝓣) L.Q L.data' L.Z known S.R (S.put h n (L.on.put x 0)) (S.put h n none) (L.value.at.get (L.on.put x 0)) b o (L.value.at.shift p) (put-changes S 𝓛 full_share h n b o lt (L.on.put x 0) L.value L.Z)
        room (λ v. from t (hop t (look t 1 refl) (L.value.at.found t 𝓛 _ E b p [] _ (stop t)))) $ move t (3 ∷ 4 ∷ []) $ record { prf = (goes none (chosen-yes (eqb m 0) none x gone)).prf })
        (λ stay. forget t 0 refl $ forget t 1 refl $ skips t $ record { prf = (goes x (chosen-no (eqb m 0) none x stay)).prf })))

    walk : (κ κ' : Lft) (q q' : Share) (b o b' o' : ℕ) (γ γ' : GName) (h : S.R.Denot) (n : ℕ) (u : U.Denot) → n < 2 ^ 64
        → Sq 𝓛 (Shut S.R U 𝓛 Φ κ κ' q q' b o b' o' γ γ' h n u) (prop (WpFn 𝓤 H 𝓣.C 𝓣.Λ shape (vptr b o ∷ vint w64 n ∷ vptr b' o' ∷ []) (Post S.R U 𝓛 Φ κ κ' q q' b o b' o' γ γ' h n u)))
    walk κ κ' q q' b o b' o' γ γ' h n u fits = let p : ℕ = n * S.width + (o + 0) in let x : S.P.Denot = S.get h n in
        let x₁ : S.P.Denot = lapsed L₁ x in let x₂ : S.P.Denot = lapsed L₂ x₁ in let x₃ : S.P.Denot = lapsed L₃ x₂ in let x₄ : S.P.Denot = lapsed L₄ x₃ in
        enter ! 𝓣.C 𝓣.Λ shape (vptr b o ∷ vint w64 n ∷ vptr b' o' ∷ []) _ $ allots ! (λ bs. params1 ! $ passing ! _ ((tt, tt), ((tt, record { fits = fits }), ((tt, tt), tt))) $
        move ! (span 23 3) $ open_ref ! tt (mem U) {x = u} {b = b'} {o = o'} $ move ! (span 24 3) $ open_ref ! tt (mem S.R) {x = h} {b = b} {o = o} $ move ! (span 8 20) $
        -- [_0; ..; _18; the frame; the store; its open borrow; obs; auth; what is shown; the same three]
        move ! used $ begins S k names ! full_share h width (record { here = λ _ _. tt; test = λ _. tt; index = λ _. tt; scaled = λ _. tt; array = λ _ _. tt; element = λ _ _. tt; mark = λ _. tt }) fits
        (λ Q e w is l. move ! (back used 21) $ move ! (6 ∷ 3 ∷ 24 ∷ []) $ renews ! (fm_of 𝓤 H 𝓛.laws 𝓣) U DU Z known-z U u Z u b' o' o' (itself 𝓛 full_share U u Z b' o') (λ v typed. typed) (λ v. from ! (hop ! (look ! 1 refl) (stop !))) $ move ! (back (6 ∷ 3 ∷ 24 ∷ []) 25) $
        answers ! (Post S.R U 𝓛 Φ κ κ' q q' b o b' o' γ γ' h n u) (of_opd ! (lit ! tt)) (init ! 0 refl (tt, record { fits = lit< tt })) (look ! 0 refl) e $
        ends S.R U 𝓛 Φ κ κ' q q' b o b' o' γ γ' h n u _ (some _ ∷ some _ ∷ some _ ∷ some _ ∷ []) 8 (lit< tt) h Z (past h w n is l))
        (λ Q e off. move ! (back used 21) $ move ! (12 ∷ 3 ∷ 24 ∷ []) $ renews ! (fm_of 𝓤 H 𝓛.laws 𝓣) U DU Z known-z U u Z u b' o' o' (itself 𝓛 full_share U u Z b' o') (λ v typed. typed) (λ v. from ! (hop ! (look ! 1 refl) (stop !))) $ move ! (back (12 ∷ 3 ∷ 24 ∷ []) 25) $
        answers ! (Post S.R U 𝓛 Φ κ κ' q q' b o b' o' γ γ' h n u) (of_opd ! (lit ! tt)) (init ! 0 refl (tt, record { fits = lit< tt })) (look ! 0 refl) e $
        ends S.R U 𝓛 Φ κ κ' q q' b o b' o' γ γ' h n u _ (some _ ∷ some _ ∷ some _ ∷ some _ ∷ []) 8 (lit< tt) h Z (shut h n off))
        (λ lt on. move ! (back used 21) $ let held = part-seen S 𝓛 full_share h n b o lt all in
        know-part ! 20 full_share S.R U h (all.get x) b o (all.shift p) DU.one refl held (λ v was. let is-was : Is U (all.get x) (DU.val (all.get x) ∷ []) = subst (Is U (all.get x)) (DU.tells (all.get x) (v ∷ []) was) was in
        sets ! (of_opd ! (load ! (from ! (hop ! (look ! 4 refl) (all.found ! 𝓛 _ _ b p [] _ (stop !)))) (look-part ! 20 full_share S.R U h (all.get x) b o (all.shift p) DU.one DU.val DU.tells refl held))) (init ! 13 refl (DU.typed 𝓛 (all.get x) _ is-was)) $
        assigns ! (of_opd ! (var ! 13 refl)) (from ! (hop ! (look ! 3 refl) (stop !))) (store-part ! 24 U U u (all.get x) u (all.get x) b' o' o' DU.one _ (DU.typed 𝓛 (all.get x) _ is-was) (DU.makes 𝓛 (all.get x) _ is-was) refl (itself 𝓛 full_share U u (all.get x) b' o')) $
        rewrite ! 20 (λ (t : S.R.Denot). ‵ (part_at S.R full_share t b o)) (sym (S.same h n)) refl $
        move ! (11 ∷ 5 ∷ 14 ∷ 4 ∷ 20 ∷ []) $ lapses ! L₁ known₁ h n b o lt x (λ _. tt) (λ _. tt) (λ v typed. typed) $ move ! (back (11 ∷ 5 ∷ 14 ∷ 4 ∷ 20 ∷ []) 21) $
        move ! (11 ∷ 5 ∷ 15 ∷ 4 ∷ 20 ∷ []) $ lapses ! L₂ known₂ h n b o lt x₁ (λ _. tt) (λ _. tt) (λ v typed. typed) $ move ! (back (11 ∷ 5 ∷ 15 ∷ 4 ∷ 20 ∷ []) 21) $
        move ! (11 ∷ 5 ∷ 16 ∷ 4 ∷ 20 ∷ []) $ lapses ! L₃ known₃ h n b o lt x₂ (λ _. tt) (λ _. tt) (λ v typed. typed) $ move ! (back (11 ∷ 5 ∷ 16 ∷ 4 ∷ 20 ∷ []) 21) $
        move ! (11 ∷ 5 ∷ 17 ∷ 4 ∷ 20 ∷ []) $ lapses ! L₄ known₄ h n b o lt x₃ (λ _. tt) (λ _. tt) (λ v typed. typed) $ move ! (back (11 ∷ 5 ∷ 17 ∷ 4 ∷ 20 ∷ []) 21) $
        move ! (11 ∷ 5 ∷ 18 ∷ 4 ∷ 20 ∷ []) $ lapses ! L₅ known₅ h n b o lt x₄ (λ _. tt) (λ _. tt) (λ v typed. typed) $ move ! (back (11 ∷ 5 ∷ 18 ∷ 4 ∷ 20 ∷ []) 21) $
        answers ! (Post S.R U 𝓛 Φ κ κ' q q' b o b' o' γ γ' h n u) (of_opd ! (lit ! tt)) (init ! 0 refl (tt, record { fits = lit< tt })) (look ! 0 refl) refl $
        ends S.R U 𝓛 Φ κ κ' q q' b o b' o' γ γ' h n u _ (some _ ∷ some _ ∷ some _ ∷ some _ ∷ some _ ∷ none ∷ none ∷ none ∷ none ∷ none ∷ none ∷ none ∷ none ∷ some _ ∷ []) 0 (lit< tt) (S.put h n (left x)) (all.get x) (shows h n lt on))))

    pub pictures : Met S.R U 𝓛 Φ 𝓣 shape
    pictures = meets S.R U 𝓛 Φ 𝓣 shape walk
