-- `if 8 <= n { return no; } let here = &mut r.0[n as usize]; if here.0 != 1 { return no; }`, then five times `if kind == a { let after = g(size, bytes); if after.1 == 0 { return after.0; } here.i.j = after.2; return after.0; }`, and `e(kind, size, bytes)`, over any store, any records that its elements hold and any answer; `no` is two numbers, 8 and 0. The kind chooses the place: a record is not read, and stored only where it is new.
-- Assumes `Logic`.
use mathlib.Core.Path.{◌≡◌, refl, sym, ap, ◌∙◌, subst}
use mathlib.Core.Bool.{Bool, not}
use mathlib.Core.Option.{some}
use Prim.Native.Nat.{ℕ, ◌+◌, ◌*◌, ◌≤◌, ◌<◌, ◌^◌}
use mathlib.Core.List.{[], ◌∷◌, List}
use lib.Dec.{T, eqb, eqb→eq, ltb}
use seplogic.Ra.Ura.{Ura}
use base.Fraction.{full_share}
use mir.Syntax.{Callee, Body, Ty, named, erased, mut, imm, w8, w32, w64, ty_int, ty_bool, ty_ptr, ty_ref, ty_struct, tcons, tnil, Opd as Operand, int, copy, rv_opd, op2, aggregate, eq, place, deref, field, seq, skip, cond, assign, call, return, value_local, local, Fn}
use mir.Val.{Val, vint, vbool, vptr, vstruct, vcons, vnil, WT, has_ty}
use base.Fml.{GName, Lft, Share, fat}
use prog.Memory.{field_of}
use prog.Wp.{Env, spot_of, Tables, WpFn, returns as returnsᴼ}
use types.Logic.{Logic}
use contract.Lifetimes.{toks}
use types.Kit as Kit
use types.Kit.{Item, Go, post, prop, runs, Seq, Sq, ‵, raw, ◌$◌, !, move, drop, use2}
use types.Run.{Opd, look, init, forget, stop, hop, from, lit, of_opd, bin, and_then, no_more, assigns, land, returns, returns_within, enter, params1}
use types.Part.{agg}
use types.Mut.{open_ref}
use sound.WpLaws.{fm_of}
use denote.RattleType.{RattleType}
use denote.Laws.{Is}
use denote.Memory.{part_at, mem, lone, pointee}
use denote.Builtin.{u8}
use denote.Ref.{Bor}
use denote.Slice.{slice_ty, shr_slice_vals, ShrSlice, shr_slice_Lawful}
use denote.Steps.{only, heard}
use denote.Triple.Statement.{Triple}
use Rattle.places.proofs.Frame.{allots, passing}
use Rattle.places.proofs.Places.{span, back, store-part, var, var-field, sets, calls-fn, early, answers}
use Rattle.places.proofs.Kinded as kinded
use Rattle.places.proofs.Kinded.{Claim, Post, Shut, ends, Met, meets, judge, judges, Judges, about, asks, answerer, Answers, of-payload, asks-payload}
use Rattle.places.proofs.Renewing.{free, set}
use Rattle.places.proofs.Store.{Data, Store, Part, part-changes, Flagged}
use Rattle.places.proofs.Finding.{Names, finds, begins-alike}

-- a kind, the record of it that an element holds, and the function g that its payloads are handed to, which answers G
pub record Fill (S : Store) (Y : RattleType) (D : Data Y) : Type 3 where
  pub number : ℕ
  pub fits : T (ltb number (2 ^ 64))
  pub Q : RattleType
  pub data' : Data Q
  pub at : Part S.P Q
  pub N : Flagged Y Q D data'
  pub g : Callee
  pub G : ℕ → List ℕ → N.F.Denot

abbrev names : Names
names = record { here = 6; test = 12; index = 13; scaled = 14; array = 15; element = 16; mark = 17 }

abbrev away : Body
away = seq (assign (place 0 []) (aggregate (int w32 8 ∷ int w32 0 ∷ []))) return

-- to the front: what `Finding` uses; what an arm uses, of which local i is filled, j is its test and m takes the record; and what that leaves
abbrev used : List ℕ
used = 12 ∷ 13 ∷ 14 ∷ 15 ∷ 16 ∷ 17 ∷ 6 ∷ 2 ∷ 1 ∷ 29 ∷ []

abbrev before : ℕ → ℕ → ℕ → List ℕ
before i j m = 12 ∷ j ∷ i ∷ m ∷ 0 ∷ 6 ∷ 3 ∷ 4 ∷ 5 ∷ 29 ∷ 33 ∷ 34 ∷ []

abbrev after : ℕ → ℕ → ℕ → List ℕ
after i j m = 12 ∷ j ∷ i ∷ m ∷ 0 ∷ 6 ∷ 3 ∷ 4 ∷ 5 ∷ 29 ∷ 33 ∷ []

module _ (S : Store) (Y : RattleType) (D : Data Y) where
  abbrev filled : Fill S Y D → Ty
  filled c = ty_struct c.N.name (tcons (lone Y.mir) (tcons (ty_int w8) (tcons (lone c.Q.mir) tnil)))

  abbrev arm : Fill S Y D → ℕ → ℕ → ℕ → Body → Body
  arm c i j m rest =
      seq (assign (place 12 []) (op2 eq (copy (place 3 [])) (int w64 c.number)))
      (seq (cond (copy (place 12 []))
      (seq (call c.g (copy (place 4 []) ∷ copy (place 5 []) ∷ []) (place i []))
      (seq (assign (place j []) (op2 eq (copy (place i (field 1 ∷ []))) (int w8 0)))
      (seq (cond (copy (place j [])) (seq (assign (place 0 []) (rv_opd (copy (place i (field 0 ∷ []))))) return) skip)
      (seq (assign (place m []) (rv_opd (copy (place i (field 2 ∷ [])))))
      (seq (assign (place 6 (deref (lone S.P.mir) ∷ c.at.at.path [])) (rv_opd (copy (place m []))))
      (seq (assign (place 0 []) (rv_opd (copy (place i (field 0 ∷ [])))))
      return))))))
      skip)
      rest)

  module _ (c₁ c₂ c₃ c₄ c₅ : Fill S Y D) (k : Operand) (e : Callee) where
    abbrev pub shape : Fn
    shape = record {
      lifetimes = 2;
      outlives = [];
      ty_params = [];
      givens = 0;
      params = 5;
      locals =
          local (lone Y.mir) value_local
          ∷ local (ty_ref (named 0) mut (pointee S.R.written)) value_local
          ∷ local (ty_int w64) value_local
          ∷ local (ty_int w64) value_local
          ∷ local (ty_int w64) value_local
          ∷ local (slice_ty (ty_ref (named 1) imm (ty_int w8))) value_local
          ∷ local (ty_ref erased mut (pointee S.P.written)) value_local
          ∷ local (filled c₁) value_local
          ∷ local (filled c₂) value_local
          ∷ local (filled c₃) value_local
          ∷ local (filled c₄) value_local
          ∷ local (filled c₅) value_local
          ∷ local ty_bool value_local
          ∷ local (ty_int w64) value_local
          ∷ local (ty_int w64) value_local
          ∷ local ty_ptr value_local
          ∷ local ty_ptr value_local
          ∷ local (ty_int w8) value_local
          ∷ local ty_bool value_local
          ∷ local (lone c₁.Q.mir) value_local
          ∷ local ty_bool value_local
          ∷ local (lone c₂.Q.mir) value_local
          ∷ local ty_bool value_local
          ∷ local (lone c₃.Q.mir) value_local
          ∷ local ty_bool value_local
          ∷ local (lone c₄.Q.mir) value_local
          ∷ local ty_bool value_local
          ∷ local (lone c₅.Q.mir) value_local
          ∷ [];
      body =
          finds S k names away away
          (arm c₁ 7 18 19 (arm c₂ 8 20 21 (arm c₃ 9 22 23 (arm c₄ 10 24 25 (arm c₅ 11 26 27
          (seq (call e (copy (place 3 []) ∷ copy (place 4 []) ∷ copy (place 5 []) ∷ []) (place 0 []))
          return))))));
    }

  module _ (Φ : Claim S.R Y) where
    -- what is claimed where a payload of the kind is answered r: with the mark 0 the store stays, and else the record is the new one
    pub record Claimed (c : Fill S Y D) : Type 1 where
      pub same : (h : S.R.Denot) (n size : ℕ) (bytes : List ℕ) (r : c.N.F.Denot) → n < 8 → T (not (not (eqb (S.mark.get (S.get h n)) 1))) → r ≡ c.G size bytes → T (eqb (c.N.flag r) 0) → Φ h n c.number size bytes (c.N.answer r) h
      pub new : (h : S.R.Denot) (n size : ℕ) (bytes : List ℕ) (r : c.N.F.Denot) → n < 8 → T (not (not (eqb (S.mark.get (S.get h n)) 1))) → r ≡ c.G size bytes → T (not (eqb (c.N.flag r) 0))
          → Φ h n c.number size bytes (c.N.answer r) (S.put h n (c.at.put (S.get h n) (c.N.rest r)))

  module _ {M : Type 1} {𝓤 : Ura M} (𝓛 : Logic 𝓤) (Φ : Claim S.R Y) (𝓣 : Tables 𝓤 𝓛.H) where
    open 𝓛 use {H}

    abbrev Known : Fill S Y D → Type 1
    Known c = Triple 𝓤 (𝓣.C c.g) (Answers c.N.F 𝓛 c.G)

    module _ (κ' : Lft) (q' : Share) (b o : ℕ) (h : S.R.Denot) (n kind size : ℕ) (bytes : Bor (List ℕ)) (size_fits : size < 2 ^ 64) (lt : n < 8) (on : T (not (not (eqb (S.mark.get (S.get h n)) 1)))) where
      abbrev At : Env 𝓤 H → ℕ → ℕ → ℕ → Item 𝓤 → S.R.Denot → List (Item 𝓤) → List (Item 𝓤)
      At E i j m answer t Γ = free 𝓤 H E 12 ∷ free 𝓤 H E j ∷ free 𝓤 H E i ∷ free 𝓤 H E m ∷ answer ∷ set 𝓤 H E 6 (vptr b (n * S.width + (o + 0))) ∷ set 𝓤 H E 3 (vint w64 kind) ∷ set 𝓤 H E 4 (vint w64 size) ∷ set 𝓤 H E 5 (only (shr_slice_vals bytes))
          ∷ ‵ (part_at S.R full_share t b o) ∷ raw (toks 𝓛 1 (κ', tt) (q', tt)) ∷ Γ

      abbrev Before : Env 𝓤 H → ℕ → ℕ → ℕ → List (Item 𝓤) → List (Item 𝓤)
      Before E i j m Γ = At E i j m (free 𝓤 H E 0) h (‵ ((ShrSlice (named 1) κ' u8).own_val bytes (shr_slice_vals bytes)) ∷ Γ)

      -- one arm: it is taken, and ends with the answer r and the store t; or it is not
      fills : {K : Type 0} → K → (c : Fill S Y D) → Known c → Claimed Φ c → {E : Env 𝓤 H} {Γ : List (Item 𝓤)} {Q : Kit.Post 𝓤 H} {rest : Body} {i j m : ℕ}
          → ((y : Bool) → T (has_ty (spot_of 𝓤 H E 12).0 (vbool y))) → ((y : Bool) → T (has_ty (spot_of 𝓤 H E j).0 (vbool y))) → (spot_of 𝓤 H E i).0 ≡ filled c → ((v : Val) → T (has_ty (lone c.Q.mir) v) × WT v → T (has_ty (spot_of 𝓤 H E m).0 v) × WT v) → ((v : Val) → T (has_ty (lone Y.mir) v) × WT v → T (has_ty (spot_of 𝓤 H E 0).0 v) × WT v)
          → ((Q' : Kit.Post 𝓤 H) → post 𝓤 H Q' returnsᴼ ≡ post 𝓤 H Q returnsᴼ → (r : Y.Denot) (t : S.R.Denot) → Is Y r (D.val r ∷ []) → Φ h n kind size bytes.now r t → Seq K 𝓛 (At E i j m (set 𝓤 H E 0 (D.val r)) t Γ) (runs 𝓣.C 𝓣.Λ E return Q'))
          → (T (not (eqb kind c.number)) → Seq K 𝓛 (Before E i j m Γ) (runs 𝓣.C 𝓣.Λ E rest Q)) → Seq K 𝓛 (Before E i j m Γ) (runs 𝓣.C 𝓣.Λ E (arm c i j m rest) Q)
      fills t c known claimed {E} {Γ} {i = i} {j} {m} test flag local' kept room ended not-it = let p : ℕ = n * S.width + (o + 0) in let N = c.N in
          sets t (bin t (var t 6 refl) (lit t c.fits) tt) (init t 0 refl (test _, tt)) $ early t (var t 0 refl)
          (λ is. forget t 0 refl $ move t (11 ∷ 10 ∷ []) $ use2 𝓛 (raw ((Answers N.F 𝓛 c.G).pre (of-payload N.F 𝓛 c.G κ' q' size bytes))) (asks-payload N.F 𝓛 c.G κ' q' size bytes size_fits) $
          calls-fn t (fm_of 𝓤 H 𝓛.laws 𝓣) (answerer N.F) (kinded.answers N.F 𝓤 c.G) known (of-payload N.F 𝓛 c.G κ' q' size bytes) (λ r. vstruct (vcons (D.val (N.answer r)) (vcons (vint w8 (N.flag r)) (vcons (c.data'.val (N.rest r)) vnil)))) N.tells
          (and_then t (var t 8 refl) (and_then t (var t 9 refl) (no_more t))) (λ r _ it. heard t (r ≡ c.G size bytes.now) (λ e.
          let v : Val = vstruct (vcons (D.val (N.answer r)) (vcons (vint w8 (N.flag r)) (vcons (c.data'.val (N.rest r)) vnil))) in
          let cell = ap (λ (τ : Ty). ‵ (fat full_share τ (spot_of 𝓤 H E i).1 0 v)) local' in
          let turn : (y : Y.Denot) (s : S.R.Denot) → Φ h n c.number size bytes.now y s → Φ h n kind size bytes.now y s = λ y s x. subst (λ (m : ℕ). Φ h n m size bytes.now y s) (sym (eqb→eq kind c.number is)) x in
          move t (1 ∷ []) $ drop t $ move t (span 1 10) $ land t (from t (stop t)) (init t 2 refl (subst (λ (τ : Ty). T (has_ty τ v) × WT v) (sym local') (N.typed 𝓛 r _ it))) $
          sets t (bin t (var-field t 2 1 (ty_int w8) N.near cell N.at_flag (ap (λ (τ : Ty). field_of τ 1) local' ∙ N.at_flag)) (lit t tt) tt) (init t 1 refl (flag _, tt)) $ early t (var t 1 refl)
          (λ none'. sets t (of_opd t (var-field t 2 0 (lone Y.mir) 0 cell N.at-answer (ap (λ (τ : Ty). field_of τ 0) local' ∙ N.at-answer))) (init t 4 refl (room _ (D.typed 𝓛 (N.answer r) _ (N.answered r _ it)))) $
          forget t 1 refl $ forget t 2 refl $ ended _ refl (N.answer r) h (N.answered r _ it) (turn (N.answer r) h (claimed.same h n size bytes.now r lt on e none')))
          (λ some'. sets t (of_opd t (var-field t 2 2 (lone c.Q.mir) N.gap cell N.at_rest (ap (λ (τ : Ty). field_of τ 2) local' ∙ N.at_rest))) (init t 3 refl (kept _ (c.data'.typed 𝓛 (N.rest r) _ (N.rested r _ it)))) $
          assigns t (of_opd t (var t 3 refl)) (from t (hop t (look t 5 refl) (c.at.at.found t 𝓛 _ E b p [] _ (stop t))))
          (store-part t 9 S.R c.Q h (S.put h n (c.at.put (S.get h n) (N.rest r))) (c.at.at.get (S.get h n)) (N.rest r) b o (c.at.at.shift p) c.data'.one _ (c.data'.typed 𝓛 (N.rest r) _ (N.rested r _ it)) (c.data'.makes 𝓛 (N.rest r) _ (N.rested r _ it)) refl
          (part-changes S 𝓛 full_share h n b o lt c.at (N.rest r))) $
          sets t (of_opd t (var-field t 2 0 (lone Y.mir) 0 cell N.at-answer (ap (λ (τ : Ty). field_of τ 0) local' ∙ N.at-answer))) (init t 4 refl (room _ (D.typed 𝓛 (N.answer r) _ (N.answered r _ it)))) $
          forget t 1 refl $ forget t 2 refl $ forget t 3 refl $ ended _ refl (N.answer r) (S.put h n (c.at.put (S.get h n) (N.rest r))) (N.answered r _ it) (turn (N.answer r) (S.put h n (c.at.put (S.get h n) (N.rest r))) (claimed.new h n size bytes.now r lt on e some'))))))
          (λ is. forget t 0 refl $ not-it is)

    module _ (c₁ c₂ c₃ c₄ c₅ : Fill S Y D) (k : Operand) (e : Callee) (width : (Γ : List (Item 𝓤)) (E : Env 𝓤 H) → Opd Go 𝓛 Γ E k (vint w64 S.width)) (G : ℕ → ℕ → List ℕ → Y.Denot)
        (no : Y.Denot) (is-no : Is Y no (vstruct (vcons (vint w32 8) (vcons (vint w32 0) vnil)) ∷ []))
        (past : (h : S.R.Denot) (w : Val) (n kind size : ℕ) (bytes : List ℕ) → Is S.R h (w ∷ []) → 8 ≤ n → Φ h n kind size bytes no h)
        (shut : (h : S.R.Denot) (n kind size : ℕ) (bytes : List ℕ) → T (not (eqb (S.mark.get (S.get h n)) 1)) → Φ h n kind size bytes no h)
        (claimed₁ : Claimed Φ c₁) (claimed₂ : Claimed Φ c₂) (claimed₃ : Claimed Φ c₃) (claimed₄ : Claimed Φ c₄) (claimed₅ : Claimed Φ c₅)
        (other : (h : S.R.Denot) (n kind size : ℕ) (bytes : List ℕ) (r : Y.Denot) → n < 8 → T (not (not (eqb (S.mark.get (S.get h n)) 1)))
        → T (not (eqb kind c₁.number)) → T (not (eqb kind c₂.number)) → T (not (eqb kind c₃.number)) → T (not (eqb kind c₄.number)) → T (not (eqb kind c₅.number)) → r ≡ G kind size bytes → Φ h n kind size bytes r h)
        (known₁ : Known c₁) (known₂ : Known c₂) (known₃ : Known c₃) (known₄ : Known c₄) (known₅ : Known c₅) (known-e : Triple 𝓤 (𝓣.C e) (Judges Y 𝓛 G)) where
      walk : (κ κ' : Lft) (q q' : Share) (b o : ℕ) (γ : GName) (h : S.R.Denot) (n kind size : ℕ) (bytes : Bor (List ℕ)) → n < 2 ^ 64 → kind < 2 ^ 64 → size < 2 ^ 64 → Is (ShrSlice (named 1) κ' u8) bytes (shr_slice_vals bytes)
          → Sq 𝓛 (Shut S.R Y 𝓛 Φ κ κ' q q' b o γ h n kind size bytes)
          (prop (WpFn 𝓤 H 𝓣.C 𝓣.Λ (shape c₁ c₂ c₃ c₄ c₅ k e) (vptr b o ∷ vint w64 n ∷ vint w64 kind ∷ vint w64 size ∷ shr_slice_vals bytes) (Post S.R Y 𝓛 Φ κ κ' q q' b o γ h n kind size bytes)))
      walk κ κ' q q' b o γ h n kind size bytes n-fits kind_fits size_fits slice =
          enter ! 𝓣.C 𝓣.Λ (shape c₁ c₂ c₃ c₄ c₅ k e) (vptr b o ∷ vint w64 n ∷ vint w64 kind ∷ vint w64 size ∷ shr_slice_vals bytes) _ $ allots ! (λ bs. params1 ! $
          passing ! _ ((tt, tt), ((tt, record { fits = n-fits }), ((tt, record { fits = kind_fits }), ((tt, record { fits = size_fits }), (((shr_slice_Lawful 𝓛 (named 1) κ' u8).typed bytes _ slice).0, tt))))) $
          move ! (span 29 3) $ open_ref ! tt (mem S.R) {x = h} {b = b} {o = o} $ move ! (span 4 29) $
          -- [_0; ..; _27; the frame; the store; the open borrow; obs; auth; the bytes' token; the bytes]
          move ! used $ begins-alike S k names ! full_share h (Φ h n kind size bytes.now no h) width (record { here = λ _ _. tt; test = λ _. tt; index = λ _. tt; scaled = λ _. tt; array = λ _ _. tt; element = λ _ _. tt; mark = λ _. tt }) n-fits
          (λ w all l. past h w n kind size bytes.now all l) (λ off. shut h n kind size bytes.now off)
          (λ Q at-end refused. move ! (back used 35) $ move ! (34 ∷ []) $ drop ! $ answers ! (Post S.R Y 𝓛 Φ κ κ' q q' b o γ h n kind size bytes) (agg ! (and_then ! (lit ! tt) (and_then ! (lit ! tt) (no_more !)))) (init ! 0 refl (D.typed 𝓛 no _ is-no)) (look ! 0 refl) at-end $
          ends S.R Y 𝓛 Φ κ κ' q q' b o γ h n kind size bytes _ (some _ ∷ some _ ∷ some _ ∷ some _ ∷ some _ ∷ some _ ∷ []) D no _ is-no h refused)
          (λ lt on. move ! (back used 35) $
          move ! (before 7 18 19) $ fills κ' q' b o h n kind size bytes size_fits lt on ! c₁ known₁ claimed₁ (λ _. tt) (λ _. tt) refl (λ v typed. typed) (λ v typed. typed) (λ Q' at-end r t it x. move ! (back (after 7 18 19) 34) $ returns_within ! (Post S.R Y 𝓛 Φ κ κ' q q' b o γ h n kind size bytes) at-end (look ! 0 refl) $
          ends S.R Y 𝓛 Φ κ κ' q q' b o γ h n kind size bytes _ (some _ ∷ some _ ∷ some _ ∷ some _ ∷ some _ ∷ some _ ∷ some _ ∷ []) D r _ it t x) (λ no₁. move ! (back (before 7 18 19) 35) $
          move ! (before 8 20 21) $ fills κ' q' b o h n kind size bytes size_fits lt on ! c₂ known₂ claimed₂ (λ _. tt) (λ _. tt) refl (λ v typed. typed) (λ v typed. typed) (λ Q' at-end r t it x. move ! (back (after 8 20 21) 34) $ returns_within ! (Post S.R Y 𝓛 Φ κ κ' q q' b o γ h n kind size bytes) at-end (look ! 0 refl) $
          ends S.R Y 𝓛 Φ κ κ' q q' b o γ h n kind size bytes _ (some _ ∷ some _ ∷ some _ ∷ some _ ∷ some _ ∷ some _ ∷ some _ ∷ []) D r _ it t x) (λ no₂. move ! (back (before 8 20 21) 35) $
          move ! (before 9 22 23) $ fills κ' q' b o h n kind size bytes size_fits lt on ! c₃ known₃ claimed₃ (λ _. tt) (λ _. tt) refl (λ v typed. typed) (λ v typed. typed) (λ Q' at-end r t it x. move ! (back (after 9 22 23) 34) $ returns_within ! (Post S.R Y 𝓛 Φ κ κ' q q' b o γ h n kind size bytes) at-end (look ! 0 refl) $
          ends S.R Y 𝓛 Φ κ κ' q q' b o γ h n kind size bytes _ (some _ ∷ some _ ∷ some _ ∷ some _ ∷ some _ ∷ some _ ∷ some _ ∷ []) D r _ it t x) (λ no₃. move ! (back (before 9 22 23) 35) $
          move ! (before 10 24 25) $ fills κ' q' b o h n kind size bytes size_fits lt on ! c₄ known₄ claimed₄ (λ _. tt) (λ _. tt) refl (λ v typed. typed) (λ v typed. typed) (λ Q' at-end r t it x. move ! (back (after 10 24 25) 34) $ returns_within ! (Post S.R Y 𝓛 Φ κ κ' q q' b o γ h n kind size bytes) at-end (look ! 0 refl) $
          ends S.R Y 𝓛 Φ κ κ' q q' b o γ h n kind size bytes _ (some _ ∷ some _ ∷ some _ ∷ some _ ∷ some _ ∷ some _ ∷ some _ ∷ []) D r _ it t x) (λ no₄. move ! (back (before 10 24 25) 35) $
          move ! (before 11 26 27) $ fills κ' q' b o h n kind size bytes size_fits lt on ! c₅ known₅ claimed₅ (λ _. tt) (λ _. tt) refl (λ v typed. typed) (λ v typed. typed) (λ Q' at-end r t it x. move ! (back (after 11 26 27) 34) $ returns_within ! (Post S.R Y 𝓛 Φ κ κ' q q' b o γ h n kind size bytes) at-end (look ! 0 refl) $
          ends S.R Y 𝓛 Φ κ κ' q q' b o γ h n kind size bytes _ (some _ ∷ some _ ∷ some _ ∷ some _ ∷ some _ ∷ some _ ∷ some _ ∷ []) D r _ it t x) (λ no₅. move ! (back (before 11 26 27) 35) $
          move ! (34 ∷ 33 ∷ []) $ use2 𝓛 (raw ((Judges Y 𝓛 G).pre (about Y 𝓛 G κ' q' kind size bytes))) (asks Y 𝓛 G κ' q' kind size bytes kind_fits size_fits) $
          calls-fn ! (fm_of 𝓤 H 𝓛.laws 𝓣) (judge Y) (judges Y 𝓤 G) known-e (about Y 𝓛 G κ' q' kind size bytes) D.val D.tells
          (and_then ! (var ! 4 refl) (and_then ! (var ! 5 refl) (and_then ! (var ! 6 refl) (no_more !)))) (λ r _ is.
          heard ! (r ≡ G kind size bytes.now) (λ given. move ! (1 ∷ []) $ drop ! $ move ! (span 1 33) $ land ! (from ! (stop !)) (init ! 0 refl (D.typed 𝓛 r _ is)) $ returns ! (look ! 0 refl) $
          ends S.R Y 𝓛 Φ κ κ' q q' b o γ h n kind size bytes _ (some _ ∷ some _ ∷ some _ ∷ some _ ∷ some _ ∷ some _ ∷ some _ ∷ []) D r _ is h (other h n kind size bytes.now r lt on no₁ no₂ no₃ no₄ no₅ given))))))))))

      pub feeds : Met S.R Y 𝓛 Φ 𝓣 (shape c₁ c₂ c₃ c₄ c₅ k e)
      feeds = meets S.R Y 𝓛 Φ 𝓣 (shape c₁ c₂ c₃ c₄ c₅ k e) walk
