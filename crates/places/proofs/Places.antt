-- A part of a value that lies behind a reference, as a place of a walk: it is read, which leaves the context as it is, or overwritten, which changes the one part.
--     look-part, store-part    `types.Run`'s `look` and `store`, where entry n of the context is the whole (`Within.antt`)
-- Assumes `Logic`.
use mathlib.Core.Path.{◌≡◌, refl, sym, ap, subst}
use Prim.Native.Nat.{ℕ, zero, suc, ◌+◌, ◌-◌}
use mathlib.Core.List.{List, [], ◌∷◌}
use seplogic.Ra.Ura.{Ura}
use base.Fraction.{full_share}
use lib.Dec.{T, eqb, ltb}
use mathlib.Core.Bool.{Bool, true, false, not}
use mathlib.Core.Option.{some as some'}
use mir.Fields.{get_v, set_v}
use prog.Memory.{field_at, field_of}
use mir.Syntax.{Callee, Sym, Ty, Tys, ty_struct, Place, place, field, Opd as Operand, Rv as RValue, copy, assign, Body, seq, skip, cond, call, return}
use mir.Val.{Val, Vals, vstruct, vbool, WT, has_ty}
use base.Logic.{SProp, ent, sep, wand, ex, emp, via, id⊢, apply∗}
use base.Fml.{Share, fat, froom}
use prog.Wp.{Env, spot_of, Calls, Loops, Wp, after_seq, at_return, returns as returnsᴼ, read, write}
use types.Logic.{Logic, sem}
use sound.WpLaws.{FmC}
use types.Kit.{aim, Post, post, any_q, Goal, Seq, Step, step, runs, lands, frees, upd, prop, later, await, Item, ‵, raw, some, ◌⊛◌, mean, ⋆, nth, del, put, pull, unpull, fill, ◌$◌, !, qed, by, move, use0, use1, use2, split, pick, rewrite, frame, assume, check, show}
use types.Part.{Part, whole, sub, look_in}
use types.Run.{Reads, Writes, Opd, Opds, Rv, look, stop, fld, from, load, assigns, first, branches, skips, returns_within}
use denote.RattleType.{RattleType}
use denote.Laws.{Is, Tells, shows}
use denote.Memory.{part_at, lone}
use denote.Steps.{only, peeks, facts}
use denote.Signature.{type_at}
use denote.Triple.Entry.{Res, alive}
use denote.Triple.Bound.{passed}
use denote.Triple.Spec.{triple_of}
use denote.Triple.Statement.{Triple}
use denote.Triple.Clauses.{Ended, Clauses, Lasts, lasts, at_exit, closing}
use denote.Triple.Call.{calls_at}
use borrow.Table.OneValue.{One, part_out, part_in}
use borrow.Rule.Array.Init.{part_room}
use Rattle.places.proofs.Within.{Within}

-- count numbers from the first on
abbrev pub span : ℕ → ℕ → List ℕ
span first zero = []
span first (suc count) = first ∷ span (suc first) count

-- Where entry n stands once those of π are moved to the front; and the move that takes the first `count` entries back.
abbrev either : Bool → ℕ → ℕ → ℕ
either true m n = m
either false m n = n

abbrev before : ℕ → List ℕ → ℕ
before n [] = 0
before n (p ∷ π) = either (ltb p n) 1 0 + before n π

abbrev stands : ℕ → ℕ → List ℕ → List ℕ → ℕ
stands n j π [] = j + n - before n π
stands n j π (p ∷ ps) = either (eqb p n) j (stands n (suc j) π ps)

abbrev stand : List ℕ → List ℕ → List ℕ
stand π [] = []
stand π (n ∷ ns) = stands n 0 π π ∷ stand π ns

abbrev pub back : List ℕ → ℕ → List ℕ
back π count = stand π (span 0 count)

module _ {M : Type 1} {𝓤 : Ura M} {𝓛 : Logic 𝓤} {K : Type 0} {Γ : List (Item 𝓤)} where
  open 𝓛 use {H}

  pub look-part : K → (n : ℕ) (q : Share) (R F : RattleType) (h : R.Denot) (f : F.Denot) (b o p : ℕ) → One F → (val : F.Denot → Val) → Tells F (Is F) (λ y. val y ∷ [])
      → nth 𝓛 n Γ ≡ ‵ (part_at R q h b o) → Within 𝓛 q R F h h f f b o p → Reads K 𝓛 Γ (lone F.mir) b p (val f)
  look-part t n q R F h f b o p one val tl e part = record {
    go = λ Kt k.
        via 𝓤 (sep 𝓤 (sem 𝓛 (part_at R q h b o)) (⋆ 𝓛 (del 𝓛 n Γ)))
        (subst (λ (j : Item 𝓤). ent 𝓤 (⋆ 𝓛 Γ) (sep 𝓤 (mean 𝓛 j) (⋆ 𝓛 (del 𝓛 n Γ)))) e (pull 𝓛 n Γ))
        (qed 𝓛 (‵ (part_at R q h b o) ∷ raw (⋆ 𝓛 (del 𝓛 n Γ)) ∷ []) {P = read 𝓤 H (lone F.mir) b p Kt} (
        use1 𝓛 (‵ (part_at F q f b p) ⊛ raw (wand 𝓤 (sem 𝓛 (part_at F q f b p)) (sem 𝓛 (part_at R q h b o)))) part $ split ! $
        use1 𝓛 (some (λ (w : Val). ‵ (fat q (lone F.mir) b p w) ⊛ ‵ (F.own_val f (w ∷ [])))) (part_out 𝓛 F one q f b p) $ pick ! (λ w. split ! $ move ! (1 ∷ []) $
        peeks ! F (Is F) (shows 𝓛 F) f (w ∷ []) (λ is. rewrite ! 0 (λ (us : List Val). ‵ (F.own_val f us)) (tl f (w ∷ []) is) refl $
        rewrite ! 1 (λ (u : Val). ‵ (fat q (lone F.mir) b p u)) (ap only (tl f (w ∷ []) is)) refl $ move ! (1 ∷ []) $
        -- [the part's cell; what it owns; the way back; the rest]
        show ! (λ (s : Share). ex 𝓤 (λ (u : Val). sep 𝓤 (H.at s (lone F.mir) b p u) (wand 𝓤 (H.at s (lone F.mir) b p u) (Kt u)))) q $
        show ! (λ (u : Val). sep 𝓤 (H.at q (lone F.mir) b p u) (wand 𝓤 (H.at q (lone F.mir) b p u) (Kt u))) (val f) $ frame ! $
        assume ! (‵ (fat q (lone F.mir) b p (val f))) $ use2 𝓛 (‵ (part_at F q f b p)) (part_in 𝓛 F one q f b p (val f)) $
        use2 𝓛 (‵ (part_at R q h b o)) (apply∗ 𝓤 (sem 𝓛 (part_at F q f b p)) (sem 𝓛 (part_at R q h b o))) $
        by ! (via 𝓤 (⋆ 𝓛 Γ) (subst (λ (j : Item 𝓤). ent 𝓤 (sep 𝓤 (mean 𝓛 j) (⋆ 𝓛 (del 𝓛 n Γ))) (⋆ 𝓛 Γ)) e (unpull 𝓛 n Γ)) k)))));
  }

  -- what the part's type says of its value is known
  pub know-part : K → (n : ℕ) (q : Share) (R F : RattleType) (h : R.Denot) (f : F.Denot) (b o p : ℕ) → One F → nth 𝓛 n Γ ≡ ‵ (part_at R q h b o) → Within 𝓛 q R F h h f f b o p
      → {G : Goal 𝓤 H} → ((w : Val) → Is F f (w ∷ []) → Seq K 𝓛 Γ G) → Seq K 𝓛 Γ G
  know-part t n q R F h f b o p one e part {G} k = record {
    prf = via 𝓤 (sep 𝓤 (sem 𝓛 (part_at R q h b o)) (⋆ 𝓛 (del 𝓛 n Γ)))
        (subst (λ (j : Item 𝓤). ent 𝓤 (⋆ 𝓛 Γ) (sep 𝓤 (mean 𝓛 j) (⋆ 𝓛 (del 𝓛 n Γ)))) e (pull 𝓛 n Γ))
        (qed 𝓛 (‵ (part_at R q h b o) ∷ raw (⋆ 𝓛 (del 𝓛 n Γ)) ∷ []) {P = aim 𝓤 H G} (
        use1 𝓛 (‵ (part_at F q f b p) ⊛ raw (wand 𝓤 (sem 𝓛 (part_at F q f b p)) (sem 𝓛 (part_at R q h b o)))) part $ split ! $
        use1 𝓛 (some (λ (w : Val). ‵ (fat q (lone F.mir) b p w) ⊛ ‵ (F.own_val f (w ∷ [])))) (part_out 𝓛 F one q f b p) $ pick ! (λ w. split ! $ move ! (1 ∷ []) $
        peeks ! F (Is F) (shows 𝓛 F) f (w ∷ []) (λ is. move ! (1 ∷ 0 ∷ []) $ use2 𝓛 (‵ (part_at F q f b p)) (part_in 𝓛 F one q f b p w) $
        use2 𝓛 (‵ (part_at R q h b o)) (apply∗ 𝓤 (sem 𝓛 (part_at F q f b p)) (sem 𝓛 (part_at R q h b o))) $
        by ! (via 𝓤 (⋆ 𝓛 Γ) (subst (λ (j : Item 𝓤). ent 𝓤 (sep 𝓤 (mean 𝓛 j) (⋆ 𝓛 (del 𝓛 n Γ))) (⋆ 𝓛 Γ)) e (unpull 𝓛 n Γ)) (k w is).prf)))));
  }

  pub store-part : K → (n : ℕ) (R F : RattleType) (h h' : R.Denot) (f f' : F.Denot) (b o p : ℕ) → One F → (v : Val) → T (has_ty (lone F.mir) v) × WT v → ent 𝓤 (emp 𝓤) (sem 𝓛 (F.own_val f' (v ∷ [])))
      → nth 𝓛 n Γ ≡ ‵ (part_at R full_share h b o) → Within 𝓛 full_share R F h h' f f' b o p → Writes K 𝓛 Γ (lone F.mir) b p v (put 𝓛 n (‵ (part_at R full_share h' b o)) Γ)
  store-part t n R F h h' f f' b o p one v wt own e part = record {
    go = λ P k.
        via 𝓤 (sep 𝓤 (sem 𝓛 (part_at R full_share h b o)) (⋆ 𝓛 (del 𝓛 n Γ)))
        (subst (λ (j : Item 𝓤). ent 𝓤 (⋆ 𝓛 Γ) (sep 𝓤 (mean 𝓛 j) (⋆ 𝓛 (del 𝓛 n Γ)))) e (pull 𝓛 n Γ))
        (qed 𝓛 (‵ (part_at R full_share h b o) ∷ raw (⋆ 𝓛 (del 𝓛 n Γ)) ∷ []) {P = write 𝓤 H (lone F.mir) b p v P} (check ! wt $
        use1 𝓛 (‵ (part_at F full_share f b p) ⊛ raw (wand 𝓤 (sem 𝓛 (part_at F full_share f' b p)) (sem 𝓛 (part_at R full_share h' b o)))) part $ split ! $
        use1 𝓛 (‵ (froom (lone F.mir) b p)) (part_room 𝓛 F f b p) $ frame ! $
        assume ! (‵ (fat full_share (lone F.mir) b p v)) $ use0 𝓛 (‵ (F.own_val f' (v ∷ []))) own $ move ! (1 ∷ 0 ∷ []) $
        use2 𝓛 (‵ (part_at F full_share f' b p)) (part_in 𝓛 F one full_share f' b p v) $
        use2 𝓛 (‵ (part_at R full_share h' b o)) (apply∗ 𝓤 (sem 𝓛 (part_at F full_share f' b p)) (sem 𝓛 (part_at R full_share h' b o))) $
        by ! (via 𝓤 (⋆ 𝓛 (put 𝓛 n (‵ (part_at R full_share h' b o)) Γ)) (fill 𝓛 n (‵ (part_at R full_share h' b o)) Γ) k)));
  }

  -- a goal under an update, once no rule that updates is left to use
  pub updated : K → {P : SProp 𝓤} → Step K 𝓛 Γ (prop (H.⇛ P)) Γ (upd P)
  updated t = step (λ s. record { prf = s.prf })

  -- a whole local, read
  pub var : K → {E : Env 𝓤 H} {i : ℕ} (n : ℕ) {q : Share} {v : Val} → nth 𝓛 n Γ ≡ ‵ (fat q (spot_of 𝓤 H E i).0 (spot_of 𝓤 H E i).1 0 v) → Opd K 𝓛 Γ E (copy (place i [])) v
  var t n e = load t (from t (stop t)) (look t n e)

  -- field k of a local record, read: τ is its type, and it lies d bytes in
  pub var-field : K → {E : Env 𝓤 H} {i : ℕ} (n k : ℕ) (τ : Ty) (d : ℕ) {q : Share} {ν : Sym} {τs : Tys} {vs : Vals} → nth 𝓛 n Γ ≡ ‵ (fat q (ty_struct ν τs) (spot_of 𝓤 H E i).1 0 (vstruct vs))
      → field_at zero τs k ≡ some' (τ, d) → field_of (spot_of 𝓤 H E i).0 k ≡ some' (τ, d) → Opd K 𝓛 Γ E (copy (place i (field k ∷ []))) (get_v vs k)
  var-field t {E} {i} n k τ d {q} {ν} {τs} {vs} e at of = load t (from t (fld t {τ = τ} {d = d} of (stop t))) (look_in t n
      (subst (λ (j : Item 𝓤). Part K 𝓛 j q τ (spot_of 𝓤 H E i).1 (0 + d) (get_v vs k) (λ u. ‵ (fat q (ty_struct ν τs) (spot_of 𝓤 H E i).1 0 (vstruct (set_v vs k u))))) (sym e) (sub t k {τ = τ} {d = d} at (whole t))))

  -- a whole local, assigned
  pub sets : K → {C : Calls 𝓤 H} {Λ : Loops 𝓤 H} {E : Env 𝓤 H} {i : ℕ} {rv : RValue} {rest : Body} {q : Post 𝓤 H} {v : Val} {Γ' : List (Item 𝓤)}
      → Rv K 𝓛 Γ E rv v → Writes K 𝓛 Γ (spot_of 𝓤 H E i).0 (spot_of 𝓤 H E i).1 0 v Γ' → Step K 𝓛 Γ' (runs C Λ E rest q) Γ (runs C Λ E (seq (assign (place i []) rv) rest) q)
  sets t r w = assigns t r (from t (stop t)) w

  -- `return rv;`, and `rv` at a function's end: Kf is what the walk ends in
  pub answers : K → (Kf : Val → SProp 𝓤) {C : Calls 𝓤 H} {Λ : Loops 𝓤 H} {E : Env 𝓤 H} {rv : RValue} {Q : Post 𝓤 H} {v : Val} {Γ' : List (Item 𝓤)} → Rv K 𝓛 Γ E rv v → Writes K 𝓛 Γ (spot_of 𝓤 H E 0).0 (spot_of 𝓤 H E 0).1 0 v Γ'
      → Reads K 𝓛 Γ' (spot_of 𝓤 H E 0).0 (spot_of 𝓤 H E 0).1 0 v → post 𝓤 H Q returnsᴼ ≡ at_return 𝓤 H E Kf returnsᴼ → Step K 𝓛 Γ' (frees E (prop (Kf v))) Γ (runs C Λ E (seq (assign (place 0 []) rv) return) Q)
  answers t Kf r w l e = step (λ s. sets t r w $ returns_within t Kf e l $ s)

  -- a call of a function by its contract, where the result's type tells its machine value: afterwards there are what the function ensures, the tokens, and what is said of last values
  pub calls-fn : K → {C : Calls 𝓤 H} {Λ : Loops 𝓤 H} {E : Env 𝓤 H} {f : Callee} {xs : List Operand} {d : Place} {rest : Body} {q : Post 𝓤 H} → FmC 𝓤 H 𝓛.laws C → (S : Ended) (c : Clauses 𝓤 S)
      → Triple 𝓤 (C f) (triple_of 𝓛 S.signature (closing 𝓛 S c)) → (y : (triple_of 𝓛 S.signature (closing 𝓛 S c)).Ghost)
      → (val : Res S.signature y.0.0 → Val) → Tells (type_at S.signature.result y.0.0) (Is (type_at S.signature.result y.0.0)) (λ r. val r ∷ [])
      → Opds K 𝓛 (raw ((triple_of 𝓛 S.signature (closing 𝓛 S c)).pre y) ∷ Γ) E xs (passed 𝓛 S.signature y.0)
      → ((r : Res S.signature y.0.0) (ws : Lasts S y.0.0 y.0.3) → Is (type_at S.signature.result y.0.0) r (val r ∷ [])
      → Seq K 𝓛 (raw ((c y.0.0 y.0.3).ensures y.1 r (at_exit S y.0.0 y.0.3 ws)) ∷ raw (alive 𝓛 S.signature y.0.0 y.0.1) ∷ ‵ (lasts S y.0.0 y.0.3 ws) ∷ Γ) (lands C Λ E d (val r) rest q))
      → Seq K 𝓛 (raw ((triple_of 𝓛 S.signature (closing 𝓛 S c)).pre y) ∷ Γ) (runs C Λ E (seq (call f xs d) rest) q)
  calls-fn t {C} {Λ} {E} {d = d} {rest} {q} fm S c known y val tl os k = calls_at t fm (triple_of 𝓛 S.signature (closing 𝓛 S c)) known y os (λ v.
      use1 𝓛 (later (some (λ (r : Res S.signature y.0.0). (raw (alive 𝓛 S.signature y.0.0 y.0.1) ⊛ ‵ ((type_at S.signature.result y.0.0).own_val r (v ∷ [])))
      ⊛ some (λ (ws : Lasts S y.0.0 y.0.3). ‵ (lasts S y.0.0 y.0.3 ws) ⊛ raw ((c y.0.0 y.0.3).ensures y.1 r (at_exit S y.0.0 y.0.3 ws)))))) (id⊢ 𝓤 _) $ await t tt $ pick t (λ r. split t $ move t (1 ∷ []) $ pick t (λ ws. split t $ move t (2 ∷ []) $ split t $
      -- [the tokens; the result; what is said of last values; the clause]
      move t (1 ∷ []) $ facts t (type_at S.signature.result y.0.0) (Is (type_at S.signature.result y.0.0)) (shows 𝓛 (type_at S.signature.result y.0.0)) r (v ∷ []) (λ is. move t (2 ∷ 0 ∷ 1 ∷ []) $
      subst (λ (u : Val). Seq K 𝓛 (raw ((c y.0.0 y.0.3).ensures y.1 r (at_exit S y.0.0 y.0.3 ws)) ∷ raw (alive 𝓛 S.signature y.0.0 y.0.1) ∷ ‵ (lasts S y.0.0 y.0.3 ws) ∷ Γ) (lands C Λ E d u rest q)) (sym (ap only (tl r (v ∷ []) is)))
      (k r ws (subst (Is (type_at S.signature.result y.0.0) r) (tl r (v ∷ []) is) is))))))

  -- `if c { .. }`, and then the rest: where the arm returns, only the rest goes on
  pub early : K → {C : Calls 𝓤 H} {Λ : Loops 𝓤 H} {E : Env 𝓤 H} {c : Operand} {a rest : Body} {y : Bool} {q : Post 𝓤 H} → Opd K 𝓛 Γ E c (vbool y)
      → (T y → Seq K 𝓛 Γ (runs C Λ E a (any_q (after_seq 𝓤 H (Wp 𝓤 H C Λ E rest (post 𝓤 H q)) (post 𝓤 H q))))) → (T (not y) → Seq K 𝓛 Γ (runs C Λ E rest q)) → Seq K 𝓛 Γ (runs C Λ E (seq (cond c a skip) rest) q)
  early t o taken left = first t $ branches t o taken (λ z. skips t $ record { prf = (left z).prf })
