-- A function's frame in a walk: local i is entry i of the context, and what lets the locals go stands after them.
--     locals E vs Γ    the locals E, each with its value where vs has one and else with room for one, and then Γ
--     allots, passing  a function is entered: its locals are there, and its parameters have their values
--     free_all         its locals are freed, whatever they hold
-- Assumes `Logic`.
use Prim.Native.Nat.{ℕ}
use mathlib.Core.List.{List, [], ◌∷◌, map}
use mathlib.Core.Option.{Option, none, some}
use seplogic.Ra.Ura.{Ura}
use base.Fraction.{full_share}
use lib.Dec.{T}
use mir.Syntax.{Ty, Local, local}
use mir.Val.{Val, WT, has_ty}
use base.Logic.{SProp, ent, sep, emp, via, id⊢, snd∗}
use base.Fml.{Fml, ftrue, fsep, fat, froom, fdies}
use prog.Wp.{Env, release, pass, write}
use types.Logic.{Logic, sem}
use types.Kit.{Goal, aim, Seq, Step, step, allocs, passes, frees, prop, pop, push, Item, ‵, raw, ◌⊛◌, mean, ⋆, ◌$◌, ◌∵◌, !, qed, by, move, use1, use2, split, join, fsplit, fjoin, frame, assume, check}
use types.Run.{alloc1, alloc0}
use denote.Steps.{nothing}
use borrow.Fn.Frame.{EnvOf}

abbrev cell : Ty × ℕ → Option Val → Fml
cell e none = froom e.0 e.1 0
cell e (some v) = fat full_share e.0 e.1 0 v

abbrev first : List (Option Val) → Option Val
first [] = none
first (v ∷ vs) = v

abbrev others : List (Option Val) → List (Option Val)
others [] = []
others (v ∷ vs) = vs

abbrev cells : {M : Type 1} (𝓤 : Ura M) → List (Ty × ℕ) → List (Option Val) → List (Item 𝓤) → List (Item 𝓤)
cells 𝓤 [] vs Γ = Γ
cells 𝓤 (e ∷ E) vs Γ = ‵ (cell e (first vs)) ∷ cells 𝓤 E (others vs) Γ

abbrev dying : List (Ty × ℕ) → Fml
dying [] = ftrue
dying (e ∷ E) = fsep (fdies e.0 e.1) (dying E)

abbrev pub locals : {M : Type 1} (𝓤 : Ura M) → List (Ty × ℕ) → List (Option Val) → List (Item 𝓤) → List (Item 𝓤)
locals 𝓤 E vs Γ = cells 𝓤 E vs (‵ (dying E) ∷ Γ)

-- values of the locals' types
abbrev pub Fit : List (Ty × ℕ) → List Val → Type 0
Fit E [] = Unit {0}
Fit [] (v ∷ vs) = ⊥
Fit (e ∷ E) (v ∷ vs) = (T (has_ty e.0 v) × WT v) × Fit E vs

module _ {M : Type 1} {𝓤 : Ura M} (𝓛 : Logic 𝓤) where
  open 𝓛 use {H}

  abbrev All : List (Ty × ℕ) → List (Option Val) → List (Item 𝓤) → Item 𝓤
  All E vs Γ = raw (⋆ 𝓛 (cells 𝓤 E vs Γ))

  out_of : (E : List (Ty × ℕ)) (vs : List (Option Val)) (i : Item 𝓤) (Γ : List (Item 𝓤)) → ent 𝓤 (⋆ 𝓛 (cells 𝓤 E vs (i ∷ Γ))) (sep 𝓤 (mean 𝓛 i) (⋆ 𝓛 (cells 𝓤 E vs Γ)))
  out_of [] vs i Γ = pop 𝓛 i Γ
  out_of (e ∷ E) vs i Γ = via 𝓤 _ (pop 𝓛 (‵ (cell e (first vs))) (cells 𝓤 E (others vs) (i ∷ Γ)))
      (qed 𝓛 (‵ (cell e (first vs)) ∷ All E (others vs) (i ∷ Γ) ∷ []) ∵ move ! (1 ∷ []) $ use1 𝓛 (i ⊛ All E (others vs) Γ) (out_of E (others vs) i Γ) $ split ! $ frame ! $ move ! (1 ∷ 0 ∷ []) $
      by ! (push 𝓛 (‵ (cell e (first vs))) (cells 𝓤 E (others vs) Γ)))

  into : (E : List (Ty × ℕ)) (vs : List (Option Val)) (i : Item 𝓤) (Γ : List (Item 𝓤)) → ent 𝓤 (sep 𝓤 (mean 𝓛 i) (⋆ 𝓛 (cells 𝓤 E vs Γ))) (⋆ 𝓛 (cells 𝓤 E vs (i ∷ Γ)))
  into [] vs i Γ = push 𝓛 i Γ
  into (e ∷ E) vs i Γ =
      qed 𝓛 (i ∷ All (e ∷ E) vs Γ ∷ []) ∵ move ! (1 ∷ []) $ use1 𝓛 (‵ (cell e (first vs)) ⊛ All E (others vs) Γ) (pop 𝓛 (‵ (cell e (first vs))) (cells 𝓤 E (others vs) Γ)) $ split ! $ move ! (2 ∷ 1 ∷ []) $
      use2 𝓛 (All E (others vs) (i ∷ Γ)) (into E (others vs) i Γ) $ move ! (1 ∷ 0 ∷ []) $ by ! (push 𝓛 (‵ (cell e (first vs))) (cells 𝓤 E (others vs) (i ∷ Γ)))

  room : (e : Ty × ℕ) (v : Option Val) → ent 𝓤 (sem 𝓛 (cell e v)) (H.room e.0 e.1 0)
  room e none = id⊢ 𝓤 (H.room e.0 e.1 0)
  room e (some v) = 𝓛.laws.at_room e.0 e.1 0 v

  freed : (E : List (Ty × ℕ)) (vs : List (Option Val)) (Γ : List (Item 𝓤)) (P : SProp 𝓤) → ent 𝓤 (⋆ 𝓛 Γ) P → ent 𝓤 (⋆ 𝓛 (locals 𝓤 E vs Γ)) (release 𝓤 H E P)
  freed [] vs Γ P s = via 𝓤 (sep 𝓤 (emp 𝓤) (⋆ 𝓛 Γ)) (pop 𝓛 (‵ ftrue) Γ) (via 𝓤 (⋆ 𝓛 Γ) (snd∗ 𝓤 (emp 𝓤) (⋆ 𝓛 Γ)) s)
  freed (e ∷ E) vs Γ P s = via 𝓤 _ (pop 𝓛 (‵ (cell e (first vs))) (cells 𝓤 E (others vs) (‵ (dying (e ∷ E)) ∷ Γ)))
      (qed 𝓛 (‵ (cell e (first vs)) ∷ All E (others vs) (‵ (dying (e ∷ E)) ∷ Γ) ∷ []) ∵ use1 𝓛 (‵ (froom e.0 e.1 0)) (room e (first vs)) $ move ! (1 ∷ []) $
      use1 𝓛 (‵ (dying (e ∷ E)) ⊛ All E (others vs) Γ) (out_of E (others vs) (‵ (dying (e ∷ E))) Γ) $ split ! $ fsplit ! $
      -- [it dies; they die; the others; room]
      move ! (3 ∷ 0 ∷ []) $ join ! $ frame ! $ use2 𝓛 (All E (others vs) (‵ (dying E) ∷ Γ)) (into E (others vs) (‵ (dying E)) Γ) $ by ! (freed E (others vs) Γ P s))

  gathered : (e : Ty × ℕ) (E : List (Ty × ℕ)) (Γ : List (Item 𝓤))
      → ent 𝓤 (⋆ 𝓛 (locals 𝓤 E [] (‵ (froom e.0 e.1 0) ∷ ‵ (fdies e.0 e.1) ∷ Γ))) (⋆ 𝓛 (locals 𝓤 (e ∷ E) [] Γ))
  gathered e E Γ =
      let r : Item 𝓤 = ‵ (froom e.0 e.1 0) in let d : Item 𝓤 = ‵ (fdies e.0 e.1) in
      qed 𝓛 (All E [] (‵ (dying E) ∷ r ∷ d ∷ Γ) ∷ []) ∵ use1 𝓛 (‵ (dying E) ⊛ All E [] (r ∷ d ∷ Γ)) (out_of E [] (‵ (dying E)) (r ∷ d ∷ Γ)) $ split ! $ move ! (1 ∷ []) $
      use1 𝓛 (r ⊛ All E [] (d ∷ Γ)) (out_of E [] r (d ∷ Γ)) $ split ! $ move ! (1 ∷ []) $ use1 𝓛 (d ⊛ All E [] Γ) (out_of E [] d Γ) $ split ! $
      -- [it dies; the others; room; they die]
      move ! (0 ∷ 3 ∷ []) $ fjoin ! $ use2 𝓛 (All E [] (‵ (dying (e ∷ E)) ∷ Γ)) (into E [] (‵ (dying (e ∷ E))) Γ) $ move ! (1 ∷ 0 ∷ []) $ by ! (push 𝓛 r (cells 𝓤 E [] (‵ (dying (e ∷ E)) ∷ Γ)))

  passed : (E : List (Ty × ℕ)) (vs : List Val) (Γ : List (Item 𝓤)) (P : SProp 𝓤) → Fit E vs → ent 𝓤 (⋆ 𝓛 (cells 𝓤 E (map some vs) Γ)) P → ent 𝓤 (⋆ 𝓛 (cells 𝓤 E [] Γ)) (pass 𝓤 H E vs P)
  passed E [] Γ P fit s = s
  passed [] (v ∷ vs) Γ P fit s = absurd fit
  passed (e ∷ E) (v ∷ vs) Γ P fit s = let c : Item 𝓤 = ‵ (fat full_share e.0 e.1 0 v) in
      via 𝓤 _ (pop 𝓛 (‵ (froom e.0 e.1 0)) (cells 𝓤 E [] Γ))
      (qed 𝓛 (‵ (froom e.0 e.1 0) ∷ All E [] Γ ∷ []) {P = write 𝓤 H e.0 e.1 0 v (pass 𝓤 H E vs P)} (check ! fit.0 $ frame ! $ assume ! c $ use2 𝓛 (All E [] (c ∷ Γ)) (into E [] c Γ) $
      by ! (passed E vs (c ∷ Γ) P fit.1 (via 𝓤 _ (out_of E (map some vs) c Γ) (via 𝓤 _ (push 𝓛 c (cells 𝓤 E (map some vs) Γ)) s)))))

  under : (i : Item 𝓤) (E : List (Ty × ℕ)) (vs : List Val) (Γ : List (Item 𝓤)) (P : SProp 𝓤) → Fit E vs → ent 𝓤 (⋆ 𝓛 (i ∷ cells 𝓤 E (map some vs) Γ)) P → ent 𝓤 (⋆ 𝓛 (i ∷ cells 𝓤 E [] Γ)) (pass 𝓤 H E vs P)
  under i E vs Γ P fit s = via 𝓤 _ (pop 𝓛 i (cells 𝓤 E [] Γ)) (via 𝓤 _ (into E [] i Γ) (passed E vs (i ∷ Γ) P fit (via 𝓤 _ (out_of E (map some vs) i Γ) (via 𝓤 _ (push 𝓛 i (cells 𝓤 E (map some vs) Γ)) s))))

abbrev pub tys : List Local → List Ty
tys [] = []
tys (local τ h ∷ ls) = τ ∷ tys ls

module _ {M : Type 1} {𝓤 : Ura M} {𝓛 : Logic 𝓤} {K : Type 0} where
  open 𝓛 use {H}

  pub allots : K → {ls : List Local} {Γ : List (Item 𝓤)} {Kt : Env 𝓤 H → Goal 𝓤 H} → ((bs : List ℕ) → Seq K 𝓛 (locals 𝓤 (EnvOf 𝓛 (tys ls) bs) [] Γ) (Kt (EnvOf 𝓛 (tys ls) bs))) → Seq K 𝓛 Γ (allocs ls Kt)
  allots t {ls = []} k = alloc0 t $ nothing t $ k []
  allots t {ls = local τ h ∷ ls} {Γ} k = alloc1 t (λ b. allots t {ls = ls} (λ bs. record { prf = via 𝓤 _ (gathered 𝓛 (τ, b) (EnvOf 𝓛 (tys ls) bs) Γ) (k (b ∷ bs)).prf }))

  pub passing : K → {i : Item 𝓤} {E : Env 𝓤 H} {vs : List Val} (Γ : List (Item 𝓤)) {G : Goal 𝓤 H} → Fit E vs → Step K 𝓛 (i ∷ cells 𝓤 E (map some vs) Γ) G (i ∷ cells 𝓤 E [] Γ) (passes E vs G)
  passing t {i} {E} {vs} Γ {G} fit = step (λ s. record { prf = under 𝓛 i E vs Γ (aim 𝓤 H G) fit s.prf })

  pub free_all : K → {E : List (Ty × ℕ)} (vs : List (Option Val)) {Γ : List (Item 𝓤)} {P : SProp 𝓤} → Step K 𝓛 Γ (prop P) (locals 𝓤 E vs Γ) (frees E (prop P))
  free_all t {E} vs {Γ} {P} = step (λ s. record { prf = freed 𝓛 E vs Γ P s.prf })
