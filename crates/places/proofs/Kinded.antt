-- `Entry`'s law at `fn f(r: &mut T, n: u64, kind: u64, size: u64, bytes: &[u8]) -> Y`, whose Φ is over the lent value, n, kind, size and the bytes at entry, the answer, and the lent value at exit. Judges G is the contract of `fn g(kind: u64, size: u64, bytes: &[u8]) -> F` that answers G, and Answers G that of `fn g(size: u64, bytes: &[u8]) -> F`.
-- Assumes `Logic`.
use mathlib.Core.Path.{◌≡◌, refl}
use Prim.Native.Nat.{ℕ, ◌<◌, ◌^◌}
use mathlib.Core.List.{[], ◌∷◌, List}
use mathlib.Core.Option.{Option}
use seplogic.Ra.Ura.{Ura}
use mir.Syntax.{Ty, named, w64, Fn}
use mir.Val.{Val, vint, vptr}
use base.Logic.{SProp, ent, sep, emp}
use base.Fml.{GName, Lft, Share, flft, fobs, fbor}
use prog.Wp.{WpFn, Tables}
use types.Logic.{Logic, sem}
use contract.Lifetimes.{toks}
use contract.Monad.{fact}
use types.Kit.{Item, prop, frees, Sq, ‵, raw, ◌$◌, ◌∵◌, !, qed, move, drop, join, fsplit, fjoin, done}
use types.SemTy.{Body}
use denote.RattleType.{RattleType, Denots, Valss}
use denote.Laws.{Is}
use denote.Memory.{mem}
use denote.Plain.{uint_vals, uint_Tells, uint_Makes}
use denote.Builtin.{u8, u64}
use denote.Ref.{Bor}
use denote.Slice.{shr_slice_vals, ShrSlice, shr_slice_Tells}
use denote.Signature.{Slot, plain, shr_slice, types_at}
use denote.Steps.{owned, nothing}
use denote.Triple.Spec.{Meets, triple_of}
use denote.Triple.Statement.{Contract}
use denote.Triple.Clauses.{Ended, Clauses, closing}
use denote.Triple.End.{Kepts}
use denote.Exit.{yes}
use Rattle.places.proofs.Frame.{locals}
use Rattle.places.proofs.Entry as entry
use Rattle.places.proofs.Store.{Data}

abbrev payload : List (Slot 2)
payload = plain (λ _. u64) ∷ plain (λ _. u64) ∷ plain (λ _. u64) ∷ shr_slice 1 tt (λ _. u8) ∷ []

abbrev kept : Kepts payload
kept = (yes, (yes, (yes, (yes, tt))))

module _ (R Y : RattleType) where
  abbrev pub Claim : Type 1
  Claim = R.Denot → ℕ → ℕ → ℕ → List ℕ → Y.Denot → R.Denot → Type 0

  module _ (Φ : Claim) where
    abbrev claim : entry.Claim R 1 payload kept Y
    claim κs h a r t = Φ h a.0 a.1.0 a.1.1.0 a.1.1.1.0.now r t

  module _ {M : Type 1} {𝓤 : Ura M} (𝓛 : Logic 𝓤) (Φ : Claim) where
    open 𝓛 use {H}

    module _ (κ κ' : Lft) (q q' : Share) (b o : ℕ) (γ : GName) (h : R.Denot) (n kind size : ℕ) (bytes : Bor (List ℕ)) where
      abbrev args : Denots (types_at payload (κ, (κ', tt)))
      args = (n, (kind, (size, (bytes, tt))))

      abbrev vals : Valss (types_at payload (κ, (κ', tt)))
      vals = (vint w64 n ∷ [], (vint w64 kind ∷ [], (vint w64 size ∷ [], (shr_slice_vals bytes, tt))))

      abbrev pub Post : Val → SProp 𝓤
      Post = entry.Post R 1 payload kept Y 𝓛 (claim Φ) (κ, (κ', tt)) (q, (q', tt)) b o γ h args vals

      abbrev pub Shut : List (Item 𝓤)
      Shut = ‵ (fobs γ (R.coded.code h)) ∷ ‵ (fbor κ (Body (mem R) b o γ)) ∷ ‵ (flft κ q) ∷ raw (toks 𝓛 1 (κ', tt) (q', tt)) ∷ ‵ ((ShrSlice (named 1) κ' u8).own_val bytes (shr_slice_vals bytes)) ∷ []

      abbrev pub Open : R.Denot → List (Item 𝓤)
      Open = entry.Open R 1 payload kept Y 𝓛 (claim Φ) (κ, (κ', tt)) (q, (q', tt)) b o γ h args vals

      pub ends : (E : List (Ty × ℕ)) (vs : List (Option Val)) (D : Data Y) (r : Y.Denot) (v : Val) → Is Y r (v ∷ []) → (t : R.Denot) → Φ h n kind size bytes.now r t → Sq 𝓛 (locals 𝓤 E vs (Open t)) (frees E (prop (Post v)))
      ends E vs D r v is t e = entry.ends R 1 payload kept Y 𝓛 (claim Φ) (κ, (κ', tt)) (q, (q', tt)) b o γ h args vals E vs v r (D.makes 𝓛 r v is) t (tt, (tt, (tt, (tt, tt)))) e

    abbrev pub Met : Tables 𝓤 H → Fn → Type 1
    Met 𝓣 f = Meets 𝓛 (entry.ended R 1 payload kept Y).signature (WpFn 𝓤 H 𝓣.C 𝓣.Λ f) (closing 𝓛 (entry.ended R 1 payload kept Y) (entry.Said R 1 payload kept Y 𝓤 (claim Φ)))

    pub meets : (𝓣 : Tables 𝓤 H) (f : Fn)
        → ((κ κ' : Lft) (q q' : Share) (b o : ℕ) (γ : GName) (h : R.Denot) (n kind size : ℕ) (bytes : Bor (List ℕ)) → n < 2 ^ 64 → kind < 2 ^ 64 → size < 2 ^ 64 → Is (ShrSlice (named 1) κ' u8) bytes (shr_slice_vals bytes)
        → Sq 𝓛 (Shut κ κ' q q' b o γ h n kind size bytes) (prop (WpFn 𝓤 H 𝓣.C 𝓣.Λ f (vptr b o ∷ vint w64 n ∷ vint w64 kind ∷ vint w64 size ∷ shr_slice_vals bytes) (Post κ κ' q q' b o γ h n kind size bytes))))
        → Met 𝓣 f
    meets 𝓣 f walk = entry.meets R 1 payload kept Y 𝓛 (claim Φ) 𝓣 f (λ κs x g. refl, (λ κs x g. refl, (λ κs x g. refl, (λ κs x g. refl, tt))))
        (λ κs. (uint_vals w64, (uint_vals w64, (uint_vals w64, (shr_slice_vals, tt))))) (λ κs. (uint_Tells w64, (uint_Tells w64, (uint_Tells w64, (shr_slice_Tells (named 1) κs.1.0 u8, tt)))))
        (λ κs qs b o γ h a are. fsplit ! $ drop ! $ fsplit ! $ drop ! $ fsplit ! $ drop ! $ fsplit ! $ move ! (1 ∷ []) $ drop ! $ move ! (1 ∷ 2 ∷ 3 ∷ 4 ∷ []) $
        walk κs.0 κs.1.0 qs.0 qs.1.0 b o γ h a.0 a.1.0 a.1.1.0 a.1.1.1.0 are.0.1 are.1.0.1 are.1.1.0.1 are.1.1.1.0)

-- ---- a function of a kind and a payload
module _ (F : RattleType) where
  abbrev pub judge : Ended
  judge = record {
    signature = record { lifetimes = 1; outlives = []; params = plain (λ _. u64) ∷ plain (λ _. u64) ∷ shr_slice 0 tt (λ _. u8) ∷ []; result = plain (λ _. F) };
    kept = (yes, (yes, (yes, tt)));
  }

  module _ {M : Type 1} (𝓤 : Ura M) (G : ℕ → ℕ → List ℕ → F.Denot) where
    abbrev pub judges : Clauses 𝓤 judge
    judges κs a = record { ghost = Unit {0}; requires = λ _. emp 𝓤; ensures = λ _ r _. fact 𝓤 (r ≡ G a.0 a.1.0 a.1.1.0.now) }

  module _ {M : Type 1} {𝓤 : Ura M} (𝓛 : Logic 𝓤) (G : ℕ → ℕ → List ℕ → F.Denot) where
    abbrev pub Judges : Contract 𝓤
    Judges = triple_of 𝓛 judge.signature (closing 𝓛 judge (judges 𝓤 G))

    abbrev pub about : Lft → Share → ℕ → ℕ → Bor (List ℕ) → Judges.Ghost
    about κ q kind size bytes = (((κ, tt), (q, tt), tt, (kind, (size, (bytes, tt))), (vint w64 kind ∷ [], (vint w64 size ∷ [], (shr_slice_vals bytes, tt)))), tt)

    pub asks : (κ : Lft) (q : Share) (kind size : ℕ) (bytes : Bor (List ℕ)) → kind < 2 ^ 64 → size < 2 ^ 64
        → ent 𝓤 (sep 𝓤 (sem 𝓛 ((ShrSlice (named 1) κ u8).own_val bytes (shr_slice_vals bytes))) (toks 𝓛 1 (κ, tt) (q, tt))) (Judges.pre (about κ q kind size bytes))
    asks κ q kind size bytes kind_fits size_fits = qed 𝓛 (‵ ((ShrSlice (named 1) κ u8).own_val bytes (shr_slice_vals bytes)) ∷ raw (toks 𝓛 1 (κ, tt) (q, tt)) ∷ []) ∵ nothing ! $ move ! (1 ∷ 0 ∷ []) $ fjoin ! $
        owned ! u64 (Is u64) (uint_Makes 𝓛 w64) size _ (refl, size_fits) $ fjoin ! $ owned ! u64 (Is u64) (uint_Makes 𝓛 w64) kind _ (refl, kind_fits) $ fjoin ! $ move ! (1 ∷ 0 ∷ []) $ join ! $ nothing ! $ move ! (1 ∷ 0 ∷ []) $ done !

-- ---- a function of a payload
module _ (F : RattleType) where
  abbrev pub answerer : Ended
  answerer = record {
    signature = record { lifetimes = 1; outlives = []; params = plain (λ _. u64) ∷ shr_slice 0 tt (λ _. u8) ∷ []; result = plain (λ _. F) };
    kept = (yes, (yes, tt));
  }

  module _ {M : Type 1} (𝓤 : Ura M) (G : ℕ → List ℕ → F.Denot) where
    abbrev pub answers : Clauses 𝓤 answerer
    answers κs a = record { ghost = Unit {0}; requires = λ _. emp 𝓤; ensures = λ _ r _. fact 𝓤 (r ≡ G a.0 a.1.0.now) }

  module _ {M : Type 1} {𝓤 : Ura M} (𝓛 : Logic 𝓤) (G : ℕ → List ℕ → F.Denot) where
    abbrev pub Answers : Contract 𝓤
    Answers = triple_of 𝓛 answerer.signature (closing 𝓛 answerer (answers 𝓤 G))

    abbrev pub of-payload : Lft → Share → ℕ → Bor (List ℕ) → Answers.Ghost
    of-payload κ q size bytes = (((κ, tt), (q, tt), tt, (size, (bytes, tt)), (vint w64 size ∷ [], (shr_slice_vals bytes, tt))), tt)

    pub asks-payload : (κ : Lft) (q : Share) (size : ℕ) (bytes : Bor (List ℕ)) → size < 2 ^ 64
        → ent 𝓤 (sep 𝓤 (sem 𝓛 ((ShrSlice (named 1) κ u8).own_val bytes (shr_slice_vals bytes))) (toks 𝓛 1 (κ, tt) (q, tt))) (Answers.pre (of-payload κ q size bytes))
    asks-payload κ q size bytes fits = qed 𝓛 (‵ ((ShrSlice (named 1) κ u8).own_val bytes (shr_slice_vals bytes)) ∷ raw (toks 𝓛 1 (κ, tt) (q, tt)) ∷ []) ∵ nothing ! $ move ! (1 ∷ 0 ∷ []) $ fjoin ! $
        owned ! u64 (Is u64) (uint_Makes 𝓛 w64) size _ (refl, fits) $ fjoin ! $ move ! (1 ∷ 0 ∷ []) $ join ! $ nothing ! $ move ! (1 ∷ 0 ∷ []) $ done !
