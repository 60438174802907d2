-- What a walk has to know of the types: it is over any of them, so none computes with those of the records that an element holds.
--     Data P           a type of plain data: its machine value, and that what its relation says is enough to store it and to own it
--     Seen P Q         a part Q of a P that is looked at: the fields that lead to it, and where it lies.        Part P Q     one that is changed too
--     Store            a struct R whose first field is an array of eight elements P, each with a mark, a byte
--     Flagged Y Q      a struct of an answer Y, a byte, and a record Q
-- Assumes nothing.
use mathlib.Core.Path.{◌≡◌, refl, subst}
use mathlib.Core.Option.{some}
use Prim.Native.Nat.{ℕ, zero, ◌+◌, ◌*◌, ◌<◌, ◌^◌}
use mathlib.Core.List.{List, [], ◌∷◌}
use seplogic.Ra.Ura.{Ura}
use lib.Dec.{T}
use mir.Syntax.{Sym, Ty, Step, field, ty_int, ty_struct, tcons, tnil, w8}
use mir.Val.{Val, vint, vstruct, vcons, vnil, WT, has_ty}
use base.Logic.{ent, emp}
use base.Fml.{Share}
use prog.Memory.{field_at, field_of}
use prog.Wp.{Env, Spot}
use types.Logic.{Logic, sem}
use types.Kit.{Item}
use types.Run.{Walks, fld}
use denote.RattleType.{RattleType}
use denote.Laws.{Is, Tells}
use denote.Copied.{Copied}
use denote.Memory.{lone}
use denote.Builtin.{u8}
use denote.Struct.Declared.{Declared, shape, row, fields}
use denote.Struct.Struct.{Struct, Plains}
use denote.Struct.Laws as LL
use borrow.Table.OneValue.{One}
use Rattle.places.proofs.Within.{Within, as-record, deeper}

pub record Data (P : RattleType) : Type 2 where
  pub one : One P
  pub val : P.Denot → Val
  pub tells : Tells P (Is P) (λ x. val x ∷ [])
  pub typed : {M : Type 1} {𝓤 : Ura M} (𝓛 : Logic 𝓤) (x : P.Denot) (v : Val) → Is P x (v ∷ []) → T (has_ty (lone P.mir) v) × WT v
  pub makes : {M : Type 1} {𝓤 : Ura M} (𝓛 : Logic 𝓤) (x : P.Denot) (v : Val) → Is P x (v ∷ []) → ent 𝓤 (emp 𝓤) (sem 𝓛 (P.own_val x (v ∷ [])))

-- a declared struct of plain data is such
abbrev pub data_of : (N : Declared) (L : LL.Laws N) → Plains (fields N) → Data (row N)
data_of N L pl = record {
  one = refl;
  val = LL.val N L;
  tells = LL.tells N L;
  typed = λ 𝓛 x v is. ((LL.lawful N L 𝓛).typed x (v ∷ []) is).0;
  makes = λ 𝓛 x v is. LL.makes N pl 𝓛 x (v ∷ []) is;
}

pub record Seen (P Q : RattleType) : Type 3 where
  pub path : List Step → List Step
  pub shift : ℕ → ℕ
  pub get : P.Denot → Q.Denot
  pub found : {M : Type 1} {𝓤 : Ura M} {K : Type 0} → K → (𝓛 : Logic 𝓤) (Γ : List (Item 𝓤)) (E : Env 𝓤 𝓛.H) (b p : ℕ) (st : List Step) (sp : Spot 𝓤 𝓛.H)
      → Walks K 𝓛 Γ E (lone Q.mir, b, shift p) st sp → Walks K 𝓛 Γ E (lone P.mir, b, p) (path st) sp
  pub seen : {M : Type 1} {𝓤 : Ura M} (𝓛 : Logic 𝓤) (q : Share) (x : P.Denot) (b p : ℕ) → Within 𝓛 q P Q x x (get x) (get x) b p (shift p)

pub record Part (P Q : RattleType) : Type 3 where
  pub at : Seen P Q
  pub put : P.Denot → Q.Denot → P.Denot
  pub changed : {M : Type 1} {𝓤 : Ura M} (𝓛 : Logic 𝓤) (q : Share) (x : P.Denot) (b p : ℕ) (y : Q.Denot) → Within 𝓛 q P Q x (put x y) (at.get x) y b p (at.shift p)

-- a part of a part
abbrev pub seen-in : {P Q F : RattleType} → Seen P Q → Seen Q F → Seen P F
seen-in {P} {Q} {F} K L = record {
  path = λ st. K.path (L.path st);
  shift = λ p. L.shift (K.shift p);
  get = λ x. L.get (K.get x);
  found = λ t 𝓛 Γ E b p st sp w. K.found t 𝓛 Γ E b p (L.path st) sp (L.found t 𝓛 Γ E b (K.shift p) st sp w);
  seen = λ 𝓛 q x b p. deeper 𝓛 q P Q F x x (K.get x) (K.get x) (L.get (K.get x)) (L.get (K.get x)) b p (K.shift p) (L.shift (K.shift p)) (K.seen 𝓛 q x b p) (L.seen 𝓛 q (K.get x) b (K.shift p));
}

abbrev pub part_in : {P Q F : RattleType} → Part P Q → Part Q F → Part P F
part_in {P} {Q} {F} K L = record {
  at = seen-in K.at L.at;
  put = λ x y. K.put x (L.put (K.at.get x) y);
  changed = λ 𝓛 q x b p y. let z : Q.Denot = L.put (K.at.get x) y in
      deeper 𝓛 q P Q F x (K.put x z) (K.at.get x) z (L.at.get (K.at.get x)) y b p (K.at.shift p) (L.at.shift (K.at.shift p)) (K.changed 𝓛 q x b p z) (L.changed 𝓛 q (K.at.get x) b (K.at.shift p) y);
}

-- field k of a declared struct, d bytes in
abbrev pub field-seen : (O : Declared) (F : RattleType) (k d : ℕ) (get : O.D → F.Denot) → field_of (lone (row O).mir) k ≡ some (lone F.mir, d)
    → ((M : Type 1) (𝓤 : Ura M) (𝓛 : Logic 𝓤) (q : Share) (x : O.D) (b p : ℕ) → Within 𝓛 q (row O) F x x (get x) (get x) b p (p + d)) → Seen (row O) F
field-seen O F k d get e look = record { path = λ st. field k ∷ st; shift = λ p. p + d; get = get; found = λ t 𝓛 Γ E b p st sp w. fld t {τ = lone F.mir} {d = d} e w; seen = λ {M} {𝓤 = 𝓤} 𝓛 q x b p. look M 𝓤 𝓛 q x b p }

-- one that is a byte
abbrev pub byte-part : (O : Declared) (k d : ℕ) (get : O.D → ℕ) (put : O.D → ℕ → O.D) → field_of (lone (row O).mir) k ≡ some (lone u8.mir, d) → ((x : O.D) → put x (get x) ≡ x)
    → ((M : Type 1) (𝓤 : Ura M) (𝓛 : Logic 𝓤) (q : Share) (x : O.D) (b p y : ℕ) → Within 𝓛 q (row O) u8 x (put x y) (get x) y b p (p + d)) → Part (row O) u8
byte-part O k d get put e same cut = record {
  at = field-seen O u8 k d get e (λ M 𝓤 𝓛 q x b p. subst (λ (z : O.D). Within 𝓛 q (row O) u8 x z (get x) (get x) b p (p + d)) (same x) (cut M 𝓤 𝓛 q x b p (get x)));
  put = put;
  changed = λ {M} {𝓤 = 𝓤} 𝓛 q x b p y. cut M 𝓤 𝓛 q x b p y;
}

-- and one that is itself a declared struct
abbrev pub field-part : (O N : Declared) (k d : ℕ) (get : O.D → N.D) (put : O.D → N.D → O.D) → field_of (lone (row O).mir) k ≡ some (lone (row N).mir, d) → ((x : O.D) → put x (get x) ≡ x)
    → ((M : Type 1) (𝓤 : Ura M) (𝓛 : Logic 𝓤) (q : Share) (x : O.D) (b p : ℕ) (y : N.D) → Within 𝓛 q (row O) (Struct (shape N)) x (put x y) (N.to (get x)) (N.to y) b p (p + d)) → Part (row O) (row N)
field-part O N k d get put e same cut = record {
  at = field-seen O (row N) k d get e (λ M 𝓤 𝓛 q x b p. subst (λ (z : O.D). Within 𝓛 q (row O) (row N) x z (get x) (get x) b p (p + d)) (same x) (as-record 𝓛 q (row O) N x (put x (get x)) (get x) (get x) b p (p + d) (cut M 𝓤 𝓛 q x b p (get x))));
  put = put;
  changed = λ {M} {𝓤 = 𝓤} 𝓛 q x b p y. as-record 𝓛 q (row O) N x (put x y) (get x) y b p (p + d) (cut M 𝓤 𝓛 q x b p y);
}

pub record Store : Type 3 where
  pub R : RattleType
  pub P : RattleType
  pub elements : Ty
  pub width : ℕ
  pub get : R.Denot → ℕ → P.Denot
  pub put : R.Denot → ℕ → P.Denot → R.Denot
  pub all : Data R
  pub copy : {M : Type 1} {𝓤 : Ura M} (𝓛 : Logic 𝓤) → Copied 𝓛 R
  pub part : Data P
  pub mark : Seen P u8
  pub array : field_of (lone R.mir) 0 ≡ some (elements, 0)
  pub near : (n : ℕ) → n < 8 → n * width < 2 ^ 64
  -- element n is x, and then y; and it is put there as it was
  pub changed : {M : Type 1} {𝓤 : Ura M} (𝓛 : Logic 𝓤) (q : Share) (h : R.Denot) (n b o : ℕ) → n < 8 → (x y : P.Denot) → Within 𝓛 q R P (put h n x) (put h n y) x y b o (n * width + (o + 0))
  pub same : (h : R.Denot) (n : ℕ) → put h n (get h n) ≡ h

-- a part of element n, which is x; and the same of a store as it came
module _ (S : Store) {M : Type 1} {𝓤 : Ura M} (𝓛 : Logic 𝓤) (q : Share) (h : S.R.Denot) (n b o : ℕ) (lt : n < 8) where
  pub put-changes : {F : RattleType} (x : S.P.Denot) (K : Part S.P F) (y : F.Denot) → Within 𝓛 q S.R F (S.put h n x) (S.put h n (K.put x y)) (K.at.get x) y b o (K.at.shift (n * S.width + (o + 0)))
  put-changes {F} x K y = let p : ℕ = n * S.width + (o + 0) in
      deeper 𝓛 q S.R S.P F (S.put h n x) (S.put h n (K.put x y)) x (K.put x y) (K.at.get x) y b o p (K.at.shift p) (S.changed 𝓛 q h n b o lt x (K.put x y)) (K.changed 𝓛 q x b p y)

  pub put-seen : {F : RattleType} (x : S.P.Denot) (K : Seen S.P F) → Within 𝓛 q S.R F (S.put h n x) (S.put h n x) (K.get x) (K.get x) b o (K.shift (n * S.width + (o + 0)))
  put-seen {F} x K = let p : ℕ = n * S.width + (o + 0) in
      deeper 𝓛 q S.R S.P F (S.put h n x) (S.put h n x) x x (K.get x) (K.get x) b o p (K.shift p) (S.changed 𝓛 q h n b o lt x x) (K.seen 𝓛 q x b p)

  pub changes : (y : S.P.Denot) → Within 𝓛 q S.R S.P h (S.put h n y) (S.get h n) y b o (n * S.width + (o + 0))
  changes y = subst (λ (g : S.R.Denot). Within 𝓛 q S.R S.P g (S.put h n y) (S.get h n) y b o (n * S.width + (o + 0))) (S.same h n) (S.changed 𝓛 q h n b o lt (S.get h n) y)

  pub part-changes : {F : RattleType} (K : Part S.P F) (y : F.Denot)
      → Within 𝓛 q S.R F h (S.put h n (K.put (S.get h n) y)) (K.at.get (S.get h n)) y b o (K.at.shift (n * S.width + (o + 0)))
  part-changes {F} K y = subst (λ (g : S.R.Denot). Within 𝓛 q S.R F g (S.put h n (K.put (S.get h n) y)) (K.at.get (S.get h n)) y b o (K.at.shift (n * S.width + (o + 0)))) (S.same h n) (put-changes (S.get h n) K y)

  pub part-seen : {F : RattleType} (K : Seen S.P F) → Within 𝓛 q S.R F h h (K.get (S.get h n)) (K.get (S.get h n)) b o (K.shift (n * S.width + (o + 0)))
  part-seen {F} K = let x : S.P.Denot = S.get h n in subst (λ (g : S.R.Denot). Within 𝓛 q S.R F g g (K.get x) (K.get x) b o (K.shift (n * S.width + (o + 0)))) (S.same h n) (put-seen x K)

pub record Flagged (Y Q : RattleType) (DY : Data Y) (DQ : Data Q) : Type 3 where
  pub F : RattleType
  pub name : Sym
  pub near : ℕ
  pub gap : ℕ
  pub answer : F.Denot → Y.Denot
  pub flag : F.Denot → ℕ
  pub rest : F.Denot → Q.Denot
  pub at-answer : field_at zero (tcons (lone Y.mir) (tcons (ty_int w8) (tcons (lone Q.mir) tnil))) 0 ≡ some (lone Y.mir, 0)
  pub at_flag : field_at zero (tcons (lone Y.mir) (tcons (ty_int w8) (tcons (lone Q.mir) tnil))) 1 ≡ some (ty_int w8, near)
  pub at_rest : field_at zero (tcons (lone Y.mir) (tcons (ty_int w8) (tcons (lone Q.mir) tnil))) 2 ≡ some (lone Q.mir, gap)
  pub tells : Tells F (Is F) (λ r. vstruct (vcons (DY.val (answer r)) (vcons (vint w8 (flag r)) (vcons (DQ.val (rest r)) vnil))) ∷ [])
  pub typed : {M : Type 1} {𝓤 : Ura M} (𝓛 : Logic 𝓤) (r : F.Denot) (v : Val) → Is F r (v ∷ []) → T (has_ty (ty_struct name (tcons (lone Y.mir) (tcons (ty_int w8) (tcons (lone Q.mir) tnil)))) v) × WT v
  pub answered : (r : F.Denot) (v : Val) → Is F r (v ∷ []) → Is Y (answer r) (DY.val (answer r) ∷ [])
  pub rested : (r : F.Denot) (v : Val) → Is F r (v ∷ []) → Is Q (rest r) (DQ.val (rest r) ∷ [])
