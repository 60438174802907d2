-- Kinds 4 and 5, on any size and bytes: what is answered exactly when, and which part of the lent bytes is handed back.
-- Assumes nothing.
use Prim.Native.Nat.{ℕ, ◌-◌, ◌≤◌, ◌<◌}
use mathlib.Core.Path.{◌≡◌, refl, sym, ap, ◌∙◌}
use mathlib.Core.Logic.{◌≢◌, ◌↔◌, ◌⊎◌, inl, inr}
use mathlib.Core.List.{List, []}
use native.Mathlib.Omega.{arith}
use borrow.Author.Tests.{ne_eqb}
use lib.Dec.{eqb}
use lib.ListN.{length, take, drop}
use lib.Seq.{length-take-le}
use Rattle.std.specs.Prelude.{if◌then◌else◌, Option, Some, None}
use Rattle.bits.specs.Bits.{part, unsigned_of}
use Rattle.bits.specs.Identifier.{bytes_of}
use Rattle.bits.specs.Refusals.{by_size}
use Rattle.bits.specs.declared.refusal.Refusal.TheVariants.{Short}
use Rattle.bits.proofs.BitLaws.{below}
use Rattle.format.specs.Whole.{Reading, taken, set_aside, refused}
use Rattle.kind_user_data.specs.Registered.{head_bytes}
use Rattle.answers.specs.Listed.{Record, listing, number, reading_of}
use Rattle.answers.specs.Answer.{answer_number, answer_for, made, refused_as}
use Rattle.reader.specs.Reader.{answer_to, Over}
use Rattle.reader.specs.User.{part_from, user_part}
use Rattle.answers.specs.declared.kind.Kind.{Kind}
use Rattle.answers.specs.declared.kind.Kind.TheVariants as kinds
use Rattle.answers.specs.declared.Answer.{Answer}
use Rattle.answers.specs.declared.Brief.{Brief}
use Rattle.answers.specs.declared.Outcome.TheVariants.{Taken}
use Rattle.answers.proofs.KindLaws.{RestOf, registered, unregistered, neither, rest-of}
use Rattle.reader.proofs.Calls.{to-oversized, to-payload, Call, unlisted, oversized, payload, call}
use Rattle.reader.proofs.UserHeads.{first, first-take, coded, four, five}
use Rattle.reader.proofs.UserHeads as heads

-- ---- where a part starts, that lies within the size, and the size within the lent bytes

abbrev rest_of : Answer → Option ℕ
rest_of a = a.rest

abbrev pub start_of : Brief → Option ℕ
start_of b = b.rest

never : {X : Type 0} {a : ℕ} → None ≡ Some a → X
never e = let z : ◌≡◌ {A = ℕ} 0 1 = cc in absurd (omega arith)

same : {a b : ℕ} → Some a ≡ Some b → a ≡ b
same e = cc

head-1 : (code extension : ℕ) → (code ≡ 255 → ⊥) → head_bytes (coded code extension) ≡ 1
head-1 code extension h = ap (λ b. if b then 2 else 1) (ne_eqb code 255 h)

head-2 : (code extension : ℕ) → code ≡ 255 → head_bytes (coded code extension) ≡ 2
head-2 code extension h = ap (λ c. if eqb c 255 then 2 else 1) h

-- the start in a payload s of kind k
abbrev starts : Kind → List ℕ → Option ℕ
starts k s = rest_of (answer_for k (reading_of k s))

four-inside : (s : List ℕ) {a : ℕ} → starts kinds.Registered s ≡ Some a → a ≤ length s
four-inside s {a} h = go (four s)
  where
    by : {x : Reading (Record kinds.Registered)} → reading_of kinds.Registered s ≡ x → rest_of (answer_for kinds.Registered x) ≡ Some a
    by e = ap (λ x. rest_of (answer_for kinds.Registered x)) (sym e) ∙ h

    go : heads.Four s → a ≤ length s
    go (heads.empty l e) = never (by e)
    go (heads.cut l m f e) = never (by e)
    go (heads.one l f e) = omega (arith, head-1 (first s) 0 f, same (by e))
    go (heads.two l f e) = omega (arith, head-2 (first s) (unsigned_of (part s 8 8)) f, same (by e))

five-inside : (s : List ℕ) {a : ℕ} → starts kinds.Unregistered s ≡ Some a → a ≤ length s
five-inside s {a} h = go (five s)
  where
    by : {x : Reading (Record kinds.Unregistered)} → reading_of kinds.Unregistered s ≡ x → rest_of (answer_for kinds.Unregistered x) ≡ Some a
    by e = ap (λ x. rest_of (answer_for kinds.Unregistered x)) (sym e) ∙ h

    go : heads.Five s → a ≤ length s
    go (heads.short l e) = never (by e)
    go (heads.whole l e) = omega (arith, same (by e))

-- no other kind has a part
no_start : (k : Kind) → ((a : Record k) → (listing k).rest a ≡ None) → (x : Reading (Record k)) → rest_of (answer_for k x) ≡ None
no_start k h (taken a e) = h a
no_start k h (set_aside a e) = refl
no_start k h (refused r) = refl

inside : {k : Kind} → RestOf k → (s : List ℕ) {a : ℕ} → starts k s ≡ Some a → a ≤ length s
inside registered s h = four-inside s h
inside unregistered s h = five-inside s h
inside {k} (neither n) s h = never (sym (no_start k n (reading_of k s)) ∙ h)

pub within : (n size : ℕ) (bytes : List ℕ) {a : ℕ} → rest_of (answer_to n size bytes) ≡ Some a → (a ≤ size) × (size ≤ length bytes)
within n size bytes {a} h = go (call n size bytes)
  where
    by : {x : Answer} → answer_to n size bytes ≡ x → rest_of x ≡ Some a
    by e = ap rest_of (sym e) ∙ h

    go : Call n size bytes → (a ≤ size) × (size ≤ length bytes)
    go (unlisted f e) = never (by e)
    go (oversized k f o e) = never (by e)
    go (payload k w e) =
        let i : a ≤ length (take size bytes) = inside (rest-of k) (take size bytes) (by e) in
        let l : length (take size bytes) ≡ size = length-take-le size bytes w.2 in
        (omega arith, w.2)

-- ---- what has no part

rest-refused : (k : Kind) (x : Reading (Record k)) → (answer_number (answer_for k x) ≡ 0 → ⊥) → rest_of (answer_for k x) ≡ None
rest-refused k (taken a e) h = absurd (h refl)
rest-refused k (set_aside a e) h = refl
rest-refused k (refused r) h = refl

module _ (n size : ℕ) (bytes : List ℕ) where
  by-start : {x : Option ℕ} → rest_of (answer_to n size bytes) ≡ x → user_part n size bytes ≡ part_from x size bytes
  unfolding user_part
  by-start e = ap (λ (x : Option ℕ). part_from x size bytes) e

  -- the part is empty where the number is not 0 ..
  pub part-refused : (answer_number (answer_to n size bytes) ≡ 0 → ⊥) → user_part n size bytes ≡ []
  part-refused h = go (call n size bytes)
    where
      go : Call n size bytes → user_part n size bytes ≡ []
      go (unlisted f e) = by-start (ap rest_of e)
      go (oversized k f o e) = by-start (ap rest_of e)
      go (payload k w e) = by-start (ap rest_of e ∙ rest-refused k (reading_of k (take size bytes)) (λ z. h (ap answer_number e ∙ z)))

  -- .. and for every kind but 4 and 5
  pub part-other : n ≢ 4 → n ≢ 5 → user_part n size bytes ≡ []
  part-other f g = go (call n size bytes)
    where
      at : {k : Kind} → RestOf k → n ≡ number k → rest_of (answer_for k (reading_of k (take size bytes))) ≡ None
      at registered h = absurd (f h)
      at unregistered h = absurd (g h)
      at {k} (neither m) h = no_start k m (reading_of k (take size bytes))

      go : Call n size bytes → user_part n size bytes ≡ []
      go (unlisted h e) = by-start (ap rest_of e)
      go (oversized k h o e) = by-start (ap rest_of e)
      go (payload k w e) = by-start (ap rest_of e ∙ at (rest-of k) w.0)

-- ---- kind 4

module _ (size : ℕ) (bytes : List ℕ) where
  -- the ways of a call: 2; 3 for a head that is cut; a head of one byte; a head of two
  data Call4 : Type 0 where
    over : Over size bytes → answer_to 4 size bytes ≡ refused_as kinds.Registered by_size → Call4
    cut : size ≤ 8192 → size ≤ length bytes → (size < 1) ⊎ ((first bytes ≡ 255) × (size < 2)) → answer_to 4 size bytes ≡ refused_as kinds.Registered Short → Call4
    one : size ≤ 8192 → size ≤ length bytes → 1 ≤ size → (first bytes ≡ 255 → ⊥) → answer_to 4 size bytes ≡ made kinds.Registered Taken (coded (first bytes) 0) 0 → Call4
    two : (x : ℕ) → size ≤ 8192 → size ≤ length bytes → 2 ≤ size → first bytes ≡ 255 → answer_to 4 size bytes ≡ made kinds.Registered Taken (coded (first bytes) x) 0 → Call4

  call-4 : Call4
  call-4 = go (below 8192 size) (below (length bytes) size)
    where
      at_head : (b : size ≤ 8192) (c : size ≤ length bytes) → length (take size bytes) ≡ size → heads.Four (take size bytes) → Call4
      at_head b c l (heads.empty h e) = cut b c (inl (omega arith)) (to-payload 4 size bytes kinds.Registered (refl, b, c) ∙ ap (answer_for kinds.Registered) e)
      at_head b c l (heads.cut g h f e) =
          cut b c (inr (sym (first-take size bytes (omega arith) c) ∙ f, omega arith)) (to-payload 4 size bytes kinds.Registered (refl, b, c) ∙ ap (answer_for kinds.Registered) e)
      at_head b c l (heads.one h f e) =
          let t : first (take size bytes) ≡ first bytes = first-take size bytes (omega arith) c in
          one b c (omega arith) (λ g. f (t ∙ g))
          (to-payload 4 size bytes kinds.Registered (refl, b, c) ∙ ap (answer_for kinds.Registered) e ∙ ap (λ (x : ℕ). made kinds.Registered Taken (coded x 0) 0) t)
      at_head b c l (heads.two h f e) =
          let t : first (take size bytes) ≡ first bytes = first-take size bytes (omega arith) c in
          let y = unsigned_of (part (take size bytes) 8 8) in
          two y b c (omega arith) (sym t ∙ f)
          (to-payload 4 size bytes kinds.Registered (refl, b, c) ∙ ap (answer_for kinds.Registered) e ∙ ap (λ (x : ℕ). made kinds.Registered Taken (coded x y) 0) t)

      go : (8192 < size) ⊎ (size ≤ 8192) → (length bytes < size) ⊎ (size ≤ length bytes) → Call4
      go (inl b) c = over (inl b) (to-oversized 4 size bytes kinds.Registered refl (inl b))
      go (inr b) (inl c) = over (inr c) (to-oversized 4 size bytes kinds.Registered refl (inr c))
      go (inr b) (inr c) = at_head b c (length-take-le size bytes c) (four (take size bytes))

  not-over : {X : Type 0} → Over size bytes → size ≤ 8192 → size ≤ length bytes → X
  not-over (inl o) b c = absurd (omega arith)
  not-over (inr o) b c = absurd (omega arith)

  -- 0 exactly where the size is within the limits and the country code is there, with one more byte where it is 255
  pub taken-4 : (answer_number (answer_to 4 size bytes) ≡ 0) ↔ ((size ≤ 8192) × (size ≤ length bytes) × (1 ≤ size) × ((first bytes ≡ 255 → ⊥) ⊎ (2 ≤ size)))
  taken-4 = (λ h. sound h call-4, λ d. complete d.0 d.1 d.2 d.3 call-4)
    where
      sound : answer_number (answer_to 4 size bytes) ≡ 0 → Call4 → (size ≤ 8192) × (size ≤ length bytes) × (1 ≤ size) × ((first bytes ≡ 255 → ⊥) ⊎ (2 ≤ size))
      sound h (over o e) = absurd (omega (arith, ap answer_number e))
      sound h (cut b c d e) = absurd (omega (arith, ap answer_number e))
      sound h (one b c l f e) = (b, c, l, inl f)
      sound h (two x b c l f e) = (b, c, omega arith, inr l)

      complete : size ≤ 8192 → size ≤ length bytes → 1 ≤ size → (first bytes ≡ 255 → ⊥) ⊎ (2 ≤ size) → Call4 → answer_number (answer_to 4 size bytes) ≡ 0
      complete b c l f (over o e) = not-over o b c
      complete b c l f (cut _ _ (inl d) e) = absurd (omega arith)
      complete b c l (inl f) (cut _ _ (inr d) e) = absurd (f d.0)
      complete b c l (inr f) (cut _ _ (inr d) e) = absurd (omega (arith, d.1))
      complete b c l f (one _ _ _ _ e) = ap answer_number e
      complete b c l f (two _ _ _ _ _ e) = ap answer_number e

  -- within the limits, 3 exactly where it is not
  pub short-4 : (answer_number (answer_to 4 size bytes) ≡ 3) ↔ ((size ≤ 8192) × (size ≤ length bytes) × ((size < 1) ⊎ ((first bytes ≡ 255) × (size < 2))))
  short-4 = (λ h. sound h call-4, λ d. complete d.0 d.1 d.2 call-4)
    where
      sound : answer_number (answer_to 4 size bytes) ≡ 3 → Call4 → (size ≤ 8192) × (size ≤ length bytes) × ((size < 1) ⊎ ((first bytes ≡ 255) × (size < 2)))
      sound h (over o e) = absurd (omega (arith, ap answer_number e))
      sound h (cut b c d e) = (b, c, d)
      sound h (one b c l f e) = absurd (omega (arith, ap answer_number e))
      sound h (two x b c l f e) = absurd (omega (arith, ap answer_number e))

      complete : size ≤ 8192 → size ≤ length bytes → (size < 1) ⊎ ((first bytes ≡ 255) × (size < 2)) → Call4 → answer_number (answer_to 4 size bytes) ≡ 3
      complete b c d (over o e) = not-over o b c
      complete b c d (cut _ _ _ e) = ap answer_number e
      complete b c (inl d) (one _ _ l _ e) = absurd (omega arith)
      complete b c (inr d) (one _ _ _ f e) = absurd (f d.0)
      complete b c (inl d) (two _ _ _ l _ e) = absurd (omega arith)
      complete b c (inr d) (two _ _ _ l _ e) = absurd (omega (arith, d.1))

  pub extension-4 : (answer_to 4 size bytes).extension ≡ 0
  extension-4 = go call-4
    where
      go : Call4 → (answer_to 4 size bytes).extension ≡ 0
      go (over o e) = ap (λ (a : Answer). a.extension) e
      go (cut b c d e) = ap (λ (a : Answer). a.extension) e
      go (one b c l f e) = ap (λ (a : Answer). a.extension) e
      go (two x b c l f e) = ap (λ (a : Answer). a.extension) e

  -- the part is the bytes after the first, or after the second
  pub part-4 : size ≤ 8192 → size ≤ length bytes → 1 ≤ size → (first bytes ≡ 255 → ⊥) → user_part 4 size bytes ≡ take (size - 1) (drop 1 bytes)
  part-4 b c l f = go call-4
    where
      go : Call4 → user_part 4 size bytes ≡ take (size - 1) (drop 1 bytes)
      go (over o e) = not-over o b c
      go (cut _ _ (inl d) e) = absurd (omega arith)
      go (cut _ _ (inr d) e) = absurd (f d.0)
      go (one _ _ _ _ e) = by-start 4 size bytes (ap rest_of e ∙ ap Some (head-1 (first bytes) 0 f))
      go (two _ _ _ _ g e) = absurd (f g)

  pub part-4-extended : size ≤ 8192 → size ≤ length bytes → 2 ≤ size → first bytes ≡ 255 → user_part 4 size bytes ≡ take (size - 2) (drop 2 bytes)
  part-4-extended b c l f = go call-4
    where
      go : Call4 → user_part 4 size bytes ≡ take (size - 2) (drop 2 bytes)
      go (over o e) = not-over o b c
      go (cut _ _ (inl d) e) = absurd (omega arith)
      go (cut _ _ (inr d) e) = absurd (omega (arith, d.1))
      go (one _ _ _ g e) = absurd (g f)
      go (two x _ _ _ _ e) = by-start 4 size bytes (ap rest_of e ∙ ap Some (head-2 (first bytes) x f))

  -- ---- kind 5

  abbrev identified : List ℕ → Answer
  identified s = made kinds.Unregistered Taken (record { uuid_iso_iec_11578 = bytes_of 16 (unsigned_of (part s 0 128)) }) 0

  data Call5 : Type 0 where
    over-5 : Over size bytes → answer_to 5 size bytes ≡ refused_as kinds.Unregistered by_size → Call5
    cut-5 : size ≤ 8192 → size ≤ length bytes → size < 16 → answer_to 5 size bytes ≡ refused_as kinds.Unregistered Short → Call5
    sixteen : size ≤ 8192 → size ≤ length bytes → 16 ≤ size → answer_to 5 size bytes ≡ identified (take size bytes) → Call5

  call-5 : Call5
  call-5 = go (below 8192 size) (below (length bytes) size)
    where
      at_head : (b : size ≤ 8192) (c : size ≤ length bytes) → length (take size bytes) ≡ size → heads.Five (take size bytes) → Call5
      at_head b c l (heads.short h e) = cut-5 b c (omega arith) (to-payload 5 size bytes kinds.Unregistered (refl, b, c) ∙ ap (answer_for kinds.Unregistered) e)
      at_head b c l (heads.whole h e) = sixteen b c (omega arith) (to-payload 5 size bytes kinds.Unregistered (refl, b, c) ∙ ap (answer_for kinds.Unregistered) e)

      go : (8192 < size) ⊎ (size ≤ 8192) → (length bytes < size) ⊎ (size ≤ length bytes) → Call5
      go (inl b) c = over-5 (inl b) (to-oversized 5 size bytes kinds.Unregistered refl (inl b))
      go (inr b) (inl c) = over-5 (inr c) (to-oversized 5 size bytes kinds.Unregistered refl (inr c))
      go (inr b) (inr c) = at_head b c (length-take-le size bytes c) (five (take size bytes))

  -- 0 exactly where the size is within the limits and sixteen bytes are there
  pub taken-5 : (answer_number (answer_to 5 size bytes) ≡ 0) ↔ ((size ≤ 8192) × (size ≤ length bytes) × (16 ≤ size))
  taken-5 = (λ h. sound h call-5, λ d. complete d.0 d.1 d.2 call-5)
    where
      sound : answer_number (answer_to 5 size bytes) ≡ 0 → Call5 → (size ≤ 8192) × (size ≤ length bytes) × (16 ≤ size)
      sound h (over-5 o e) = absurd (omega (arith, ap answer_number e))
      sound h (cut-5 b c d e) = absurd (omega (arith, ap answer_number e))
      sound h (sixteen b c l e) = (b, c, l)

      complete : size ≤ 8192 → size ≤ length bytes → 16 ≤ size → Call5 → answer_number (answer_to 5 size bytes) ≡ 0
      complete b c l (over-5 o e) = not-over o b c
      complete b c l (cut-5 _ _ d e) = absurd (omega arith)
      complete b c l (sixteen _ _ _ e) = ap answer_number e

  -- within the limits, 3 exactly where they are not
  pub short-5 : (answer_number (answer_to 5 size bytes) ≡ 3) ↔ ((size ≤ 8192) × (size ≤ length bytes) × (size < 16))
  short-5 = (λ h. sound h call-5, λ d. complete d.0 d.1 d.2 call-5)
    where
      sound : answer_number (answer_to 5 size bytes) ≡ 3 → Call5 → (size ≤ 8192) × (size ≤ length bytes) × (size < 16)
      sound h (over-5 o e) = absurd (omega (arith, ap answer_number e))
      sound h (cut-5 b c d e) = (b, c, d)
      sound h (sixteen b c l e) = absurd (omega (arith, ap answer_number e))

      complete : size ≤ 8192 → size ≤ length bytes → size < 16 → Call5 → answer_number (answer_to 5 size bytes) ≡ 3
      complete b c d (over-5 o e) = not-over o b c
      complete b c d (cut-5 _ _ _ e) = ap answer_number e
      complete b c d (sixteen _ _ l e) = absurd (omega arith)

  pub extension-5 : (answer_to 5 size bytes).extension ≡ 0
  extension-5 = go call-5
    where
      go : Call5 → (answer_to 5 size bytes).extension ≡ 0
      go (over-5 o e) = ap (λ (a : Answer). a.extension) e
      go (cut-5 b c d e) = ap (λ (a : Answer). a.extension) e
      go (sixteen b c l e) = ap (λ (a : Answer). a.extension) e

  -- the part is the bytes after the sixteenth
  pub part-5 : size ≤ 8192 → size ≤ length bytes → 16 ≤ size → user_part 5 size bytes ≡ take (size - 16) (drop 16 bytes)
  part-5 b c l = go call-5
    where
      go : Call5 → user_part 5 size bytes ≡ take (size - 16) (drop 16 bytes)
      go (over-5 o e) = not-over o b c
      go (cut-5 _ _ d e) = absurd (omega arith)
      go (sixteen _ _ _ e) = by-start 5 size bytes (ap rest_of e)
