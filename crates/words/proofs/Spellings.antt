-- What a text spells from a place on, into lent bytes of which some are written already: one step of the reading is one step of the definition.
-- Assumes nothing.
use Prim.Native.Nat.{ℕ, suc, ◌+◌, ◌-◌, ◌<◌, ◌≤◌}
use mathlib.Core.Path.{◌≡◌, refl, sym, ap, ◌∙◌}
use mathlib.Core.Bool.{true, false}
use mathlib.Core.List.{List, [], ◌∷◌}
use native.Mathlib.Nat.{add-zero, zero-add}
use native.Mathlib.Numerals.{add-one}
use native.Mathlib.Omega.{arith}
use borrow.Author.Tests.{eq-eqb, ne_eqb, le-leb, lt-leb}
use lib.Dec.{leb}
use lib.ListN.{length, length-set, length-drop, take, drop, get_or, set, drop_of_length-le}
use lib.Seq.{drop-cons, sets, set_out, take_all}
use Rattle.std.specs.Prelude.{if◌then◌else◌}
use Rattle.std.specs.Prelude.{Result, Ok, Err}
use Rattle.words.specs.declared.hex.HexError.{HexError}
use Rattle.words.specs.declared.hex.HexError.TheVariants.{Long}
use Rattle.lent.specs.Lent.{Left, left}
use Rattle.words.specs.Hex.{lone_of, pair_of, marked, Spelling, ends, onward, spelling, into}

-- behind n bytes that are written already
into_at : ℕ → List ℕ → Spelling → Left (Result ℕ HexError)
into_at n lent t = left (if leb (n + length t.bytes) (length lent) then t.ending else Err Long) (sets lent n t.bytes)

-- what is left to do at place i
pub still : List ℕ → ℕ → ℕ → List ℕ → Left (Result ℕ HexError)
still s i n lent = into_at n lent (spelling i n (drop i s))

pub started : (s lent : List ℕ) → still s 0 0 lent ≡ into lent (spelling 0 0 s)
unfolding still into_at into
started s lent = rw zero-add

-- ---- the definition at a space, at a last character, at a mark, and at a byte

spaced : (i n a : ℕ) (rest : List ℕ) → a ≡ 32 → spelling i n (a ∷ rest) ≡ spelling (i + 1) n rest
unfolding spelling
spaced i n a [] e = rw (eq-eqb a 32 e)
spaced i n a (b ∷ rest) e = rw (eq-eqb a 32 e)

lone : (i n a : ℕ) → (a ≡ 32 → ⊥) → spelling i n (a ∷ []) ≡ ends (Err (lone_of i a))
unfolding spelling
lone i n a m = rw (ne_eqb a 32 m)

module _ (i n a b : ℕ) (rest : List ℕ) (m : a ≡ 32 → ⊥) where
  passed : marked (a ∷ b ∷ rest) ≡ true → spelling i n (a ∷ b ∷ rest) ≡ spelling (i + 2) n rest
  unfolding spelling
  passed x = rw (ne_eqb a 32 m, x)

  paired : (p : Result ℕ HexError) → marked (a ∷ b ∷ rest) ≡ false → p ≡ pair_of i a b →
      spelling i n (a ∷ b ∷ rest) ≡ onward p (spelling (i + 2) (n + 1) rest)
  unfolding spelling
  paired p x e = rw (ne_eqb a 32 m, x, e)

-- ---- where it ends

ended : (n : ℕ) (lent : List ℕ) (e : Result ℕ HexError) → n ≤ length lent → into_at n lent (ends e) ≡ left e lent
unfolding into_at
ended n lent e h = rw (add-zero, le-leb n (length lent) h)

sets-out : (l vs : List ℕ) (n : ℕ) → length l ≤ n → sets l n vs ≡ l
sets-out l [] n h = refl
sets-out l (v ∷ vs) n h = rw (set_out l n v h) (sets-out l vs (suc n) (omega arith))

full : (n b : ℕ) (lent : List ℕ) (t : Spelling) → length lent ≤ n → into_at n lent (onward (Ok b) t) ≡ left (Err Long) lent
unfolding into_at onward
full n b lent t h =
    let l : length lent < n + suc (length t.bytes) = omega arith in
    rw (lt-leb (n + suc (length t.bytes)) (length lent) l, sets-out lent (b ∷ t.bytes) n h)

stored : (n b : ℕ) (lent : List ℕ) (t : Spelling) → into_at n lent (onward (Ok b) t) ≡ into_at (n + 1) (set lent n b) t
unfolding into_at onward
stored n b lent t =
    let e : n + suc (length t.bytes) ≡ n + 1 + length t.bytes = omega arith in
    rw (e, length-set lent n b, add-one n)

-- ---- at a place

pub cons-at : (s : List ℕ) (i : ℕ) → i < length s → drop i s ≡ get_or s i 0 ∷ drop (i + 1) s
cons-at s i h = rw add-one (drop-cons s i 0 h)

-- what the code passes on of a text is all that stands from a place on
rest : (s : List ℕ) (i : ℕ) → take (length s - i) (drop i s) ≡ drop i s
rest s i = take_all (length s - i) (drop i s) (omega (arith, length-drop i s))

module _ (s : List ℕ) (i n : ℕ) (lent : List ℕ) where
  pub over : length s ≤ i → n ≤ length lent → still s i n lent ≡ left (Ok n) lent
  unfolding still spelling
  over l h = rw (drop_of_length-le s l) (ended n lent (Ok n) h)

  module _ (h : i < length s) where
    pub at-space : get_or s i 0 ≡ 32 → still s i n lent ≡ still s (i + 1) n lent
    unfolding still
    at-space e = ap (into_at n lent) (ap (spelling i n) (cons-at s i h) ∙ spaced i n _ _ e)

    module _ (m : get_or s i 0 ≡ 32 → ⊥) where
      pub at_last : length s ≤ i + 1 → n ≤ length lent → still s i n lent ≡ left (Err (lone_of i (get_or s i 0))) lent
      unfolding still
      at_last l k =
          let one = cons-at s i h ∙ ap (λ (t : List ℕ). get_or s i 0 ∷ t) (drop_of_length-le s l) in
          ap (into_at n lent) (ap (spelling i n) one ∙ lone i n _ m) ∙ ended n lent (Err (lone_of i (get_or s i 0))) k

      module _ (j : i + 1 < length s) where
        two : drop i s ≡ get_or s i 0 ∷ get_or s (i + 1) 0 ∷ drop (i + 2) s
        two =
            let next : i + 1 + 1 ≡ i + 2 = omega arith in
            cons-at s i h ∙ ap (λ (t : List ℕ). get_or s i 0 ∷ t) (rw next at (cons-at s (i + 1) j))

        pub at_mark : marked (take (length s - i) (drop i s)) ≡ true → still s i n lent ≡ still s (i + 2) n lent
        unfolding still
        at_mark x = ap (into_at n lent) (ap (spelling i n) two ∙ passed i n _ _ _ m (ap marked (sym two) ∙ rw rest at x))

        module _ (x : marked (take (length s - i) (drop i s)) ≡ false) where
          at_pair : (p : Result ℕ HexError) → p ≡ pair_of i (get_or s i 0) (get_or s (i + 1) 0) →
              still s i n lent ≡ into_at n lent (onward p (spelling (i + 2) (n + 1) (drop (i + 2) s)))
          unfolding still
          at_pair p e = ap (into_at n lent) (ap (spelling i n) two ∙ paired i n _ _ _ m p (ap marked (sym two) ∙ rw rest at x) e)

          pub at-wrong : (e : HexError) → Err e ≡ pair_of i (get_or s i 0) (get_or s (i + 1) 0) → n ≤ length lent → still s i n lent ≡ left (Err e) lent
          unfolding onward
          at-wrong e p k = at_pair (Err e) p ∙ ended n lent (Err e) k

          pub at-full : (b : ℕ) → Ok b ≡ pair_of i (get_or s i 0) (get_or s (i + 1) 0) → length lent ≤ n → still s i n lent ≡ left (Err Long) lent
          at-full b p k = at_pair (Ok b) p ∙ full n b lent _ k

          pub at_byte : (b : ℕ) → Ok b ≡ pair_of i (get_or s i 0) (get_or s (i + 1) 0) → still s (i + 2) (n + 1) (set lent n b) ≡ still s i n lent
          unfolding still
          at_byte b p = sym (at_pair (Ok b) p ∙ stored n b lent _)

-- what the goals of `bytes` want
pub ruleset steps = (started, over, at-space, at_last, at_mark, at-wrong, at-full, at_byte, length-set)
