-- Codings that are alike are of one length, and the plain ones among them are one; and what demand 3 lets vary is alike, and the same message.
-- Assumes nothing.
use Prim.Native.Nat.{ℕ, suc, ◌+◌, ◌^◌, ◌≤◌, ◌<◌}
use mathlib.Core.Path.{◌≡◌, refl, sym, ap, ap₂, ◌∙◌, subst}
use mathlib.Core.Logic.{◌↔◌, ◌⊎◌, inl, inr}
use mathlib.Core.Bool.{Bool, true, false}
use mathlib.Core.List.{List, ◌∷◌, ◌++◌}
use native.Mathlib.Nat.{pow-suc}
use native.Mathlib.Omega.{arith}
use lib.ListN.{length, take, drop, replicate, length-append, length-replicate}
use lib.Pow.{pow_pos, pow_mono}
use lib.Seq.{take_at, drop_at}
use borrow.Author.Tests.{le-leb, lt-leb}
use Rattle.std.specs.Prelude.{if◌then◌else◌}
use Rattle.bits.specs.Bits.{unsigned_of}
use Rattle.bits.specs.Refusals.{Verdict, fine}
use Rattle.bits.specs.Out.{taken}
use Rattle.bits.specs.Coding.{Shape, unsigned, exp_golomb, CodedExpGolomb, CodedShape}
use Rattle.bits.specs.Elements.{shape_front}
use Rattle.bits.proofs.BitLaws.{below, number_lt}
use Rattle.format.specs.Format.{Element, silent_in, handed, verdict, Format, done, read, asks}
use Rattle.format.specs.Reading.{run}
use Rattle.format.specs.Coded.{Coded}
use Rattle.format.specs.Syntax.{ignored_bits, guard_type, ◌must◌}
use Rattle.format.specs.Varied.{Alike, Varied, same, silent-both, Variation}
use Rattle.format.proofs.Run.{starts_with, run-complete}

-- ---- one element's code at the front of w is the only one

pub record SameFront (c d : ℕ) (own own' rest rest' : List Bool) : Type 0 where
  pub code : c ≡ d
  pub own_is : own ≡ own'
  pub rest-is : rest ≡ rest'

pub same-front : (h : Shape) (own rest own' rest' : List Bool) (c d : ℕ) → own ++ rest ≡ own' ++ rest' → CodedShape h own c → CodedShape h own' d → SameFront c d own own' rest rest'
same-front h own rest own' rest' c d e x y =
    let r : taken c (length own) ≡ taken d (length own') = sym (starts_with h own c x rest) ∙ ap (shape_front h) e ∙ starts_with h own' d y rest' in
    let n : length own ≡ length own' = cc in
    record {
      code = cc;
      own_is = sym (take_at own rest (length own') n) ∙ ap (take (length own')) e ∙ take_at own' rest' (length own') refl;
      rest-is = sym (drop_at own rest (length own') n) ∙ ap (drop (length own')) e ∙ drop_at own' rest' (length own') refl;
    }

-- the codes of one number are of one length: a ue(v) of z zeros means at least 2 ^ z - 1, and less than 2 ^ (z + 1) - 1
pub record Bounds (w : List Bool) (c z : ℕ) : Type 0 where
  pub low : 2 ^ z ≤ suc c
  pub high : suc c < 2 ^ suc z
  pub long : length w ≡ z + suc z

pub bounds : (w : List Bool) (c : ℕ) (x : CodedExpGolomb w c) → Bounds w c x.zeros
bounds w c x =
    let n : unsigned_of x.last < 2 ^ x.zeros = rw x.long at (number_lt x.last) in
    let p = pow_pos x.zeros in
    record {
      low = omega (arith, x.says);
      high = rw pow-suc (omega (arith, x.says));
      long =
          ap length x.split
          ∙ length-append (replicate x.zeros false) (true ∷ x.last)
          ∙ ap₂ (λ a b. a + suc b) (length-replicate x.zeros false) x.long;
    }

not-less : {w v : List Bool} {c y z : ℕ} → Bounds w c y → Bounds v c z → y < z → ⊥
not-less {w} {v} {c} {y} {z} a b h =
    let m : 2 ^ suc y ≤ 2 ^ z = pow_mono h in
    omega (arith, a.high, b.low)

one-length : (h : Shape) (w v : List Bool) (c : ℕ) → CodedShape h w c → CodedShape h v c → length w ≡ length v
one-length (unsigned n) w v c x y = x.long ∙ sym y.long
one-length exp_golomb w v c x y = go (bounds w c x) (bounds v c y) (below x.zeros y.zeros) (below y.zeros x.zeros)
  where
    go : Bounds w c x.zeros → Bounds v c y.zeros → (x.zeros < y.zeros) ⊎ (y.zeros ≤ x.zeros) → (y.zeros < x.zeros) ⊎ (x.zeros ≤ y.zeros) → length w ≡ length v
    go a b (inl l) m = absurd (not-less a b l)
    go a b (inr l) (inl m) = absurd (not-less b a m)
    go a b (inr l) (inr m) = omega (arith, a.long, b.long)

-- and so are codes for which the same is handed out
same_length : (e : Element) (w v : List Bool) (c d : ℕ) → CodedShape e.shape w c → CodedShape e.shape v d → handed e d ≡ handed e c → length v ≡ length w
same_length e w v c d = go e.shape
  where
    go : (h : Shape) → CodedShape h w c → CodedShape h v d → (if silent_in h e.reserved d then 0 else d) ≡ (if silent_in h e.reserved c then 0 else c) → length v ≡ length w
    go (unsigned n) x y m = y.long ∙ sym x.long
    go exp_golomb x y m = one-length exp_golomb v w d y (subst (CodedExpGolomb w) (sym m) x)

-- ---- alike

pub alike-length : {R A : Type 0} (f : Format R A) (w v : List Bool) → Alike f w v → length v ≡ length w
alike-length (done b) w v l = ap length l.1 ∙ sym (ap length l.0)
alike-length (asks t f) w v l = alike-length f w v l
alike-length (read e g k) w v l =
    ap length l.split'
    ∙ length-append l.own' l.rest'
    ∙ ap₂ ◌+◌ (same_length e l.own l.own' l.code l.allowed.code l.element l.allowed.element l.allowed.same) (alike-length (k (handed e l.code)) l.rest l.rest' l.follows)
    ∙ sym (ap length l.split ∙ length-append l.own l.rest)

-- ---- what may vary

-- the other bits are a code for which the same is handed out, and which is judged the same
record Instead (e : Element) (v : List Bool) (c : ℕ) : Type 0 where
  code : ℕ
  element : CodedShape e.shape v code
  hands : handed e code ≡ handed e c
  judges : verdict e code ≡ verdict e c

instead : (e : Element) (w v : List Bool) (c : ℕ) → CodedShape e.shape w c → Varied e w v c → Instead e v c
instead e w v c x (same s) = record { code = c; element = subst (λ b. CodedShape e.shape b c) (sym s) x; hands = refl; judges = refl }
instead e w v c x (silent-both d y s t) =
    record { code = d; element = y; hands = ap (λ b. if b then 0 else d) t ∙ sym (ap (λ b. if b then 0 else c) s); judges = ap (λ b. if b then fine else e.rule d) t ∙ sym (ap (λ b. if b then fine else e.rule c) s) }

-- In the words of demand 3: any bits may stand in place of ignored ones, and any code from 4 on in place of a guard band type from 4 on.
pub ignored-vary : (n : ℕ) (w v : List Bool) (c : ℕ) → length v ≡ n → Varied (ignored_bits n) w v c
ignored-vary n w v c l = silent-both (unsigned_of v) (record { long = l; says = refl }) refl refl

pub guards-vary : (rule : ℕ → Verdict) (w v : List Bool) (c : ℕ) → length v ≡ 3 → 4 ≤ c → 4 ≤ unsigned_of v → Varied (guard_type must rule) w v c
guards-vary rule w v c l x y = silent-both (unsigned_of v) (record { long = l; says = refl }) (le-leb 4 c x) (le-leb 4 (unsigned_of v) y)

-- And plain are, of ignored bits, zeros, and of guard band types those below 4.
pub ignored-plain : (n c : ℕ) → (handed (ignored_bits n) c ≡ c) ↔ (c ≡ 0)
ignored-plain n c = (sym, sym)

pub guard-plain : (rule : ℕ → Verdict) (c : ℕ) → (handed (guard_type must rule) c ≡ c) ↔ (c < 4)
guard-plain rule c = (λ h. go (below c 4) h, λ h. rw (lt-leb 4 c h))
  where
    go : (c < 4) ⊎ (4 ≤ c) → handed (guard_type must rule) c ≡ c → c < 4
    go (inl l) h = l
    go (inr l) h = let z : 0 ≡ c = sym (ap (λ t. if t then 0 else c) (le-leb 4 c l)) ∙ h in omega arith

module _ {R A : Type 0} where
  pub variation-alike : (f : Format R A) (w v : List Bool) → Variation f w v → Alike f w v
  variation-alike (done a) w v x = x
  variation-alike (asks t f) w v x = variation-alike f w v x
  variation-alike (read e g k) w v x =
      let i = instead e x.own x.own' x.code x.element x.allowed in
      record {
        code = x.code;
        own = x.own;
        rest = x.rest;
        own' = x.own';
        rest' = x.rest';
        split = x.split;
        split' = x.split';
        element = x.element;
        allowed = record { code = i.code; element = i.element; same = i.hands };
        follows = variation-alike (k (handed e x.code)) x.rest x.rest' x.follows;
      }

  -- a variation of a message is the same message
  pub varied-coded : (f : Format R A) (w v : List Bool) (a : A) → Coded f w a → Variation f w v → Coded f v a
  varied-coded (done b) w v a d x = (x.1, d.1)
  varied-coded (asks t f) w v a d x = varied-coded f w v a d x
  varied-coded (read e g k) w v a d x =
      let s = same-front e.shape d.own d.rest x.own x.rest d.code x.code (sym d.split ∙ x.split) d.element x.element in
      let i = instead e x.own x.own' x.code x.element x.allowed in
      let c : Coded (k (handed e x.code)) x.rest a = subst (λ r. Coded (k (handed e x.code)) r a) s.rest-is (subst (λ n. Coded (k (handed e n)) d.rest a) s.code d.follows) in
      record {
        code = i.code;
        own = x.own';
        rest = x.rest';
        split = x.split';
        element = i.element;
        judged = i.judges ∙ ap (verdict e) (sym s.code) ∙ d.judged;
        follows = subst (λ m. Coded (k m) x.rest' a) (sym i.hands) (varied-coded (k (handed e x.code)) x.rest x.rest' a c x.follows);
      }

  pub varied-length : (f : Format R A) (w v : List Bool) → Variation f w v → length v ≡ length w
  varied-length f w v x = alike-length f w v (variation-alike f w v x)

  -- So a variation of a message, with whatever follows it, is read as the same message, in as many bits.
  pub varied-taken : (f : Format R A) (w v : List Bool) (a : A) → Coded f w a → Variation f w v → (rest : List Bool) → run f (v ++ rest) ≡ taken a (length w)
  varied-taken f w v a d x rest = run-complete f v (varied-coded f w v a d x) rest ∙ ap (taken a) (varied-length f w v x)
