-- What is read is what is coded: u(n), ue(v) and the tail, each answer given exactly where its bits stand.
-- Assumes nothing.
use Prim.Native.Nat.{ℕ, zero, suc, ◌+◌, ◌-◌, ◌^◌, ◌≤◌, ◌<◌}
use mathlib.Core.Path.{◌≡◌, refl, sym, ap, ap₂, ◌∙◌}
use mathlib.Core.Logic.{◌↔◌, ◌⊎◌, inl, inr}
use mathlib.Core.Bool.{Bool, true, false}
use mathlib.Core.List.{List, [], ◌∷◌, ◌++◌, append_assoc}
use native.Mathlib.Nat.{add-zero, zero-add, add-suc, suc-add}
use native.Mathlib.Omega.{arith}
use lib.ListN.{length, take, drop, replicate, length-append, length-replicate, take-append-drop}
use lib.Seq.{length-take-le, take_at}
use lib.Dec.{leb}
use borrow.Author.Tests.{lt-leb}
use Rattle.bits.specs.Bits.{unsigned_of}
use Rattle.bits.specs.Out.{Out, taken, refused}
use Rattle.bits.specs.Elements.{u_front, meant, ue_after, shape_front}
use Rattle.bits.specs.Coding.{Shape, unsigned, exp_golomb, Starts, BreaksOff, TooManyZeros}
use Rattle.bits.specs.Tail.{Ending, Last, none, at, further, last_one, judged, tail_of}
use Rattle.bits.specs.Ended.{Tailed, Ended}
use Rattle.bits.specs.declared.refusal.Refusal.{Refusal}
use Rattle.bits.specs.declared.refusal.Refusal.TheVariants.{Short, Zeros, Tail}
use Rattle.std.specs.Prelude.{Ok, Err}
use Rattle.bits.proofs.BitLaws.{below}
use Rattle.bits.proofs.ElementLaws.{u-fits, u-breaks}
use Rattle.bits.proofs.TailLaws.{judged-found}

-- ---- a value is no refusal, and the refusals differ

pub not_taken : {A X : Type 0} {r : Refusal} {a : A} {n : ℕ} → refused r ≡ taken a n → X
not_taken e = let z : ◌≡◌ {A = ℕ} 0 1 = cc in absurd (omega arith)

not-both : {X : Type 0} → ◌≡◌ {A = Out ℕ} (refused Short) (refused Zeros) → X
not-both e = let z : ◌≡◌ {A = ℕ} 0 1 = cc in absurd (omega arith)

-- ---- u(n)

-- u(n) of what is left: a value exactly where n bits are there, and 3 exactly where not
data USeen (n : ℕ) (w : List Bool) : Type 0 where
  there : n ≤ length w → u_front n w ≡ taken (unsigned_of (take n w)) n → USeen n w
  lacks : length w < n → u_front n w ≡ refused Short → USeen n w

u-seen : (n : ℕ) (w : List Bool) → USeen n w
u-seen n w = go (below (length w) n)
  where
    go : (length w < n) ⊎ (n ≤ length w) → USeen n w
    go (inl l) = lacks l (u-breaks n w l)
    go (inr l) = there l (u-fits n w l)

u-sound : (n : ℕ) (w : List Bool) {c m : ℕ} → u_front n w ≡ taken c m → Starts (unsigned n) w c m
u-sound n w {c} {m} e = go (u-seen n w)
  where
    go : USeen n w → Starts (unsigned n) w c m
    go (there l f) =
        let g : taken (unsigned_of (take n w)) n ≡ taken c m = sym f ∙ e in
        let k : n ≡ m = cc in
        record {
          own = take n w;
          rest = drop n w;
          split = sym (take-append-drop n w);
          coded = record { long = length-take-le n w l; says = cc };
          long = length-take-le n w l ∙ k;
        }
    go (lacks l f) = not_taken (sym f ∙ e)

u-complete : (n : ℕ) (w : List Bool) {c m : ℕ} → Starts (unsigned n) w c m → u_front n w ≡ taken c m
u-complete n w {c} {m} d =
    let e : length d.own ≡ n = d.coded.long in
    let k : length w ≡ length d.own + length d.rest = ap length d.split ∙ length-append d.own d.rest in
    let own : take n w ≡ d.own = ap (take n) d.split ∙ take_at d.own d.rest n e in
    u-fits n w (omega arith) ∙ ap₂ taken (ap unsigned_of own ∙ d.coded.says) (sym e ∙ d.long)

-- ---- ue(v): after z zeros, with k more to be looked at

-- w goes on with y zeros, a one, z + y bits and a rest
record Golomb (z k : ℕ) (w rest : List Bool) (c n : ℕ) : Type 0 where
  y : ℕ
  last : List Bool
  few : y < k
  long : length last ≡ z + y
  split : w ≡ replicate y false ++ true ∷ (last ++ rest)
  says : 2 ^ (z + y) - 1 + unsigned_of last ≡ c
  count : z + y + 1 + (z + y) ≡ n

golomb-sound : (z k : ℕ) (w : List Bool) {c n : ℕ} → ue_after z k w ≡ taken c n → (rest : List Bool) × Golomb z k w rest c n
unfolding ue_after
golomb-sound z zero w e = not_taken e
golomb-sound z (suc k) [] e = not_taken e
golomb-sound z (suc k) (false ∷ w) e =
    let g = golomb-sound (suc z) k w e in
    let r = g.1 in (
      g.0,
      record {
        y = suc r.y;
        last = r.last;
        few = omega (arith, r.few);
        long = rw (add-suc, ← (suc-add z r.y)) r.long;
        split = ap (false ∷◌) r.split;
        says = rw (add-suc, ← (suc-add z r.y)) r.says;
        count = omega (arith, r.count);
      },
    )
golomb-sound z (suc k) (true ∷ w) {c} {n} e = go (u-seen z w)
  where
    go : USeen z w → (rest : List Bool) × Golomb z (suc k) (true ∷ w) rest c n
    go (there l f) =
        let g : taken (2 ^ z - 1 + unsigned_of (take z w)) (z + 1 + z) ≡ taken c n = ap (meant z) (sym f) ∙ e in (
          drop z w,
          record {
            y = 0;
            last = take z w;
            few = omega arith;
            long = length-take-le z w l ∙ sym (add-zero z);
            split = ap (true ∷◌) (sym (take-append-drop z w));
            says = simp add-zero (cc);
            count = simp add-zero (cc);
          },
        )
    go (lacks l f) = not_taken (ap (meant z) (sym f) ∙ e)

golomb-complete : (y z k : ℕ) (last rest : List Bool) → y < k → length last ≡ z + y
    → ue_after z k (replicate y false ++ true ∷ (last ++ rest)) ≡ taken (2 ^ (z + y) - 1 + unsigned_of last) (z + y + 1 + (z + y))
unfolding ue_after
golomb-complete y z zero last rest h e = absurd (omega arith)
golomb-complete zero z (suc k) last rest h e =
    let l : length last ≡ z = rw add-zero at e in
    let f : z ≤ length (last ++ rest) = omega (arith, length-append last rest) in
    simp (add-zero, u-fits z (last ++ rest) f, take_at last rest z l)
golomb-complete (suc y) z (suc k) last rest h e =
    rw (add-suc, ← (suc-add z y)) (golomb-complete y (suc z) k last rest (omega arith) (e ∙ omega arith))

-- all of it zeros
zeros-sound : (z k : ℕ) (w : List Bool) → ue_after z k w ≡ refused Zeros → (rest : List Bool) × (w ≡ replicate k false ++ rest)
unfolding ue_after
zeros-sound z zero w e = (w, refl)
zeros-sound z (suc k) [] e = not-both e
zeros-sound z (suc k) (false ∷ w) e = let r = zeros-sound (suc z) k w e in (r.0, ap (false ∷◌) r.1)
zeros-sound z (suc k) (true ∷ w) e = go (u-seen z w)
  where
    go : USeen z w → (rest : List Bool) × (true ∷ w ≡ replicate (suc k) false ++ rest)
    go (there l f) = not_taken (sym e ∙ ap (meant z) f)
    go (lacks l f) = not-both (ap (meant z) (sym f) ∙ e)

zeros-complete : (z k : ℕ) (rest : List Bool) → ue_after z k (replicate k false ++ rest) ≡ refused Zeros
unfolding ue_after
zeros-complete z zero rest = refl
zeros-complete z (suc k) rest = zeros-complete (suc z) k rest

-- w is the beginning of y zeros, a one and z + y bits
record Beginning (z k : ℕ) (w : List Bool) : Type 0 where
  y : ℕ
  last : List Bool
  lacking : List Bool
  few : y < k
  long : length last ≡ z + y
  some : 0 < length lacking
  split : w ++ lacking ≡ replicate y false ++ true ∷ last

short-sound : (z k : ℕ) (w : List Bool) → ue_after z k w ≡ refused Short → Beginning z k w
unfolding ue_after
short-sound z zero w e = not-both (sym e)
short-sound z (suc k) [] e =
    record {
      y = 0;
      last = replicate z false;
      lacking = true ∷ replicate z false;
      few = omega arith;
      long = length-replicate z false ∙ sym (add-zero z);
      some = omega arith;
      split = refl;
    }
short-sound z (suc k) (false ∷ w) e =
    let r = short-sound (suc z) k w e in
    record {
      y = suc r.y;
      last = r.last;
      lacking = r.lacking;
      few = omega (arith, r.few);
      long = rw (add-suc, ← (suc-add z r.y)) r.long;
      some = r.some;
      split = ap (false ∷◌) r.split;
    }
short-sound z (suc k) (true ∷ w) e = go (u-seen z w)
  where
    go : USeen z w → Beginning z (suc k) (true ∷ w)
    go (there l f) = not_taken (sym e ∙ ap (meant z) f)
    go (lacks l f) =
        let more = replicate (z - length w) false in
        record {
          y = 0;
          last = w ++ more;
          lacking = more;
          few = omega arith;
          long = omega (arith, length-append w more, length-replicate (z - length w) false);
          some = omega (arith, length-replicate (z - length w) false);
          split = refl;
        }

short-complete : (y z k : ℕ) (w last lacking : List Bool) → y < k → length last ≡ z + y → 0 < length lacking → w ++ lacking ≡ replicate y false ++ true ∷ last
    → ue_after z k w ≡ refused Short
unfolding ue_after
short-complete y z zero w last lacking h l m e = absurd (omega arith)
short-complete y z (suc k) [] last lacking h l m e = refl
short-complete zero z (suc k) (b ∷ w) last lacking h l m e =
    let first : b ≡ true = cc in
    let next : w ++ lacking ≡ last = cc in
    let long : length w + length lacking ≡ z + 0 = sym (length-append w lacking) ∙ ap length next ∙ l in
    rw (first, u-breaks z w (omega arith))
short-complete (suc y) z (suc k) (b ∷ w) last lacking h l m e =
    let first : b ≡ false = cc in
    rw first (short-complete y (suc z) k w last lacking (omega arith) (l ∙ omega arith) m (cc))

-- ---- an element at the front of what is left

-- it is read as c, of n bits, exactly where w starts with the code of c
pub front-taken : (h : Shape) (w : List Bool) (c n : ℕ) → (shape_front h w ≡ taken c n) ↔ Starts h w c n
front-taken (unsigned m) w c n = (u-sound m w, u-complete m w)
front-taken exp_golomb w c n = (sound, complete)
  where
    sound : ue_after 0 32 w ≡ taken c n → Starts exp_golomb w c n
    sound e =
        let g = golomb-sound 0 32 w e in
        let r = g.1 in
        let own = replicate r.y false ++ true ∷ r.last in
        record {
          own = own;
          rest = g.0;
          split = r.split ∙ sym (append_assoc (replicate r.y false) (true ∷ r.last) g.0);
          coded = record {
            zeros = r.y;
            last = r.last;
            few = r.few;
            long = r.long ∙ zero-add r.y;
            split = refl;
            says = rw zero-add at r.says;
          };
          long =
              length-append (replicate r.y false) (true ∷ r.last)
              ∙ omega (arith, length-replicate r.y false, r.long, r.count);
        }

    complete : Starts exp_golomb w c n → ue_after 0 32 w ≡ taken c n
    complete d =
        let g = d.coded in
        let e : w ≡ replicate g.zeros false ++ true ∷ (g.last ++ d.rest) =
        d.split ∙ ap (λ x. x ++ d.rest) g.split ∙ append_assoc (replicate g.zeros false) (true ∷ g.last) d.rest in
        let l : length d.own ≡ g.zeros + suc (length g.last) =
        ap length g.split ∙ length-append (replicate g.zeros false) (true ∷ g.last) ∙ ap (λ x. x + suc (length g.last)) (length-replicate g.zeros false) in
        ap (ue_after 0 32) e
        ∙ golomb-complete g.zeros 0 32 g.last d.rest g.few (omega (arith, g.long))
        ∙ ap₂ taken (rw zero-add g.says) (omega (arith, g.long, d.long))

-- 4 exactly where it is a ue(v) and 32 zeros stand
pub front-zeros : (h : Shape) (w : List Bool) → (shape_front h w ≡ refused Zeros) ↔ TooManyZeros h w
front-zeros (unsigned n) w = (λ e. go e (u-seen n w), λ d. absurd d)
  where
    go : u_front n w ≡ refused Zeros → USeen n w → ⊥
    go e (there l f) = not_taken (sym e ∙ f)
    go e (lacks l f) = not-both (sym f ∙ e)
front-zeros exp_golomb w = (zeros-sound 0 32 w, λ d. ap (ue_after 0 32) d.1 ∙ zeros-complete 0 32 d.0)

-- 3 exactly where what is left is the beginning of a code, and not all of it
pub front-short : (h : Shape) (w : List Bool) → (shape_front h w ≡ refused Short) ↔ BreaksOff h w
front-short (unsigned n) w = (λ e. go e (u-seen n w), λ d. u-breaks n w (omega (arith, d.some, length-append w d.lacking, d.coded.long)))
  where
    go : u_front n w ≡ refused Short → USeen n w → BreaksOff (unsigned n) w
    go e (there l f) = not_taken (sym e ∙ f)
    go e (lacks l f) =
        let more = replicate (n - length w) false in
        let k = length-replicate (n - length w) false in
        record { code = unsigned_of (w ++ more); lacking = more; some = omega arith; coded = record { long = omega (arith, length-append w more); says = refl } }
front-short exp_golomb w = (sound, complete)
  where
    sound : ue_after 0 32 w ≡ refused Short → BreaksOff exp_golomb w
    sound e =
        let r = short-sound 0 32 w e in
        record {
          code = 2 ^ r.y - 1 + unsigned_of r.last;
          lacking = r.lacking;
          some = r.some;
          coded = record { zeros = r.y; last = r.last; few = r.few; long = r.long ∙ zero-add r.y; split = r.split; says = refl };
        }

    complete : BreaksOff exp_golomb w → ue_after 0 32 w ≡ refused Short
    complete d = let g = d.coded in short-complete g.zeros 0 32 w g.last d.lacking g.few (omega (arith, g.long)) d.some g.split

-- and there is no fourth answer
pub data FrontSeen (h : Shape) (w : List Bool) : Type 0 where
  seen : (c n : ℕ) → shape_front h w ≡ taken c n → FrontSeen h w
  short : shape_front h w ≡ refused Short → FrontSeen h w
  zeros : shape_front h w ≡ refused Zeros → FrontSeen h w

golomb-seen : (z k : ℕ) (w : List Bool) → ((c : ℕ) × (n : ℕ) × (ue_after z k w ≡ taken c n)) ⊎ ((ue_after z k w ≡ refused Short) ⊎ (ue_after z k w ≡ refused Zeros))
unfolding ue_after
golomb-seen z zero w = inr (inr refl)
golomb-seen z (suc k) [] = inr (inl refl)
golomb-seen z (suc k) (false ∷ w) = golomb-seen (suc z) k w
golomb-seen z (suc k) (true ∷ w) = go (u-seen z w)
  where
    go : USeen z w → ((c : ℕ) × (n : ℕ) × (meant z (u_front z w) ≡ taken c n)) ⊎ ((meant z (u_front z w) ≡ refused Short) ⊎ (meant z (u_front z w) ≡ refused Zeros))
    go (there l f) = inl (2 ^ z - 1 + unsigned_of (take z w), z + 1 + z, ap (meant z) f)
    go (lacks l f) = inr (inl (ap (meant z) f))

pub front-seen : (h : Shape) (w : List Bool) → FrontSeen h w
front-seen (unsigned n) w = go (u-seen n w)
  where
    go : USeen n w → FrontSeen (unsigned n) w
    go (there l f) = seen (unsigned_of (take n w)) n f
    go (lacks l f) = short f
front-seen exp_golomb w = go (golomb-seen 0 32 w)
  where
    go : ((c : ℕ) × (n : ℕ) × (ue_after 0 32 w ≡ taken c n)) ⊎ ((ue_after 0 32 w ≡ refused Short) ⊎ (ue_after 0 32 w ≡ refused Zeros)) → FrontSeen exp_golomb w
    go (inl r) = seen r.0 r.1 r.2
    go (inr (inl e)) = short e
    go (inr (inr e)) = zeros e

-- ---- the tail

-- the last one of w is at i: i bits, a one, and zeros
record LastSeen (w : List Bool) (i : ℕ) : Type 0 where
  before : List Bool
  zeros : ℕ
  split : w ≡ before ++ true ∷ replicate zeros false
  count : length before ≡ i

only-zeros : (w : List Bool) → last_one w ≡ none → w ≡ replicate (length w) false
unfolding last_one
only-zeros [] e = refl
only-zeros (b ∷ w) e = go b (last_one w) refl e (only-zeros w)
  where
    go : (b : Bool) (l : Last) → last_one w ≡ l → further b l ≡ none → (last_one w ≡ none → w ≡ replicate (length w) false) → b ∷ w ≡ false ∷ replicate (length w) false
    go b (at j) h e ih = let z : ◌≡◌ {A = ℕ} 0 1 = cc in absurd (omega arith)
    go true none h e ih = let z : ◌≡◌ {A = ℕ} 0 1 = cc in absurd (omega arith)
    go false none h e ih = ap (false ∷◌) (ih h)

last-sound : (w : List Bool) {i : ℕ} → last_one w ≡ at i → LastSeen w i
unfolding last_one
last-sound [] e = let z : ◌≡◌ {A = ℕ} 0 1 = cc in absurd (omega arith)
last-sound (b ∷ w) {i} e = go b (last_one w) refl e (λ j h. last-sound w h)
  where
    go : (b : Bool) (l : Last) → last_one w ≡ l → further b l ≡ at i → ((j : ℕ) → last_one w ≡ at j → LastSeen w j) → LastSeen (b ∷ w) i
    go b (at j) h e ih =
        let r = ih j h in
        let k : suc j ≡ i = cc in
        record { before = b ∷ r.before; zeros = r.zeros; split = ap (b ∷◌) r.split; count = ap suc r.count ∙ k }
    go true none h e ih = record { before = []; zeros = length w; split = ap (true ∷◌) (only-zeros w h); count = cc }
    go false none h e ih = let z : ◌≡◌ {A = ℕ} 0 1 = cc in absurd (omega arith)

last-zeros : (n : ℕ) → last_one (replicate n false) ≡ none
unfolding last_one
last-zeros zero = refl
last-zeros (suc n) = ap (further false) (last-zeros n)

last-complete : (before : List Bool) (n : ℕ) → last_one (before ++ true ∷ replicate n false) ≡ at (length before)
unfolding last_one
last-complete [] n = ap (further true) (last-zeros n)
last-complete (b ∷ before) n = ap (further b) (last-complete before n)

length-tailed : (before : List Bool) (n : ℕ) → length (before ++ true ∷ replicate n false) ≡ length before + suc n
length-tailed before n = length-append before (true ∷ replicate n false) ∙ ap (λ x. length before + suc x) (length-replicate n false)

not-extension : {X : Type 0} {e : ℕ} → Err Tail ≡ Ok e → X
not-extension h = let z : ◌≡◌ {A = ℕ} 0 1 = cc in absurd (omega arith)

tailed-judged : (w : List Bool) (e : ℕ) → Tailed w e → judged (length w) (last_one w) ≡ Ok e
tailed-judged w e t =
    let l : length w ≡ length t.extension + suc t.zeros = ap length t.split ∙ length-tailed t.extension t.zeros in
    ap (judged (length w)) (ap last_one t.split ∙ last-complete t.extension t.zeros)
    ∙ judged-found (length w) (length t.extension) (omega (arith, t.few))
    ∙ ap Ok t.count

judged-tailed : (w : List Bool) (e : ℕ) → judged (length w) (last_one w) ≡ Ok e → Tailed w e
judged-tailed w e h = go (last_one w) refl
  where
    inside : (i : ℕ) → last_one w ≡ at i → (length w ≤ i + 8) ⊎ (i + 8 < length w) → Tailed w e
    inside i k (inl l) =
        let r = last-sound w k in
        let m : length w ≡ length r.before + suc r.zeros = ap length r.split ∙ length-tailed r.before r.zeros in
        let f : Ok i ≡ Ok e = sym (judged-found (length w) i l) ∙ ap (judged (length w)) (sym k) ∙ h in
        record { extension = r.before; zeros = r.zeros; few = omega (arith, r.count); split = r.split; count = r.count ∙ cc }
    inside i k (inr l) = not-extension (sym (rw (lt-leb (length w) (i + 8) l)) ∙ ap (judged (length w)) (sym k) ∙ h)

    go : (l : Last) → last_one w ≡ l → Tailed w e
    go none k = not-extension (ap (judged (length w)) (sym k) ∙ h)
    go (at i) k = inside i k (swap (below (i + 8) (length w)))
      where
        swap : {P Q : Type 0} → P ⊎ Q → Q ⊎ P
        swap (inl p) = inr p
        swap (inr q) = inl q

-- the payload ends with an extension of e bits exactly where nothing is left and e is 0, or a permitted tail with e bits of extension is
pub tail-permitted : (w : List Bool) (e : ℕ) → (tail_of w ≡ Ok e) ↔ Ended w e
unfolding tail_of
tail-permitted [] e = (λ h. inl (refl, cc), complete)
  where
    complete : Ended [] e → ◌≡◌ {A = Ending} (Ok 0) (Ok e)
    complete (inl d) = ap Ok (sym d.1)
    complete (inr t) = absurd (omega (arith, ap length t.split, length-tailed t.extension t.zeros))
tail-permitted (b ∷ w) e = (λ h. inr (judged-tailed (b ∷ w) e h), complete)
  where
    complete : Ended (b ∷ w) e → judged (length (b ∷ w)) (last_one (b ∷ w)) ≡ Ok e
    complete (inl d) = absurd (omega (arith, ap length d.0))
    complete (inr t) = tailed-judged (b ∷ w) e t

-- and 7 exactly otherwise
judged-seen : (n : ℕ) (l : Last) → ((e : ℕ) × (judged n l ≡ Ok e)) ⊎ (judged n l ≡ Err Tail)
judged-seen n none = inr refl
judged-seen n (at i) = go (leb n (i + 8)) refl
  where
    go : (t : Bool) → leb n (i + 8) ≡ t → ((e : ℕ) × (judged n (at i) ≡ Ok e)) ⊎ (judged n (at i) ≡ Err Tail)
    go true k = inl (i, rw k)
    go false k = inr (rw k)

pub tail-seen : (w : List Bool) → ((e : ℕ) × (tail_of w ≡ Ok e)) ⊎ (tail_of w ≡ Err Tail)
unfolding tail_of
tail-seen [] = inl (0, refl)
tail-seen (b ∷ w) = judged-seen (length (b ∷ w)) (last_one (b ∷ w))

pub tail-refused : (w : List Bool) → (tail_of w ≡ Err Tail) ↔ ((e : ℕ) → Ended w e → ⊥)
tail-refused w = (λ h e d. not-extension (sym h ∙ (tail-permitted w e).1 d), λ never. go never (tail-seen w))
  where
    go : ((e : ℕ) → Ended w e → ⊥) → ((e : ℕ) × (tail_of w ≡ Ok e)) ⊎ (tail_of w ≡ Err Tail) → tail_of w ≡ Err Tail
    go never (inl r) = absurd (never r.0 ((tail-permitted w r.0).0 r.1))
    go never (inr h) = h
