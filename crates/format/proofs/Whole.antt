-- A whole payload, once over any kind: each outcome is given exactly where the bits say so; a variation has the same outcome.
-- Assumes nothing.
use Prim.Native.Nat.{ℕ}
use mathlib.Core.Path.{◌≡◌, refl, sym, ap, ◌∙◌, subst}
use mathlib.Core.Logic.{◌↔◌, ◌⊎◌, inl, inr}
use mathlib.Core.Bool.{Bool, true, false}
use mathlib.Core.List.{List, ◌++◌}
use native.Mathlib.Nat.{zero-add}
use native.Mathlib.Omega.{arith}
use lib.ListN.{length, drop}
use lib.Seq.{drop_at}
use Rattle.bits.specs.Bits.{from, bits_of}
use Rattle.bits.specs.Refusals.{Breach, broken, too_many, refusal_of, OfElement, short, zeros, rule, regions}
use Rattle.bits.specs.Out as out
use Rattle.bits.specs.Tail.{tail_of, tail_at}
use Rattle.bits.specs.Tail.{Ending}
use Rattle.std.specs.Prelude.{Ok, Err}
use Rattle.bits.specs.declared.refusal.Refusal.{Refusal}
use Rattle.bits.specs.declared.refusal.Refusal.TheVariants.{Tail}
use Rattle.bits.proofs.BitLaws.{drop-from}
use Rattle.bits.proofs.Reading.{tail-permitted, tail-refused, tail-seen}
use Rattle.format.specs.Format.{Element, Format, done, read, asks, handed}
use Rattle.format.specs.Reading.{run, run_at}
use Rattle.format.specs.Coded.{Coded}
use Rattle.format.specs.Stopped.{StoppedHere, Stopped}
use Rattle.format.specs.Stopped as stopped
use Rattle.format.specs.Varied.{Variation}
use Rattle.format.specs.Whole.{Reading, taken, set_aside, refused, given, ended, ending, closed, whole}
use Rattle.format.specs.Form.{Form}
use Rattle.format.specs.Holds.{Follows, Holds, BadTail, Seen, holds, stops, tail}
use Rattle.format.proofs.Run.{run_sound, run-complete, run-stopped}
use Rattle.format.proofs.Alike.{varied-taken, varied-length}
use Rattle.format.proofs.Payload as payload

-- ---- the refusals of elements are 3, 4, 5 and 6

here-which : (e : Element) (w : List Bool) {r : Refusal} → StoppedHere e w r → OfElement r
here-which e w (stopped.short d) = short
here-which e w (stopped.zeros d) = zeros
here-which e w (stopped.rule {x} d) = go x
  where
    go : (b : Breach) → OfElement (refusal_of b)
    go broken = rule
    go too_many = regions

pub stopped-which : {R A : Type 0} (f : Format R A) (w : List Bool) (r : Refusal) → Stopped f w r → OfElement r
stopped-which (done a) w r d = absurd d
stopped-which (asks b f) w r d = stopped-which f w r d
stopped-which (read e g k) w r (inl d) = here-which e w d
stopped-which (read e g k) w r (inr d) = stopped-which (k (handed e d.code)) d.rest r d.follows

not-tail : {X : Type 0} {r : Refusal} → OfElement r → r ≡ Tail → X
not-tail short e = let z : ◌≡◌ {A = ℕ} 0 1 = cc in absurd (omega arith)
not-tail zeros e = let z : ◌≡◌ {A = ℕ} 0 1 = cc in absurd (omega arith)
not-tail rule e = let z : ◌≡◌ {A = ℕ} 0 1 = cc in absurd (omega arith)
not-tail regions e = let z : ◌≡◌ {A = ℕ} 0 1 = cc in absurd (omega arith)

tail_from : (s : List ℕ) (p : ℕ) → tail_of (drop p (bits_of s)) ≡ tail_at s p
unfolding tail_at
tail_from s p = ap tail_of (drop-from s 0 p ∙ ap (from s) (zero-add p))

-- how the payload s ends from bit p on
abbrev pub ending_at : Bool → List ℕ → ℕ → Ending
ending_at true s p = tail_at s p
ending_at false s p = Ok 0

ending_at_lem : (b : Bool) (s : List ℕ) (p : ℕ) → ending b (drop p (bits_of s)) ≡ ending_at b s p
ending_at_lem true s p = tail_from s p
ending_at_lem false s p = refl

ending-iff : (b : Bool) (rest : List Bool) (e : ℕ) → (ending b rest ≡ Ok e) ↔ Follows b rest e
ending-iff true rest e = tail-permitted rest e
ending-iff false rest e = (λ h. cc, λ h. cc)

module _ {A : Type 0} where
  -- ---- telling the outcomes apart

  taken_refused : {X : Type 0} {r : Refusal} {a : A} {e : ℕ} → refused r ≡ taken a e → X
  taken_refused h = let z : ◌≡◌ {A = ℕ} 0 1 = cc in absurd (omega arith)

  aside-refused : {X : Type 0} {r : Refusal} {a : A} {e : ℕ} → refused r ≡ set_aside a e → X
  aside-refused h = let z : ◌≡◌ {A = ℕ} 0 1 = cc in absurd (omega arith)

  given-refused : {X : Type 0} {r : Refusal} (b : Bool) (a : A) (e : ℕ) → given b a e ≡ refused r → X
  given-refused true a e h = aside-refused (sym h)
  given-refused false a e h = taken_refused (sym h)

  same-refusal : {q t : Refusal} → ◌≡◌ {A = Reading A} (refused q) (refused t) → q ≡ t
  same-refusal h = cc

  -- a message and what follows it
  at-message : (k : Form A) (message rest : List Bool) (a : A) → Coded k.table message a → whole k (message ++ rest) ≡ ended k.aside a (ending k.tailed rest)
  unfolding whole
  at-message k message rest a d =
      ap (closed k (message ++ rest)) (run-complete k.table message d rest)
      ∙ ap (λ t. ended k.aside a (ending k.tailed t)) (drop_at message rest (length message) refl)

  pub whole-holds : (k : Form A) (w : List Bool) (a : A) (e : ℕ) → Holds k w a e → whole k w ≡ given (k.aside a) a e
  whole-holds k w a e d =
      ap (whole k) d.split
      ∙ at-message k d.message d.rest a d.coded
      ∙ ap (ended k.aside a) ((ending-iff k.tailed d.rest e).1 d.follows)

  pub seen : (k : Form A) (w : List Bool) → Seen k w
  seen k w = go (run k.table w) refl
    where
      after : (a : A) (message rest : List Bool) → w ≡ message ++ rest → Coded k.table message a → (b : Bool) → k.tailed ≡ b → Seen k w
      after a message rest split d false h = holds a 0 (record { message = message; rest = rest; split = split; coded = d; follows = subst (λ b. Follows b rest 0) (sym h) refl })
      after a message rest split d true h = by-tail (tail-seen rest)
        where
          by-tail : ((e : ℕ) × (tail_of rest ≡ Ok e)) ⊎ (tail_of rest ≡ Err Tail) → Seen k w
          by-tail (inl t) = holds a t.0 (record { message = message; rest = rest; split = split; coded = d; follows = subst (λ b. Follows b rest t.0) (sym h) ((tail-permitted rest t.0).0 t.1) })
          by-tail (inr t) = tail (record { value = a; message = message; rest = rest; split = split; coded = d; can = h; none = (tail-refused rest).0 t })

      go : (o : out.Out A) → run k.table w ≡ o → Seen k w
      go (out.taken a n) h = let b = run_sound k.table w h in after a b.own b.rest b.split b.coded k.tailed refl
      go (out.refused r) h = stops r ((run-stopped k.table w r).0 h)

  whole-stops : (k : Form A) (w : List Bool) (r : Refusal) → Stopped k.table w r → whole k w ≡ refused r
  unfolding whole
  whole-stops k w r d = ap (closed k w) ((run-stopped k.table w r).1 d)

  whole-tail : (k : Form A) (w : List Bool) → BadTail k w → whole k w ≡ refused Tail
  whole-tail k w d =
      ap (whole k) d.split
      ∙ at-message k d.message d.rest d.value d.coded
      ∙ ap (λ b. ended k.aside d.value (ending b d.rest)) d.can
      ∙ ap (ended k.aside d.value) ((tail-refused d.rest).1 d.none)

  -- ---- each outcome exactly where

  given-taken : (b : Bool) (a x : A) (e y : ℕ) → given b x y ≡ taken a e → (x ≡ a) × (y ≡ e) × (b ≡ false)
  given-taken true a x e y h = let z : ◌≡◌ {A = ℕ} 0 1 = cc in absurd (omega arith)
  given-taken false a x e y h = (cc, cc, refl)

  given-aside : (b : Bool) (a x : A) (e y : ℕ) → given b x y ≡ set_aside a e → (x ≡ a) × (y ≡ e) × (b ≡ true)
  given-aside true a x e y h = (cc, cc, refl)
  given-aside false a x e y h = let z : ◌≡◌ {A = ℕ} 0 1 = cc in absurd (omega arith)

  moved : (k : Form A) (w : List Bool) (a x : A) (e y : ℕ) → x ≡ a → y ≡ e → Holds k w x y → Holds k w a e
  moved k w a x e y p q d = subst (λ b. Holds k w b e) p (subst (λ n. Holds k w x n) q d)

  -- Taken with a and an extension of e bits exactly where the bits are that message and a permitted end, and it is not one to set aside.
  pub taken-iff : (k : Form A) (w : List Bool) (a : A) (e : ℕ) → (whole k w ≡ taken a e) ↔ (Holds k w a e × (k.aside a ≡ false))
  taken-iff k w a e = (λ h. sound h (seen k w), λ d. whole-holds k w a e d.0 ∙ ap (λ b. given b a e) d.1)
    where
      sound : whole k w ≡ taken a e → Seen k w → Holds k w a e × (k.aside a ≡ false)
      sound h (holds x y d) =
          let g = given-taken (k.aside x) a x e y (sym (whole-holds k w x y d) ∙ h) in
          (moved k w a x e y g.0 g.1 d, ap k.aside (sym g.0) ∙ g.2)
      sound h (stops r d) = taken_refused (sym (whole-stops k w r d) ∙ h)
      sound h (tail d) = taken_refused (sym (whole-tail k w d) ∙ h)

  -- Set aside exactly where the same holds and it is one to set aside.
  pub aside-iff : (k : Form A) (w : List Bool) (a : A) (e : ℕ) → (whole k w ≡ set_aside a e) ↔ (Holds k w a e × (k.aside a ≡ true))
  aside-iff k w a e = (λ h. sound h (seen k w), λ d. whole-holds k w a e d.0 ∙ ap (λ b. given b a e) d.1)
    where
      sound : whole k w ≡ set_aside a e → Seen k w → Holds k w a e × (k.aside a ≡ true)
      sound h (holds x y d) =
          let g = given-aside (k.aside x) a x e y (sym (whole-holds k w x y d) ∙ h) in
          (moved k w a x e y g.0 g.1 d, ap k.aside (sym g.0) ∙ g.2)
      sound h (stops r d) = aside-refused (sym (whole-stops k w r d) ∙ h)
      sound h (tail d) = aside-refused (sym (whole-tail k w d) ∙ h)

  -- 3, 4, 5 and 6 exactly where the elements stop it ..
  pub stopped-iff : (k : Form A) (w : List Bool) (r : Refusal) → OfElement r → (whole k w ≡ refused r) ↔ Stopped k.table w r
  stopped-iff k w r o = (λ h. sound h (seen k w), whole-stops k w r)
    where
      sound : whole k w ≡ refused r → Seen k w → Stopped k.table w r
      sound h (holds x y d) = given-refused (k.aside x) x y (sym (whole-holds k w x y d) ∙ h)
      sound h (stops t d) = subst (Stopped k.table w) (same-refusal (sym (whole-stops k w t d) ∙ h)) d
      sound h (tail d) = not-tail o (same-refusal (sym h ∙ whole-tail k w d))

  -- .. and 7 exactly where a message stands, and what follows it is no permitted end.
  pub tail-iff : (k : Form A) (w : List Bool) → (whole k w ≡ refused Tail) ↔ BadTail k w
  tail-iff k w = (λ h. sound h (seen k w), whole-tail k w)
    where
      sound : whole k w ≡ refused Tail → Seen k w → BadTail k w
      sound h (holds x y d) = given-refused (k.aside x) x y (sym (whole-holds k w x y d) ∙ h)
      sound h (stops t d) = not-tail (stopped-which k.table w t d) (same-refusal (sym (whole-stops k w t d) ∙ h))
      sound h (tail d) = d

  -- ---- demand 3: a variation of the message, with whatever permitted end, is answered the same but for the extension's length

  pub varied-whole : (k : Form A) (w : List Bool) (a : A) (e : ℕ) (d : Holds k w a e) (message rest : List Bool) (e' : ℕ)
      → Variation k.table d.message message → Follows k.tailed rest e' → whole k (message ++ rest) ≡ given (k.aside a) a e'
  unfolding whole
  varied-whole k w a e d message rest e' v f =
      ap (closed k (message ++ rest)) (varied-taken k.table d.message message a d.coded v rest)
      ∙ ap (λ t. ended k.aside a (ending k.tailed t)) (drop_at message rest (length d.message) (varied-length k.table d.message message v))
      ∙ ap (ended k.aside a) ((ending-iff k.tailed rest e').1 f)

  -- ---- at the payload's positions, for the code

  abbrev pub closed_at : Form A → List ℕ → out.Out A → Reading A
  closed_at k s (out.taken a p) = ended k.aside a (ending_at k.tailed s p)
  closed_at k s (out.refused r) = refused r

  pub whole-at : (k : Form A) (s : List ℕ) → whole k (bits_of s) ≡ closed_at k s (run_at k.table s 0)
  unfolding whole
  whole-at k s = go (run k.table (bits_of s)) ∙ ap (closed_at k s) (sym (payload.whole k.table s))
    where
      go : (o : out.Out A) → closed k (bits_of s) o ≡ closed_at k s o
      go (out.taken a p) = ap (ended k.aside a) (ending_at_lem k.tailed s p)
      go (out.refused r) = refl
