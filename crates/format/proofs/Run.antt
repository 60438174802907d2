-- The general theorems on what is read and what is coded, once over any format.
-- Assumes nothing.
use Prim.Native.Nat.{ℕ, ◌+◌, ◌≤◌}
use mathlib.Core.Path.{◌≡◌, refl, sym, ap, ap₂, ◌∙◌, subst}
use mathlib.Core.Logic.{◌↔◌, ◌⊎◌, inl, inr}
use mathlib.Core.Bool.{Bool, false}
use mathlib.Core.List.{List, [], ◌++◌, append_assoc}
use native.Mathlib.Omega.{arith}
use lib.ListN.{length, take, drop, length-append, take-append-drop, replicate}
use lib.Seq.{take_at, drop_at, length-take-le}
use Rattle.bits.specs.Refusals.{Verdict, fine, against}
use Rattle.bits.specs.Out.{Out, taken, refused, after, placed, refusal_in}
use Rattle.bits.specs.Coding.{Shape, unsigned, exp_golomb, CodedShape, Starts, TooManyZeros}
use Rattle.bits.specs.Elements.{shape_front}
use Rattle.bits.specs.declared.refusal.Refusal.{Refusal}
use Rattle.bits.specs.declared.refusal.Refusal.TheVariants.{Short}
use Rattle.bits.proofs.Reading.{not_taken, front-taken, front-zeros, front-short, FrontSeen, seen, short, zeros, front-seen}
use Rattle.format.specs.Format.{Element, verdict, Format, done, read, asks, handed}
use Rattle.format.specs.Reading.{ruled, judged, element_front, run}
use Rattle.format.specs.Coded.{Coded}
use Rattle.format.specs.Stopped.{StoppedHere, Stopped}
use Rattle.format.specs.Stopped as here

same-refusal : {A : Type 0} {q t : Refusal} → ◌≡◌ {A = Out A} (refused q) (refused t) → q ≡ t
same-refusal k = ap refusal_in k

-- ---- one element

-- w starts with the code of an element that is fine and means m, in n bits
record Passed (e : Element) (w : List Bool) (m n : ℕ) : Type 0 where
  code : ℕ
  starts : Starts e.shape w code n
  means : handed e code ≡ m
  judged : verdict e code ≡ fine

element-sound : (e : Element) (w : List Bool) {m n : ℕ} → element_front e w ≡ taken m n → Passed e w m n
unfolding element_front
element-sound e w {m} {n} h = go (shape_front e.shape w) refl
  where
    by-rule : (c l : ℕ) → shape_front e.shape w ≡ taken c l → (v : Verdict) → verdict e c ≡ v → ruled v (handed e c) l ≡ taken m n → Passed e w m n
    by-rule c l g fine k r = let same : l ≡ n = cc in record { code = c; starts = (front-taken e.shape w c n).0 (g ∙ ap (taken c) same); means = cc; judged = k }
    by-rule c l g (against b) k r = not_taken r

    go : (o : Out ℕ) → shape_front e.shape w ≡ o → Passed e w m n
    go (taken c l) g = by-rule c l g (verdict e c) refl (ap (judged e) (sym g) ∙ h)
    go (refused r) g = not_taken (ap (judged e) (sym g) ∙ h)

-- the code of c is at the front of it and of whatever follows it
pub starts_with : (h : Shape) (own : List Bool) (c : ℕ) → CodedShape h own c → (rest : List Bool) → shape_front h (own ++ rest) ≡ taken c (length own)
starts_with h own c d rest = (front-taken h (own ++ rest) c (length own)).1 (record { own = own; rest = rest; split = refl; coded = d; long = refl })

element-complete : (e : Element) (own : List Bool) (c : ℕ) → CodedShape e.shape own c → verdict e c ≡ fine → (rest : List Bool)
    → element_front e (own ++ rest) ≡ taken (handed e c) (length own)
unfolding element_front
element-complete e own c d kept rest = ap (judged e) (starts_with e.shape own c d rest) ∙ ap (λ v. ruled v (handed e c) (length own)) kept

element-stopped : (e : Element) (w : List Bool) {r : Refusal} → element_front e w ≡ refused r → StoppedHere e w r
unfolding element_front
element-stopped e w {r} h = go (front-seen e.shape w)
  where
    same : {q t : Refusal} → StoppedHere e w q → ◌≡◌ {A = Out ℕ} (refused q) (refused t) → StoppedHere e w t
    same d k = subst (StoppedHere e w) (same-refusal k) d

    by-rule : (c n : ℕ) → shape_front e.shape w ≡ taken c n → (v : Verdict) → verdict e c ≡ v → ruled v (handed e c) n ≡ refused r → StoppedHere e w r
    by-rule c n g fine k q = not_taken (sym q)
    by-rule c n g (against b) k q =
        let s = (front-taken e.shape w c n).0 g in
        same (here.rule (record { code = c; own = s.own; rest = s.rest; split = s.split; element = s.coded; said = k })) q

    go : FrontSeen e.shape w → StoppedHere e w r
    go (seen c n g) = by-rule c n g (verdict e c) refl (ap (judged e) (sym g) ∙ h)
    go (short g) = same (here.short ((front-short e.shape w).0 g)) (ap (judged e) (sym g) ∙ h)
    go (zeros g) = same (here.zeros ((front-zeros e.shape w).0 g)) (ap (judged e) (sym g) ∙ h)

element-stops : (e : Element) (w : List Bool) {r : Refusal} → StoppedHere e w r → element_front e w ≡ refused r
unfolding element_front
element-stops e w (here.short d) = ap (judged e) ((front-short e.shape w).1 d)
element-stops e w (here.zeros d) = ap (judged e) ((front-zeros e.shape w).1 d)
element-stops e w (here.rule {x} d) =
    ap (λ x. judged e (shape_front e.shape x)) d.split
    ∙ ap (judged e) (starts_with e.shape d.own d.code d.element d.rest)
    ∙ ap (λ v. ruled v (handed e d.code) (length d.own)) d.said

-- what stops an element, other than the end, still stops it where more follows
still : (e : Element) (w x : List Bool) {r : Refusal} → StoppedHere e w r → (r ≡ Short) ⊎ StoppedHere e (w ++ x) r
still e w x (here.short d) = inl refl
still e w x (here.zeros d) = inr (here.zeros (more e.shape d))
  where
    more : (h : Shape) → TooManyZeros h w → TooManyZeros h (w ++ x)
    more (unsigned n) z = z
    more exp_golomb z = (z.0 ++ x, ap (λ v. v ++ x) z.1 ∙ append_assoc (replicate 32 false) z.0 x)
still e w x (here.rule d) =
    inr (here.rule (record { code = d.code; own = d.own; rest = d.rest ++ x; split = ap (λ v. v ++ x) d.split ∙ append_assoc d.own d.rest x; element = d.element; said = d.said }))

module _ {A : Type 0} where
  placed-taken : (n : ℕ) (o : Out A) {a : A} {q : ℕ} → placed n o ≡ taken a q → (l : ℕ) × (o ≡ taken a l) × (n + l ≡ q)
  placed-taken n (taken b l) h = (l, cc, cc)
  placed-taken n (refused r) h = not_taken h

  placed-refused : (n : ℕ) (o : Out A) {r : Refusal} → placed n o ≡ refused r → o ≡ refused r
  placed-refused n (taken b l) h = not_taken (sym h)
  placed-refused n (refused t) h = h

module _ {R A : Type 0} where
  -- ---- one step of a reading

  run-taken : (e : Element) (get : R → ℕ) (k : ℕ → Format R A) (w : List Bool) {m n : ℕ} → element_front e w ≡ taken m n → run (read e get k) w ≡ placed n (run (k m) (drop n w))
  unfolding run
  run-taken e get k w h = ap (λ o. after o (λ m n. placed n (run (k m) (drop n w)))) h

  run-refused : (e : Element) (get : R → ℕ) (k : ℕ → Format R A) (w : List Bool) {r : Refusal} → element_front e w ≡ refused r → run (read e get k) w ≡ refused r
  unfolding run
  run-refused e get k w h = ap (λ o. after o (λ m n. placed n (run (k m) (drop n w)))) h

  -- ---- taken

  -- w starts with bits that are the message a, q of them
  pub record Begins (f : Format R A) (w : List Bool) (a : A) (q : ℕ) : Type 0 where
    pub own : List Bool
    pub rest : List Bool
    pub split : w ≡ own ++ rest
    pub coded : Coded f own a
    pub long : length own ≡ q

  pub run_sound : (f : Format R A) (w : List Bool) {a : A} {q : ℕ} → run f w ≡ taken a q → Begins f w a q
  unfolding run
  run_sound (done b) w h = record { own = []; rest = w; split = refl; coded = (refl, cc); long = cc }
  run_sound (asks b f) w h = let r = run_sound f w h in record { own = r.own; rest = r.rest; split = r.split; coded = r.coded; long = r.long }
  run_sound (read e get k) w {a} {q} h = go (element_front e w) refl (λ m v l. run_sound (k m) v)
    where
      next : {m n : ℕ} → Passed e w m n → (l : ℕ) → n + l ≡ q → Begins (k m) (drop n w) a l → Begins (read e get k) w a q
      next {m} {n} p l s r =
          let b = p.starts in
          let d : drop n w ≡ b.rest = ap (drop n) b.split ∙ drop_at b.own b.rest n b.long in
          record {
            own = b.own ++ r.own;
            rest = r.rest;
            split = b.split ∙ ap (λ x. b.own ++ x) (sym d ∙ r.split) ∙ sym (append_assoc b.own r.own r.rest);
            coded = record {
              code = p.code;
              own = b.own;
              rest = r.own;
              split = refl;
              element = b.coded;
              judged = p.judged;
              follows = rw p.means r.coded;
            };
            long = length-append b.own r.own ∙ ap₂ ◌+◌ b.long r.long ∙ s;
          }

      go : (o : Out ℕ) → element_front e w ≡ o → ((m : ℕ) (v : List Bool) (l : ℕ) → run (k m) v ≡ taken a l → Begins (k m) v a l) → Begins (read e get k) w a q
      go (taken m n) g ih =
          let t = placed-taken n (run (k m) (drop n w)) (sym (run-taken e get k w g) ∙ h) in
          next (element-sound e w g) t.0 t.2 (ih m (drop n w) t.0 t.1)
      go (refused r) g ih = not_taken (sym (run-refused e get k w g) ∙ h)

  pub run-complete : (f : Format R A) (own : List Bool) {a : A} → Coded f own a → (rest : List Bool) → run f (own ++ rest) ≡ taken a (length own)
  unfolding run
  run-complete (done b) own d rest = ap₂ taken d.1 (sym (ap length d.0))
  run-complete (asks b f) own d rest = run-complete f own d rest
  run-complete (read e get k) own {a} d rest =
      let w : own ++ rest ≡ d.own ++ (d.rest ++ rest) = ap (λ x. x ++ rest) d.split ∙ append_assoc d.own d.rest rest in
      let n : length own ≡ length d.own + length d.rest = ap length d.split ∙ length-append d.own d.rest in
      ap (run (read e get k)) w
      ∙ run-taken e get k (d.own ++ (d.rest ++ rest)) (element-complete e d.own d.code d.element d.judged (d.rest ++ rest))
      ∙ ap (λ x. placed (length d.own) (run (k (handed e d.code)) x)) (drop_at d.own (d.rest ++ rest) (length d.own) refl)
      ∙ ap (placed (length d.own)) (run-complete (k (handed e d.code)) d.rest d.follows rest)
      ∙ ap (taken a) (sym n)

  -- Taken with a, in q bits, exactly where there are q bits and the first q are the message a.
  pub run-iff : (f : Format R A) (w : List Bool) (a : A) (q : ℕ) → (run f w ≡ taken a q) ↔ ((q ≤ length w) × Coded f (take q w) a)
  run-iff f w a q = (λ h. front (run_sound f w h), λ d. back d.0 d.1)
    where
      front : Begins f w a q → (q ≤ length w) × Coded f (take q w) a
      front b =
          let n : length w ≡ length b.own + length b.rest = ap length b.split ∙ length-append b.own b.rest in
          (omega (arith, b.long), rw (b.split, take_at b.own b.rest q b.long) b.coded)

      back : q ≤ length w → Coded f (take q w) a → run f w ≡ taken a q
      back l d = ap (run f) (sym (take-append-drop q w)) ∙ run-complete f (take q w) d (drop q w) ∙ ap (taken a) (length-take-le q w l)

  -- No outcome lies past the end.
  pub run_inside : (f : Format R A) (w : List Bool) {a : A} {q : ℕ} → run f w ≡ taken a q → q ≤ length w
  run_inside f w {a} {q} h = ((run-iff f w a q).0 h).0

  -- The message and its length are the only ones.
  pub coded-unique : (f : Format R A) (w : List Bool) (a b : A) (p q : ℕ) → (p ≤ length w) × Coded f (take p w) a → (q ≤ length w) × Coded f (take q w) b → (a ≡ b) × (p ≡ q)
  coded-unique f w a b p q d e =
      let h : taken a p ≡ taken b q = sym ((run-iff f w a p).1 d) ∙ (run-iff f w b q).1 e in
      (cc, cc)

  -- Local: bits past the message have no effect.
  pub run-local : (f : Format R A) (w v : List Bool) {a : A} {q : ℕ} → q ≤ length v → take q w ≡ take q v → run f w ≡ taken a q → run f v ≡ taken a q
  run-local f w v {a} {q} l same h = (run-iff f v a q).1 (l, rw same at ((run-iff f w a q).0 h).1)

  -- ---- refused

  stopped-sound : (f : Format R A) (w : List Bool) {r : Refusal} → run f w ≡ refused r → Stopped f w r
  unfolding run
  stopped-sound (done b) w h = not_taken (sym h)
  stopped-sound (asks b f) w h = stopped-sound f w h
  stopped-sound (read e get k) w {r} h = go (element_front e w) refl (λ m v. stopped-sound (k m) v)
    where
      later : {m n : ℕ} → Passed e w m n → Stopped (k m) (drop n w) r → Stopped (read e get k) w r
      later {m} {n} p d =
          let b = p.starts in
          let v : drop n w ≡ b.rest = ap (drop n) b.split ∙ drop_at b.own b.rest n b.long in
          inr (record { code = p.code; own = b.own; rest = b.rest; split = b.split; element = b.coded; judged = p.judged; follows = rw (p.means, ← v) d })

      go : (o : Out ℕ) → element_front e w ≡ o → ((m : ℕ) (v : List Bool) → run (k m) v ≡ refused r → Stopped (k m) v r) → Stopped (read e get k) w r
      go (taken m n) g ih = later (element-sound e w g) (ih m (drop n w) (placed-refused n (run (k m) (drop n w)) (sym (run-taken e get k w g) ∙ h)))
      go (refused t) g ih = inl (element-stopped e w (g ∙ ap refused (same-refusal (sym (run-refused e get k w g) ∙ h))))

  stopped-complete : (f : Format R A) (w : List Bool) (r : Refusal) → Stopped f w r → run f w ≡ refused r
  unfolding run
  stopped-complete (done b) w r d = absurd d
  stopped-complete (asks b f) w r d = stopped-complete f w r d
  stopped-complete (read e get k) w r (inl d) = run-refused e get k w (element-stops e w d)
  stopped-complete (read e get k) w r (inr d) =
      ap (run (read e get k)) d.split
      ∙ run-taken e get k (d.own ++ d.rest) (element-complete e d.own d.code d.element d.judged d.rest)
      ∙ ap (λ x. placed (length d.own) (run (k (handed e d.code)) x)) (drop_at d.own d.rest (length d.own) refl)
      ∙ ap (placed (length d.own)) (stopped-complete (k (handed e d.code)) d.rest r d.follows)

  -- Refused for r exactly where the bits stop it for r.
  pub run-stopped : (f : Format R A) (w : List Bool) (r : Refusal) → (run f w ≡ refused r) ↔ Stopped f w r
  run-stopped f w r = (stopped-sound f w, stopped-complete f w r)

  -- What is taken and what is stopped exclude each other, and cover every payload; and a payload is stopped for one refusal only.
  pub not-both : (f : Format R A) (w : List Bool) (a : A) (q : ℕ) (r : Refusal) → (q ≤ length w) × Coded f (take q w) a → Stopped f w r → ⊥
  not-both f w a q r d s = not_taken (sym ((run-stopped f w r).1 s) ∙ (run-iff f w a q).1 d)

  pub one-of-both : (f : Format R A) (w : List Bool) → ((a : A) × (q : ℕ) × (q ≤ length w) × Coded f (take q w) a) ⊎ ((r : Refusal) × Stopped f w r)
  one-of-both f w = go (run f w) refl
    where
      go : (o : Out A) → run f w ≡ o → ((a : A) × (q : ℕ) × (q ≤ length w) × Coded f (take q w) a) ⊎ ((r : Refusal) × Stopped f w r)
      go (taken a q) h = let d = (run-iff f w a q).0 h in inl (a, q, d.0, d.1)
      go (refused r) h = inr (r, (run-stopped f w r).0 h)

  pub stopped-once : (f : Format R A) (w : List Bool) (r t : Refusal) → Stopped f w r → Stopped f w t → r ≡ t
  stopped-once f w r t d e = same-refusal (sym ((run-stopped f w r).1 d) ∙ (run-stopped f w t).1 e)

  -- ---- cut

  stopped_more : (f : Format R A) (w x : List Bool) (r : Refusal) → Stopped f w r → (r ≡ Short) ⊎ Stopped f (w ++ x) r
  stopped_more (done b) w x r d = absurd d
  stopped_more (asks b f) w x r d = stopped_more f w x r d
  stopped_more (read e get k) w x r (inl d) = go (still e w x d)
    where
      go : (r ≡ Short) ⊎ StoppedHere e (w ++ x) r → (r ≡ Short) ⊎ Stopped (read e get k) (w ++ x) r
      go (inl h) = inl h
      go (inr h) = inr (inl h)
  stopped_more (read e get k) w x r (inr d) = go (stopped_more (k (handed e d.code)) d.rest x r d.follows)
    where
      go : (r ≡ Short) ⊎ Stopped (k (handed e d.code)) (d.rest ++ x) r → (r ≡ Short) ⊎ Stopped (read e get k) (w ++ x) r
      go (inl h) = inl h
      go (inr h) =
          inr
          (inr
          (record {
            code = d.code;
            own = d.own;
            rest = d.rest ++ x;
            split = ap (λ v. v ++ x) d.split ∙ append_assoc d.own d.rest x;
            element = d.element;
            judged = d.judged;
            follows = h;
          }))

  -- Cut: on fewer bits the outcome is the same, or refusal 3.
  pub run-cut : (f : Format R A) (w x : List Bool) → (run f w ≡ run f (w ++ x)) ⊎ (run f w ≡ refused Short)
  run-cut f w x = go (run f w) refl
    where
      stops : {r : Refusal} → run f w ≡ refused r → (r ≡ Short) ⊎ Stopped f (w ++ x) r → (run f w ≡ run f (w ++ x)) ⊎ (run f w ≡ refused Short)
      stops h (inl e) = inr (h ∙ ap refused e)
      stops {r} h (inr d) = inl (h ∙ sym ((run-stopped f (w ++ x) r).1 d))

      go : (o : Out A) → run f w ≡ o → (run f w ≡ run f (w ++ x)) ⊎ (run f w ≡ refused Short)
      go (taken a q) h =
          let b = run_sound f w h in
          let v : w ++ x ≡ b.own ++ (b.rest ++ x) = ap (λ y. y ++ x) b.split ∙ append_assoc b.own b.rest x in
          inl (h ∙ sym (ap (run f) v ∙ run-complete f b.own b.coded (b.rest ++ x) ∙ ap (taken a) b.long))
      go (refused r) h = stops h (stopped_more f w x r ((run-stopped f w r).0 h))
