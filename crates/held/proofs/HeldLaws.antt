-- The laws of what is held, each once over the five kinds.
-- Assumes nothing.
use Prim.Native.Nat.{ℕ}
use mathlib.Core.Bool.{Bool, true, false}
use mathlib.Core.Path.{◌≡◌, refl, sym, ap, ◌∙◌}
use mathlib.Core.Logic.{◌≢◌}
use lib.Dec.{eqb}
use borrow.Author.Tests.{ne_eqb}
use Rattle.std.specs.Prelude.{if◌then◌else◌}
use Rattle.format.specs.Syntax.{i32, times}
use Rattle.kind_region_wise.specs.RegionWise.{region}
use Rattle.answers.specs.Listed.{number, zeros}
use Rattle.held.specs.Lasting.{Lasting, frame_packing, orientation, equirectangular, rotation, region_wise, kind_of, RecordOf, persistence_of, HeldOf, marked, mark_of, value_of}
use Rattle.held.specs.Held.{none_of, kept_of, five, held_of, nothing, kept, replaced}
use Rattle.held.specs.declared.Held.{Held}

-- ---- a mark and a record

pub mark-of : (k : Lasting) (m : ℕ) (a : RecordOf k) → mark_of k (marked k m a) ≡ m
mark-of frame_packing m a = refl
mark-of orientation m a = refl
mark-of equirectangular m a = refl
mark-of rotation m a = refl
mark-of region_wise m a = refl

pub value-of : (k : Lasting) (m : ℕ) (a : RecordOf k) → value_of k (marked k m a) ≡ a
value-of frame_packing m a = refl
value-of orientation m a = refl
value-of equirectangular m a = refl
value-of rotation m a = refl
value-of region_wise m a = refl

pub none-mark : (k : Lasting) → mark_of k (none_of k) ≡ 0
unfolding none_of
none-mark k = mark-of k 0 (zeros (kind_of k))

zeros-pass : (k : Lasting) → persistence_of k (zeros (kind_of k)) ≡ 0
unfolding i32 times region
zeros-pass frame_packing = refl
zeros-pass orientation = refl
zeros-pass equirectangular = refl
zeros-pass rotation = refl
zeros-pass region_wise = refl

none_passes : (k : Lasting) → persistence_of k (value_of k (none_of k)) ≡ 0
unfolding none_of
none_passes k = ap (persistence_of k) (value-of k 0 (zeros (kind_of k))) ∙ zeros-pass k

-- ---- the five

of-five : (k : Lasting) (f : (k : Lasting) → HeldOf k) → held_of k (five f) ≡ f k
of-five frame_packing f = refl
of-five orientation f = refl
of-five equirectangular f = refl
of-five rotation f = refl
of-five region_wise f = refl

pub of-nothing : (k : Lasting) → held_of k nothing ≡ none_of k
unfolding nothing
of-nothing k = of-five k none_of

pub of-kept : (k : Lasting) (h : Held) → held_of k (kept h) ≡ kept_of k (held_of k h)
unfolding kept
of-kept k h = of-five k (λ j. kept_of j (held_of j h))

pub of-replaced : (k : Lasting) (h : Held) (x : HeldOf k) → held_of k (replaced k h x) ≡ x
of-replaced frame_packing h x = refl
of-replaced orientation h x = refl
of-replaced equirectangular h x = refl
of-replaced rotation h x = refl
of-replaced region_wise h x = refl

pub held_same : (k : Lasting) (h : Held) → replaced k h (held_of k h) ≡ h
held_same frame_packing h = refl
held_same orientation h = refl
held_same equirectangular h = refl
held_same rotation h = refl
held_same region_wise h = refl

-- ---- replacing one leaves the others: with the old one of its kind, they are all that was held

abbrev restored : (j : Lasting) (h : Held) → Held → (k : Lasting) → HeldOf k
restored j h after k = if eqb (number (kind_of k)) (number (kind_of j)) then held_of k h else held_of k after

same-five : (j : Lasting) (h : Held) (x : HeldOf j) → five (restored j h (replaced j h x)) ≡ h
same-five frame_packing h x = refl
same-five orientation h x = refl
same-five equirectangular h x = refl
same-five rotation h x = refl
same-five region_wise h x = refl

pub other-replaced : (k j : Lasting) (h : Held) (x : HeldOf j) → number (kind_of k) ≢ number (kind_of j) → held_of k (replaced j h x) ≡ held_of k h
other-replaced k j h x d =
    let other : restored j h (replaced j h x) k ≡ held_of k (replaced j h x) = rw (ne_eqb (number (kind_of k)) (number (kind_of j)) d) in
    sym other ∙ sym (of-five k (restored j h (replaced j h x))) ∙ ap (held_of k) (same-five j h x)

-- ---- a picture drops for good: a second one drops no more than the first

again : (k : Lasting) (h : HeldOf k) → kept_of k (kept_of k h) ≡ kept_of k h
unfolding kept_of
again k h = go (eqb (persistence_of k (value_of k h)) 0) refl
  where
    go : (b : Bool) → eqb (persistence_of k (value_of k h)) 0 ≡ b
        → (if eqb (persistence_of k (value_of k (if b then none_of k else h))) 0 then none_of k else (if b then none_of k else h)) ≡ (if b then none_of k else h)
    go true e = rw (none_passes k)
    go false e = rw e

pub kept_again : (h : Held) → kept (kept h) ≡ kept h
unfolding kept
kept_again h = simp (again frame_packing, again orientation, again equirectangular, again rotation, again region_wise)
