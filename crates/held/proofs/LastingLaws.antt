-- The numbers tell the five kinds that are held apart, and from those that are not.
-- Assumes nothing.
use Prim.Native.Nat.{ℕ}
use native.Mathlib.Omega.{arith}
use mathlib.Core.Path.{◌≡◌, refl, sym, ap, ◌∙◌}
use mathlib.Core.Logic.{◌≢◌, ◌⊎◌, inl, inr}
use mathlib.Core.Bool.{Bool, true, false}
use lib.Dec.{eqb}
use borrow.Author.Tests.{eqb-true}
use Rattle.std.specs.Prelude.{if◌then◌else◌}
use Rattle.answers.specs.Listed.{number, is_held, Unheld}
use Rattle.answers.specs.declared.kind.Kind.{Kind}
use Rattle.held.specs.Lasting.{Lasting, frame_packing, orientation, equirectangular, rotation, region_wise, kind_of}

abbrev numbered : ℕ → Unit {0} ⊎ Lasting
numbered n =
    if eqb n 45 then inr frame_packing
    else if eqb n 47 then inr orientation
    else if eqb n 150 then inr equirectangular
    else if eqb n 154 then inr rotation
    else if eqb n 155 then inr region_wise
    else inl tt

numbered_of : (k : Lasting) → numbered (number (kind_of k)) ≡ inr k
numbered_of frame_packing = refl
numbered_of orientation = refl
numbered_of equirectangular = refl
numbered_of rotation = refl
numbered_of region_wise = refl

pub same_kind : (k j : Lasting) → number (kind_of k) ≡ number (kind_of j) → k ≡ j
same_kind k j e = let q = sym (numbered_of k) ∙ ap numbered e ∙ numbered_of j in cc

held_of : (k : Lasting) → is_held (number (kind_of k)) ≡ true
held_of frame_packing = refl
held_of orientation = refl
held_of equirectangular = refl
held_of rotation = refl
held_of region_wise = refl

pub unheld-apart : (j : Kind) → Unheld j → (k : Lasting) → number j ≢ number (kind_of k)
unheld-apart j u k e =
    let q : true ≡ false = sym (held_of k) ∙ sym (ap is_held e) ∙ u in
    let z : ◌≡◌ {A = ℕ} 0 1 = cc in
    omega arith

-- a number is that of one of the five, or of none
pub sort : (n : ℕ) → (is_held n ≡ false) ⊎ ((k : Lasting) × (n ≡ number (kind_of k)))
sort n = go (eqb n 45) (eqb n 47) (eqb n 150) (eqb n 154) (eqb n 155) refl refl refl refl refl
  where
    go : (a b c d e : Bool) → eqb n 45 ≡ a → eqb n 47 ≡ b → eqb n 150 ≡ c → eqb n 154 ≡ d → eqb n 155 ≡ e
        → (is_held n ≡ false) ⊎ ((k : Lasting) × (n ≡ number (kind_of k)))
    go true b c d e p q r s t = inr (frame_packing, eqb-true n 45 p)
    go false true c d e p q r s t = inr (orientation, eqb-true n 47 q)
    go false false true d e p q r s t = inr (equirectangular, eqb-true n 150 r)
    go false false false true e p q r s t = inr (rotation, eqb-true n 154 s)
    go false false false false true p q r s t = inr (region_wise, eqb-true n 155 t)
    go false false false false false p q r s t = inl (rw (p, q, r, s, t))
