-- What the rules of kind 155 say of a code v: of a picture's size, and of the count of regions.
-- Assumes nothing.
use Prim.Native.Nat.{ℕ, ◌≤◌, ◌<◌}
use mathlib.Core.Path.{◌≡◌}
use native.Mathlib.Omega.{arith}
use borrow.Author.Tests.{le-leb, lt-leb}
use Rattle.bits.specs.Out.{taken, refused}
use Rattle.bits.specs.declared.refusal.Refusal.TheVariants.{Rule, Regions}
use Rattle.format.specs.Reading.{ruled}
use Rattle.format.specs.Syntax.{at_least}
use Rattle.kind_region_wise.specs.RegionWise.{most, countable}

module _ (v q : ℕ) where
  pub no_size : v ≡ 0 → ruled (at_least 1 v) v q ≡ refused Rule
  no_size h = rw (lt-leb 1 v (omega arith))

  pub some_size : (v ≡ 0 → ⊥) → ruled (at_least 1 v) v q ≡ taken v q
  some_size h = rw (le-leb 1 v (omega arith))

  pub no-count : v ≡ 0 → ruled (countable v) v q ≡ refused Rule
  no-count h = rw (lt-leb 1 v (omega arith))

  pub large-count : (v ≡ 0 → ⊥) → most < v → ruled (countable v) v q ≡ refused Regions
  large-count h l = rw (le-leb 1 v (omega arith), lt-leb v most l)

  pub some-count : (v ≡ 0 → ⊥) → v ≤ most → ruled (countable v) v q ≡ taken v q
  some-count h l = rw (le-leb 1 v (omega arith), le-leb v most l)
