-- The sizes of RULES 4.155: a region is 25 bytes without guard bands and 31 with them, and what stands before the regions is 14 bytes.
-- Assumes nothing.
use Prim.Native.Nat.{ℕ, suc, ◌+◌, ◌*◌}
use mathlib.Core.Path.{◌≡◌, refl, sym, ap, subst}
use mathlib.Core.Bool.{Bool, true, false}
use mathlib.Core.List.{List, [], ◌∷◌}
use native.Mathlib.Omega.{arith}
use lib.Dec.{eqb}
use lib.ListN.{length, take}
use lib.Seq.{take_at}
use borrow.Author.Tests.{eqb-false}
use Rattle.std.specs.Prelude.{if◌then◌else◌}
use Rattle.bits.specs.Out.{taken}
use Rattle.format.specs.Format.{◌of◌}
use Rattle.format.specs.Reading.{run_at}
use Rattle.format.specs.Syntax.{times, listed}
use Rattle.format.specs.Coded.{Coded}
use Rattle.format.proofs.Always.{Always, always-of, always-part, always-when, always-times, always-coded, always-taken}
use Rattle.kind_region_wise.specs.declared.region.Region.{Region}
use Rattle.kind_region_wise.specs.declared.RegionWise.{RegionWise}
use Rattle.kind_region_wise.specs.RegionWise.{most, region, region_wise}

-- ---- one region

-- 1 for a region without guard bands, and for one with them
abbrev pub without : Region → ℕ
without r = if eqb r.rwp_guard_band_flag 1 then 0 else 1

abbrev pub with-bands : Region → ℕ
with-bands r = if eqb r.rwp_guard_band_flag 1 then 1 else 0

-- it is with them or without
one_each : (t : Bool) → (if t then 0 else 1) + (if t then 1 else 0) ≡ 1
one_each true = refl
one_each false = refl

region-long : Always (λ r n. n ≡ 8 * (25 * without r + 31 * with-bands r)) region
unfolding region
region-long = λ _ _ a1 _. λ _ _ a2 _. λ g _ a3 _. λ _ _ a4 _. λ _ _ a5 _. λ _ _ a6 _. λ _ _ a7 _. λ _ _ a8 _. λ _ _ a9 _. λ _ _ a10 _. λ _ _ a11 _.
    always-when (eqb g 1) _ _
    (λ t. λ _ _ b1 _. λ _ _ b2 _. λ _ _ b3 _. λ _ _ b4 _. λ _ _ b5 _. λ _ _ b6 _. λ _ _ b7 _. λ _ _ b8 _. λ _ _ b9 _. λ _ _ b10 _. rw t (omega arith))
    (λ t. rw t (omega arith))

-- ---- the regions of a message

-- the sum over a list
unfoldable pub total : (Region → ℕ) → List Region → ℕ
total size [] = 0
total size (r ∷ rs) = size r + total size rs

-- n regions, in l bits
record Rows (n : ℕ) (rs : List Region) (l : ℕ) : Type 0 where
  each : total without rs + total with-bands rs ≡ n
  long : l ≡ 8 * (25 * total without rs + 31 * total with-bands rs)

list-long : (n : ℕ) → Always (λ rs l. Rows n (take n rs) l) (listed most n region)
unfolding total
list-long n =
    always-part (times n n region) _ (λ rs l. (length rs ≡ n) × Rows n rs l) _
    (always-times n region _ (λ n rs l. (length rs ≡ n) × Rows n rs l) region-long (refl, record { each = refl; long = refl })
    (λ n r l rs m h t. (ap suc t.0, record { each = omega (arith, one_each (eqb r.rwp_guard_band_flag 1), t.1.each); long = omega (arith, h, t.1.long) })) n)
    λ rs l t. subst (λ ys. Rows n ys (l + 0)) (sym (take_at rs _ n t.0)) (record { each = t.1.each; long = omega (arith, t.1.long) })

-- ---- the message

-- how many of a record's regions are without guard bands, and how many with them
abbrev pub plain : RegionWise → ℕ
plain p = total without (take p.rwp_num_packed_regions p.regions)

abbrev pub banded : RegionWise → ℕ
banded p = total with-bands (take p.rwp_num_packed_regions p.regions)

-- a message of n bits that is not cancelled: whole bytes, by its regions
pub record Sized (p : RegionWise) (n : ℕ) : Type 0 where
  pub each : plain p + banded p ≡ p.rwp_num_packed_regions
  pub long : n ≡ 8 * (14 + 25 * plain p + 31 * banded p)

all-sized : Always (λ p n. p.rwp_cancel_flag ≡ 0 → Sized p n) region_wise
unfolding region_wise times
all-sized = λ cancel _ a1 _. always-when (eqb cancel 0) _ _
    (λ t. λ _ _ a2 _. λ _ _ a3 _. λ _ _ a4 _. λ n _ a5 _. λ _ _ a6 _. λ _ _ a7 _. λ _ _ a8 _. λ _ _ a9 _.
    always-part (listed most n region of (λ r. r.regions)) _ (λ rs l. Rows n (take n rs) l) _ (always-of (listed most n region) _ _ (list-long n)) λ rs l r.
    λ z. record { each = r.each; long = omega (arith, r.long) })
    (λ t z. absurd (eqb-false cancel 0 t z))

pub message-size : (w : List Bool) (p : RegionWise) → Coded region_wise w p → p.rwp_cancel_flag ≡ 0 → Sized p (length w)
message-size w p d = always-coded region_wise (λ p n. p.rwp_cancel_flag ≡ 0 → Sized p n) all-sized w p d

-- of a payload that is read from its first bit on: the bit after the message
pub message-end : (s : List ℕ) {p : RegionWise} {q : ℕ} → run_at region_wise s 0 ≡ taken p q → p.rwp_cancel_flag ≡ 0 → Sized p q
message-end s {p} {q} h z =
    let t = always-taken region_wise (λ p n. p.rwp_cancel_flag ≡ 0 → Sized p n) all-sized s 0 h in
    subst (Sized p) (omega (arith, t.2)) (t.1 z)
