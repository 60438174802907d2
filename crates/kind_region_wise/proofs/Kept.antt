-- What holds of every record of kind 155 that is coded.
-- Assumes nothing.
use Prim.Native.Nat.{ℕ, ◌-◌, ◌≤◌, ◌<◌}
use mathlib.Core.Path.{◌≡◌, refl, subst}
use mathlib.Core.Bool.{Bool, true, false}
use mathlib.Core.List.{List}
use native.Mathlib.Omega.{arith}
use lib.Dec.{leb, eqb}
use lib.ListN.{length, drop, replicate, length-replicate}
use borrow.Author.Tests.{leb-true, eqb-true, eqb-false}
use Rattle.bits.specs.Refusals.{Breach, broken, too_many, fine, against}
use Rattle.bits.specs.Out.{taken}
use Rattle.format.specs.Format.{◌of◌, zeros}
use Rattle.format.specs.Reading.{element_at, run_at}
use Rattle.format.specs.Syntax.{u, ◌must◌, ◌unless◌, ◌also◌, listed, times}
use Rattle.format.specs.Coded.{Coded}
use Rattle.format.proofs.Always.{Always, Padded, code_below, always-of, always-part, always-when, always-listed, always-coded, always-taken}
use Rattle.format.proofs.ReaderLaws.{taken-from}
use Rattle.kind_region_wise.specs.declared.RegionWise.{RegionWise}
use Rattle.kind_region_wise.specs.RegionWise.{most, countable, region, region_table, table, region_wise, BareCancel}

-- ---- the count

against-fine : {X : Type 0} {b : Breach} → against b ≡ fine → X
against-fine e = let z : ◌≡◌ {A = ℕ} 0 1 = cc in absurd (omega arith)

counted : (v : ℕ) → countable v ≡ fine → (1 ≤ v) × (v ≤ most)
counted v = go (leb 1 v) (leb v most) refl refl
  where
    go : (a b : Bool) → leb 1 v ≡ a → leb v most ≡ b → (broken unless a) also (too_many unless b) ≡ fine → (1 ≤ v) × (v ≤ most)
    go true true e f h = (leb-true 1 v e, leb-true v most f)
    go true false e f h = against-fine h
    go false b e f h = against-fine h

-- one that was taken is no more than a record has entries
pub few : (s : List ℕ) (p : ℕ) {v q : ℕ} → element_at (u 8 must countable) s p ≡ taken v q → v ≤ most
few s p e = let t = taken-from (u 8 must countable) s p e in subst (λ x. x ≤ most) t.2 (counted t.0 t.3).1

-- ---- the record

pub record Kept (p : RegionWise) : Type 0 where
  -- the cancel flag is 0 or 1
  pub flag : p.rwp_cancel_flag < 2
  -- not cancelled, it has from 1 to `most` regions
  pub some : p.rwp_cancel_flag ≡ 0 → 1 ≤ p.rwp_num_packed_regions
  pub few : p.rwp_num_packed_regions ≤ most
  -- its list has `most` entries, and every one past the count is zeros
  pub entries : length p.regions ≡ most
  pub past : drop p.rwp_num_packed_regions p.regions ≡ replicate (most - p.rwp_num_packed_regions) (zeros region_table)
  pub bare : BareCancel p

all-kept : Always (λ p n. Kept p) region_wise
unfolding region_wise times region
all-kept = λ cancel _ d _. always-when (eqb cancel 0) _ _
    (λ t. λ _ _ _ _. λ _ _ _ _. λ _ _ _ _. λ n _ _ fine. λ _ _ _ _. λ _ _ _ _. λ _ _ _ _. λ _ _ _ _.
    let k = counted n fine in
    always-part (listed most n region of (λ r. r.regions)) _ (λ rs l. Padded most (zeros region) n rs) _ (always-of (listed most n region) _ _ (always-listed most n region k.1)) λ rs l r.
    record { flag = code_below d; some = λ z. k.0; few = k.1; entries = r.entries; past = r.past; bare = λ z. absurd (z (eqb-true cancel 0 t)) })
    (λ t. record { flag = code_below d; some = λ z. absurd (eqb-false cancel 0 t z); few = omega arith; entries = length-replicate most (zeros region_table); past = refl; bare = λ z. refl })

pub kept : (w : List Bool) (p : RegionWise) → Coded region_wise w p → Kept p
kept w p d = always-coded region_wise (λ p n. Kept p) all-kept w p d

-- and of what reading comes to
pub read_kept : (s : List ℕ) (p : ℕ) {a : RegionWise} {q : ℕ} → run_at region_wise s p ≡ taken a q → Kept a
read_kept s p e = (always-taken region_wise (λ a n. Kept a) all-kept s p e).1

pub zeros-bare : BareCancel (zeros table)
unfolding times region
zeros-bare d = absurd (d refl)
