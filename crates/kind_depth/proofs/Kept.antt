-- What every record that the table takes keeps to: the list's entries and its count, and which of the four are absent.
-- Assumes nothing.
use Prim.Native.Nat.{ℕ, ◌+◌, ◌-◌, ◌≤◌, ◌<◌}
use mathlib.Core.Path.{◌≡◌, refl}
use mathlib.Core.Logic.{◌↔◌}
use mathlib.Core.Bool.{Bool}
use mathlib.Core.List.{List}
use native.Mathlib.Omega.{arith}
use lib.Dec.{eqb}
use borrow.Author.Tests.{eqb-true, eqb-false}
use Rattle.format.specs.Format.{◌of◌}
use Rattle.format.specs.Syntax.{listed}
use Rattle.format.specs.Coded.{Coded}
use Rattle.numbers.specs.declared.depth.DepthNumber.TheVariants.{Absent}
use Rattle.numbers.proofs.DepthLaws.{never-absent}
use Rattle.kind_depth.specs.Depth.{element, element_if, most, listed_number, depth, ref_view, model}
use Rattle.kind_depth.specs.declared.element.DepthValue.{DepthValue}
use Rattle.kind_depth.specs.declared.model.Model.{Model}
use Rattle.kind_depth.specs.declared.Depth.{Depth}
use Rattle.format.proofs.ReaderLaws.{at-most-fine}
use Rattle.format.proofs.Always.{Always, Padded, code_below, always-part, always-else, always-of, always-any, always-listed, always-coded}

-- absent exactly where its flag is 0
abbrev pub AbsentAs : ℕ → DepthValue → Type 0
AbsentAs flag v = (v.number ≡ Absent) ↔ (flag ≡ 0)

pub record Kept (a : Depth) : Type 0 where
  -- the list has `most` entries, and every one past the count is 0
  pub few : a.count ≤ most
  pub list : Padded most 0 a.count a.depth_nonlinear_representation_model
  pub near : AbsentAs a.z_near_flag a.z_near
  pub far : AbsentAs a.z_far_flag a.z_far
  pub least : AbsentAs a.d_min_flag a.d_min
  pub most : AbsentAs a.d_max_flag a.d_max

-- ---- the list

record ModelKept (m : Model) : Type 0 where
  few : m.count ≤ most
  list : Padded most 0 m.count m.numbers

model-kept : (t : ℕ) → Always (λ m l. ModelKept m) (model t)
model-kept t = always-else (eqb t 3) _ _ _ _
    (λ b. λ c _ d fine.
    let h : c ≤ most - 1 = at-most-fine (most - 1) c fine in
    always-part (listed most (c + 1) listed_number of (λ r. r.depth_nonlinear_representation_model)) _ _ _ (always-of (listed most (c + 1) listed_number) _ _ (always-listed most (c + 1) listed_number (omega arith))) λ xs l e.
    record { few = omega arith; list = e })
    (λ b. record { few = omega arith; list = record { entries = refl; past = refl } })

-- ---- the four

element-kept : (flag : ℕ) → flag < 2 → Always (λ v l. AbsentAs flag v) (element_if flag)
unfolding element
element-kept flag h = always-else (eqb flag 1) _ _ _ _
    (λ b. λ s _ _ _. λ e _ _ _. λ l _ _ _. λ m _ _ _. (λ a. absurd (never-absent s e l m a), λ z. absurd (omega (arith, eqb-true flag 1 b))))
    (λ b. (λ a. zero (eqb-false flag 1 b), λ z. refl))
  where
    zero : (flag ≡ 1 → ⊥) → flag ≡ 0
    zero l = omega arith

four-kept : (flag : ℕ) (h : Depth → DepthValue) → flag < 2 → Always (λ v l. AbsentAs flag v) (element_if flag of h)
four-kept flag h l = always-of (element_if flag) h _ (element-kept flag l)

-- ---- the record

depth-kept : Always (λ a l. Kept a) depth
unfolding depth
depth-kept =
    λ near _ n _. λ far _ f _. λ least _ l _. λ most _ m _. λ t _ _ _.
    always-part (ref_view least most) _ _ _ (always-any (ref_view least most)) λ _ _ any.
    always-part (element_if near of (λ r. r.z_near)) _ _ _ (four-kept near _ (code_below n)) λ _ _ a.
    always-part (element_if far of (λ r. r.z_far)) _ _ _ (four-kept far _ (code_below f)) λ _ _ b.
    always-part (element_if least of (λ r. r.d_min)) _ _ _ (four-kept least _ (code_below l)) λ _ _ c.
    always-part (element_if most of (λ r. r.d_max)) _ _ _ (four-kept most _ (code_below m)) λ _ _ d.
    always-part (model t) _ _ _ (model-kept t) λ _ _ k.
    record { few = k.few; list = k.list; near = a; far = b; least = c; most = d }

-- of every record that is coded
pub kept-coded : (w : List Bool) (a : Depth) → Coded depth w a → Kept a
kept-coded w a d = always-coded depth (λ a l. Kept a) depth-kept w a d
