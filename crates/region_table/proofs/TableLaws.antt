-- Which number the table call has exactly when, and what it leaves of the lent numbers. The numbers exclude each other, since an answer has
-- one, and cover every call.
-- Assumes nothing.
use Prim.Native.Nat.{ℕ, ◌≤◌, ◌<◌}
use native.Mathlib.Omega.{arith}
use mathlib.Core.Path.{◌≡◌, refl, sym, ap, ◌∙◌}
use mathlib.Core.Logic.{◌≢◌, ◌↔◌, ◌⊎◌, inl, inr}
use mathlib.Core.Bool.{Bool, true, false}
use mathlib.Core.List.{List}
use lib.Dec.{eqb}
use lib.ListN.{length}
use borrow.Author.Tests.{eq-eqb, ne_eqb, eqb-true, eqb-false}
use Rattle.bits.specs.Refusals.{by_slot, by_table}
use Rattle.bits.proofs.BitLaws.{below as below_or_not}
use Rattle.kind_region_wise.specs.RegionWise.{most}
use Rattle.kind_region_wise.specs.declared.RegionWise.{RegionWise}
use Rattle.region_table.specs.Rows.{Countable, Table, refuses, row_count, tabled_number, tabled_rows, table_of, wrote}
use Rattle.region_table.specs.RowCases as by-packing
use Rattle.region_table.specs.declared.rows.Split.{Split}
use Rattle.region_table.specs.declared.rows.Split.TheVariants.{Whole, Beside, Below}
use Rattle.region_table.proofs.CountLaws.{no_table}
use Rattle.region_table.proofs.Outcomes.{number_of, count_of, refusal-stays, countable-or-not, region-wise-cases}
use Rattle.slots.specs.Slots.{Eight, slot_at, is_open, closed_slot, lifted, Shut}
use Rattle.held.specs.declared.Held.{Held}
use Rattle.slots.specs.declared.Slot.{Slot}
use Rattle.slots.specs.declared.Slots.{Slots}
use Rattle.slots.proofs.Entries.{eight}
use Rattle.slots.proofs.Laws.{apart, where-open, where-shut, either, closed-shut, lifted-answer, lifted-same, shut-8}
use Rattle.region_table.specs.Table.{split_of, table_by, table_of_held, tabling, table_in}
use Rattle.region_table.specs.Cases.{region_wise_of, type_of, Splits, whole, beside, below, Makes, NoTable, none, uncounted, unpacked, other, size_of, TableCase, shut, missing, few, full}
use Rattle.std.specs.Prelude.{Option, Some, None}

-- ---- what is held: there is a table of it or there is none

module _ (h : Held) where
  abbrev packing : RegionWise
  packing = region_wise_of h

  abbrev type : ℕ
  type = type_of h

  by-split : (split : Split) → Splits h split → split_of packing.rwp_constituent_picture_matching_flag h.frame_packing ≡ Some split
  unfolding split_of
  by-split split (whole m) = simp (eq-eqb _ _ m)
  by-split split (beside m f t) = simp (ne_eqb _ _ m, eq-eqb _ _ f, t)
  by-split split (below m f t) = simp (ne_eqb _ _ m, eq-eqb _ _ f, t)

  unpacked-missing : packing.rwp_constituent_picture_matching_flag ≢ 0 → h.frame_packing.on ≢ 1 → split_of packing.rwp_constituent_picture_matching_flag h.frame_packing ≡ None
  unfolding split_of
  unpacked-missing m f = simp (ne_eqb _ _ m, ne_eqb _ _ f)

  other-missing : packing.rwp_constituent_picture_matching_flag ≢ 0 → type ≢ 3 → type ≢ 4 → split_of packing.rwp_constituent_picture_matching_flag h.frame_packing ≡ None
  unfolding split_of
  other-missing m t u = go (eqb h.frame_packing.on 1) refl
    where
      go : (b : Bool) → eqb h.frame_packing.on 1 ≡ b → split_of packing.rwp_constituent_picture_matching_flag h.frame_packing ≡ None
      go true f = simp (ne_eqb _ _ m, f, ne_eqb _ _ t, ne_eqb _ _ u)
      go false f = simp (ne_eqb _ _ m, f)

  which : NoTable h ⊎ ((split : Split) × Makes h split)
  which =
      go h.region_wise.on packing.rwp_constituent_picture_matching_flag h.frame_packing.on type refl refl refl refl
      (below_or_not packing.rwp_num_packed_regions 1) (below_or_not most packing.rwp_num_packed_regions)
    where
      go : (a m f t : ℕ) → h.region_wise.on ≡ a → packing.rwp_constituent_picture_matching_flag ≡ m → h.frame_packing.on ≡ f → type ≡ t
          → (packing.rwp_num_packed_regions < 1) ⊎ (1 ≤ packing.rwp_num_packed_regions) → (most < packing.rwp_num_packed_regions) ⊎ (packing.rwp_num_packed_regions ≤ most)
          → NoTable h ⊎ ((split : Split) × Makes h split)
      go a m f t ea em ef et (inl z) c = inl (uncounted (inl (omega arith)))
      go a m f t ea em ef et (inr z) (inl c) = inl (uncounted (inr c))
      go a m f t ea em ef et (inr z) (inr c) = held (eqb a 1) refl
        where
          k : Countable packing
          k = record { some = z; few = c }

          typed : a ≡ 1 → m ≢ 0 → f ≡ 1 → (x y : Bool) → eqb t 3 ≡ x → eqb t 4 ≡ y → NoTable h ⊎ ((split : Split) × Makes h split)
          typed ha hm hf true y p q =
              inr (Beside, record { held = ea ∙ ha; counted = k; splits = beside (λ e. hm (sym em ∙ e)) (ef ∙ hf) (et ∙ eqb-true t 3 p) })
          typed ha hm hf false true p q =
              inr (Below, record { held = ea ∙ ha; counted = k; splits = below (λ e. hm (sym em ∙ e)) (ef ∙ hf) (et ∙ eqb-true t 4 q) })
          typed ha hm hf false false p q =
              inl (other (λ e. hm (sym em ∙ e)) (λ e. eqb-false t 3 p (sym et ∙ e)) (λ e. eqb-false t 4 q (sym et ∙ e)))

          matched : a ≡ 1 → m ≢ 0 → (x : Bool) → eqb f 1 ≡ x → NoTable h ⊎ ((split : Split) × Makes h split)
          matched ha hm true p = typed ha hm (eqb-true f 1 p) (eqb t 3) (eqb t 4) refl refl
          matched ha hm false p = inl (unpacked (λ e. hm (sym em ∙ e)) (λ e. eqb-false f 1 p (sym ef ∙ e)))

          flagged : a ≡ 1 → (x : Bool) → eqb m 0 ≡ x → NoTable h ⊎ ((split : Split) × Makes h split)
          flagged ha true p = inr (Whole, record { held = ea ∙ ha; counted = k; splits = whole (em ∙ eqb-true m 0 p) })
          flagged ha false p = matched ha (eqb-false m 0 p) (eqb f 1) refl

          held : (x : Bool) → eqb a 1 ≡ x → NoTable h ⊎ ((split : Split) × Makes h split)
          held true p = flagged (eqb-true a 1 p) (eqb m 0) refl
          held false p = inl (none (λ e. eqb-false a 1 p (sym ea ∙ e)))

  -- ---- and what the table is

  made : (split : Split) → Makes h split → (room : ℕ) → table_of_held h room ≡ table_of packing split room
  unfolding table_of_held
  made split m room = simp (eq-eqb _ _ m.held, by-split split m.splits)

  at-way : (w : Option Split) → split_of packing.rwp_constituent_picture_matching_flag h.frame_packing ≡ w → (room : ℕ) → table_by packing w room ≡ refuses by_table → table_of_held h room ≡ refuses by_table
  unfolding table_of_held
  at-way w e room q = go (eqb h.region_wise.on 1) refl
    where
      go : (b : Bool) → eqb h.region_wise.on 1 ≡ b → table_of_held h room ≡ refuses by_table
      go true o = simp (o, e) q
      go false o = simp o

  unmade : NoTable h → (room : ℕ) → table_of_held h room ≡ refuses by_table
  unfolding table_of_held
  unmade (none o) room = simp (ne_eqb _ _ o)
  unmade (uncounted u) room = at-way (split_of packing.rwp_constituent_picture_matching_flag h.frame_packing) refl room (go (split_of packing.rwp_constituent_picture_matching_flag h.frame_packing))
    where
      go : (w : Option Split) → table_by packing w room ≡ refuses by_table
      go (Some split) = no_table packing split room u
      go None = refl
  unmade (unpacked m f) room = at-way None (unpacked-missing m f) room refl
  unmade (other m t u) room = at-way None (other-missing m t u) room refl

  -- ---- they exclude each other

  by-or-missing : {w : Option Split} {split : Split} → w ≡ Some split → w ≡ None → ⊥
  by-or-missing p q = let z : ◌≡◌ {A = ℕ} 0 1 = cc in omega arith

  not-both : NoTable h → (split : Split) → Makes h split → ⊥
  not-both (none o) split m = o m.held
  not-both (uncounted u) split m = countable-or-not packing m.counted u
  not-both (unpacked f p) split m = by-or-missing (by-split split m.splits) (unpacked-missing f p)
  not-both (other f t u) split m = by-or-missing (by-split split m.splits) (other-missing f t u)

  one_split : (x y : Split) → Makes h x → Makes h y → x ≡ y
  one_split x y m k = let p = by-split x m.splits in let q = by-split y k.splits in cc

-- ---- the call on one slot

abbrev table_on : Slot → ℕ → Table
table_on x room = (tabling room x).1

module _ (x : Slot) (room : ℕ) where
  shut-table : is_open x ≡ false → table_on x room ≡ refuses by_slot
  shut-table o = ap (λ (w : Slot × Table). w.1) (where-shut x (refuses by_slot) (x, table_of_held x.held room) o)

  open-table : is_open x ≡ true → table_on x room ≡ table_of_held x.held room
  open-table o = ap (λ (w : Slot × Table). w.1) (where-open x (refuses by_slot) (x, table_of_held x.held room) o)

pub cases : (x : Slot) (room : ℕ) → TableCase x room (table_on x room)
cases x room = go (is_open x) refl
  where
    held : Held
    held = x.held

    of-packing : is_open x ≡ true → (split : Split) → Makes held split → by-packing.RegionWiseCase (region_wise_of held) split room (table_of (region_wise_of held) split room)
        → TableCase x room (table_on x room)
    of-packing o split m (by-packing.none u e) = absurd (countable-or-not (region_wise_of held) m.counted u)
    of-packing o split m (by-packing.few k l e) = few o split m l (open-table x room o ∙ made held split m room ∙ e)
    of-packing o split m (by-packing.full k l e) = full o split m l (open-table x room o ∙ made held split m room ∙ e)

    either : is_open x ≡ true → NoTable held ⊎ ((split : Split) × Makes held split) → TableCase x room (table_on x room)
    either o (inl u) = missing o u (open-table x room o ∙ unmade held u room)
    either o (inr m) = of-packing o m.0 m.1 (region-wise-cases (region_wise_of held) m.0 room)

    go : (b : Bool) → is_open x ≡ b → TableCase x room (table_on x room)
    go true o = either o (which held)
    go false o = shut o (shut-table x room o)

-- 9 exactly where it is open and there is no table of what it holds
pub when-9 : (x : Slot) (room : ℕ)
    → (tabled_number (table_on x room).answer ≡ 9) ↔ ((is_open x ≡ true) × NoTable x.held)
when-9 x room = go (cases x room)
  where
    go : TableCase x room (table_on x room) → (tabled_number (table_on x room).answer ≡ 9) ↔ ((is_open x ≡ true) × NoTable x.held)
    go (shut o e) = (λ q. absurd (omega (arith, number_of e)), λ v. absurd (apart v.0 o))
    go (missing o u e) = (λ q. (o, u), λ v. number_of e)
    go (few o split m l e) = (λ q. absurd (omega (arith, number_of e)), λ v. absurd (not-both x.held v.1 split m))
    go (full o split m l e) = (λ q. absurd (omega (arith, number_of e)), λ v. absurd (not-both x.held v.1 split m))

-- 10 exactly where there is one, which does not fit
pub when-10 : (x : Slot) (room : ℕ)
    → (tabled_number (table_on x room).answer ≡ 10)
    ↔ ((is_open x ≡ true) × ((split : Split) × Makes x.held split × (room < size_of x.held split)))
when-10 x room = go (cases x room)
  where
    held : Held
    held = x.held

    go : TableCase x room (table_on x room)
        → (tabled_number (table_on x room).answer ≡ 10) ↔ ((is_open x ≡ true) × ((split : Split) × Makes held split × (room < size_of held split)))
    go (shut o e) = (λ q. absurd (omega (arith, number_of e)), λ v. absurd (apart v.0 o))
    go (missing o u e) = (λ q. absurd (omega (arith, number_of e)), λ v. absurd (not-both held u v.1.0 v.1.1))
    go (few o split m l e) = (λ q. (o, (split, m, l)), λ v. number_of e)
    go (full o split m l e) =
        (λ q. absurd (omega (arith, number_of e)), λ v. absurd (omega (arith, ap (size_of held) (one_split held split v.1.0 m v.1.1), v.1.2)))

-- 0 with `count` rows exactly where there is one, it fits, and `count` is how many they are
pub when-0 : (x : Slot) (room count : ℕ)
    → ((tabled_number (table_on x room).answer ≡ 0) × (tabled_rows (table_on x room).answer ≡ count))
    ↔ ((is_open x ≡ true)
    × ((split : Split) × Makes x.held split × (size_of x.held split ≤ room) × (count ≡ row_count (region_wise_of x.held) split)))
when-0 x room count = go (cases x room)
  where
    held : Held
    held = x.held

    Right : Type 0
    Right = (is_open x ≡ true) × ((split : Split) × Makes held split × (size_of held split ≤ room) × (count ≡ row_count (region_wise_of held) split))

    go : TableCase x room (table_on x room)
        → ((tabled_number (table_on x room).answer ≡ 0) × (tabled_rows (table_on x room).answer ≡ count)) ↔ Right
    go (shut o e) = (λ q. absurd (omega (arith, number_of e, q.0)), λ v. absurd (apart v.0 o))
    go (missing o u e) = (λ q. absurd (omega (arith, number_of e, q.0)), λ v. absurd (not-both held u v.1.0 v.1.1))
    go (few o split m l e) =
        (λ q. absurd (omega (arith, number_of e, q.0)), λ v. absurd (omega (arith, ap (size_of held) (one_split held split v.1.0 m v.1.1), v.1.2)))
    go (full o split m l e) = (λ q. (o, (split, m, l, sym q.1 ∙ count_of e)), λ v. (number_of e, count_of e ∙ again v))
      where
        again : Right → row_count (region_wise_of held) split ≡ count
        again v = ap (row_count (region_wise_of held)) (one_split held split v.1.0 m v.1.1) ∙ sym v.1.3

-- there is no other number
pub covered : (x : Slot) (room : ℕ)
    → (tabled_number (table_on x room).answer ≡ 0)
    ⊎ ((tabled_number (table_on x room).answer ≡ 8) ⊎ ((tabled_number (table_on x room).answer ≡ 9) ⊎ (tabled_number (table_on x room).answer ≡ 10)))
covered x room = go (cases x room)
  where
    go : TableCase x room (table_on x room)
        → (tabled_number (table_on x room).answer ≡ 0)
        ⊎ ((tabled_number (table_on x room).answer ≡ 8) ⊎ ((tabled_number (table_on x room).answer ≡ 9) ⊎ (tabled_number (table_on x room).answer ≡ 10)))
    go (shut o e) = inr (inl (number_of e))
    go (missing o u e) = inr (inr (inl (number_of e)))
    go (few o split m l e) = inr (inr (inr (number_of e)))
    go (full o split m l e) = inl (number_of e)

-- a refusal writes nothing
pub refused-stays : (x : Slot) (lent : List ℕ) → tabled_number (table_on x (length lent)).answer ≢ 0
    → (wrote (table_on x (length lent)) lent).lent ≡ lent
refused-stays x lent q = go (cases x (length lent))
  where
    go : TableCase x (length lent) (table_on x (length lent)) → (wrote (table_on x (length lent)) lent).lent ≡ lent
    go (shut o e) = refusal-stays lent e
    go (missing o u e) = refusal-stays lent e
    go (few o split m l e) = refusal-stays lent e
    go (full o split m l e) = absurd (q (number_of e))

-- ---- on slot n of the eight

-- past the eighth it is the call on a closed slot
pub on-slot : (s : Slots) (n room : ℕ) → Eight s → table_in s n room ≡ table_on (slot_at s n) room
on-slot s n room e = lifted-answer (tabling room) (refuses by_slot) s n e (shut-table closed_slot room closed-shut)

not-8 : (h : Held) (room : ℕ) → tabled_number (table_of_held h room).answer ≢ 8
not-8 h room q = go (which h)
  where
    go : NoTable h ⊎ ((split : Split) × Makes h split) → ⊥
    go (inl u) = omega (arith, number_of (unmade h u room))
    go (inr m) = of-packing (region-wise-cases (region_wise_of h) m.0 room)
      where
        of-packing : by-packing.RegionWiseCase (region_wise_of h) m.0 room (table_of (region_wise_of h) m.0 room) → ⊥
        of-packing (by-packing.none u e) = omega (arith, number_of (made h m.0 m.1 room ∙ e))
        of-packing (by-packing.few k l e) = omega (arith, number_of (made h m.0 m.1 room ∙ e))
        of-packing (by-packing.full k l e) = omega (arith, number_of (made h m.0 m.1 room ∙ e))

-- 8 exactly where there is no such slot or it is closed
pub when-8 : (room : ℕ) (s : Slots) (n : ℕ) → Eight s → (tabled_number (table_in s n room).answer ≡ 8) ↔ Shut s n
when-8 room = shut-8 (λ (t : Table). tabled_number t.answer) (refuses by_slot) (λ x. (x, table_of_held x.held room)) refl (λ x. not-8 x.held room)

-- the slots stay
pub table_stays : (s : Slots) (n room : ℕ) → (lifted (tabling room) (refuses by_slot) s n).0 ≡ s
table_stays s n room = lifted-same (tabling room) (refuses by_slot) s n (either (slot_at s n) _ _ (λ w. w.0 ≡ slot_at s n) (λ o. refl) (λ o. refl))

-- what the goal of `table` wants
pub ruleset found = (on-slot, eight)
