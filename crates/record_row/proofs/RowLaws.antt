-- Runs of stores into a list.
-- Assumes nothing.
use Prim.Native.Nat.{ℕ, ◌+◌, ◌*◌, ◌<◌}
use mathlib.Core.Path.{◌≡◌, refl, sym, ap, ◌∙◌}
use mathlib.Core.List.{List, [], ◌∷◌, ◌++◌, append_assoc, append-nil}
use native.Mathlib.Numerals.{add-one}
use native.Mathlib.Omega.{arith}
use lib.ListN.{length, get_or, take, drop, replicate, length-replicate, drop_of_length-le}
use lib.Seq.{sets, sets-eq, take-suc, length-take-le}
use Rattle.kind_region_wise.specs.declared.region.Region.{Region}
use Rattle.lent.proofs.Stores.{sets-append}
use Rattle.record_row.specs.Fields.{region_fields, regions_fields}

-- zeros, all written over
pub filled : (n e : ℕ) (xs : List ℕ) → length xs + 1 ≡ n → sets (replicate n 0) 0 (e ∷ xs) ≡ e ∷ xs
filled n e xs h =
    let l : List ℕ = replicate n 0 in
    let long : length l ≡ n = length-replicate n 0 in
    let past : drop (0 + length (e ∷ xs)) l ≡ [] = drop_of_length-le l {i = 0 + length (e ∷ xs)} (omega arith) in
    sets-eq (e ∷ xs) l 0 (omega arith) ∙ rw past (append-nil (e ∷ xs))

-- ---- the fields of a run of regions

fields-append : (xs ys : List Region) → regions_fields (xs ++ ys) ≡ regions_fields xs ++ regions_fields ys
fields-append [] ys = refl
fields-append (r ∷ rs) ys =
    ap (λ (t : List ℕ). region_fields r ++ t) (fields-append rs ys) ∙ sym (append_assoc (region_fields r) (regions_fields rs) (regions_fields ys))

pub fields_length : (rs : List Region) → length (regions_fields rs) ≡ 19 * length rs
fields_length [] = refl
fields_length (r ∷ rs) = omega (arith, fields_length rs)

-- one region more
pub fields_more : (l : List ℕ) (rs : List Region) (at i : ℕ) (d : Region) → i < length rs
    → sets (sets l at (regions_fields (take i rs))) (at + 19 * i) (region_fields (get_or rs i d)) ≡ sets l at (regions_fields (take (i + 1) rs))
fields_more l rs at i d h =
    let n : length (regions_fields (take i rs)) ≡ 19 * i = fields_length (take i rs) ∙ ap (λ (k : ℕ). 19 * k) (length-take-le i rs (omega arith)) in
    let two = sets-append (regions_fields (take i rs)) (region_fields (get_or rs i d)) l at in
    sym (rw (add-one, take-suc rs i d h, fields-append, two, n))
