-- A table's getters are faithful: the number of each element stands where the table says, in the record that the table gives.
use Rattle.std.specs.Prelude.{ℕ, ◌≡◌, true}
use Rattle.format.specs.Format.{handed, Format, done, read, asks}
use Rattle.format.specs.Writing.{fits}

-- Whatever codes its elements have, the record of the value has what is handed out for each, and what is asked of it; P is what was so before.
abbrev pub FaithfulTo : {R A : Type 0} → (A → R) → (A → Type 0) → Format R A → Type 0
FaithfulTo back P (done a) = P a
FaithfulTo back P (asks t f) = FaithfulTo back (λ a. P a × (t (back a) ≡ true)) f
FaithfulTo back P (read e g k) = (c : ℕ) → fits e.shape c ≡ true → FaithfulTo back (λ a. P a × (g (back a) ≡ handed e c)) (k (handed e c))

abbrev pub Faithful : {R : Type 0} → Format R R → Type 0
Faithful f = FaithfulTo (λ a. a) (λ a. Unit {0}) f
