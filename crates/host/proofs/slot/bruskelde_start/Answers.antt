-- all eight are the closed one
use Rattle.std.proofs.Common.{ℕ, ◌≡◌, List, arith}
use lib.ListN.{replicate}
use Rattle.slots.specs.Slots.{Eight, closed_slot, start}
use Rattle.slots.specs.declared.Slot.{Slot}
use Rattle.slots.specs.declared.Slots.{Slots}
use Rattle.host.proofs.slot.bruskelde_start.Goals as goal

filled : (l : List Slot) (n : ℕ) (x : Slot) → l ≡ replicate n x → n ≡ 8 → x ≡ closed_slot → ◌≡◌ {A = Slots} (record { slots = l }) start
unfolding start
filled l n x e f g = rw (e, f, g)

pub returns : goal.returns
returns c =
    let e : Eight c.args.slots.now = omega arith in
    filled _ _ _ (c.fill.ensures.after (λ y q. q)) e c.closed.ensures
