-- The calls on slots at their start, and on a made-up slot.
-- Assumes nothing.
use mathlib.Core.Path.{◌≡◌, refl}
use mathlib.Core.List.{[], ◌∷◌}
use Rattle.format.specs.Syntax.{i32, times}
use Rattle.kind_region_wise.specs.RegionWise.{region}
use Rattle.held.specs.Held.{none_of, kept_of, nothing, kept}
use Rattle.slots.specs.Slots.{done, call_number, refused, fresh_slot, closed_slot, is_open, holding, opening, closing, sequencing, picturing, start, slot_at, with_slot, stay, lifted}
use Rattle.slots.specs.declared.Slots.{Slots}

abbrev opened : Slots → Slots
opened s = (lifted opening refused s 3).0

-- opening slot 3 opens it and no other
opens : lifted opening refused start 3 ≡ (record { slots = closed_slot ∷ closed_slot ∷ closed_slot ∷ fresh_slot ∷ closed_slot ∷ closed_slot ∷ closed_slot ∷ closed_slot ∷ [] }, done)
unfolding lifted start with_slot
opens = refl

-- there is no slot 8, and 256 is not slot 0
no-slot-8 : lifted opening refused start 8 ≡ stay start
unfolding lifted
no-slot-8 = refl

no-slot-256 : lifted opening refused start 256 ≡ stay start
unfolding lifted
no-slot-256 = refl

number-8 : call_number (lifted opening refused start 8).1 ≡ 8
unfolding lifted
number-8 = refl

-- a picture on an empty open slot is done, and shows nothing five times
shows_nothing : lifted picturing (refused, nothing) (opened start) 3 ≡ (opened start, (done, nothing))
unfolding i32 times region lifted start slot_at with_slot holding is_open fresh_slot closed_slot kept nothing none_of kept_of
shows_nothing = refl

-- of a closed slot only opening is done
closed-picture : lifted picturing (refused, nothing) start 0 ≡ (start, (refused, nothing))
unfolding lifted start slot_at with_slot is_open closed_slot
closed-picture = refl

closed-close : lifted closing refused start 0 ≡ stay start
unfolding lifted start slot_at with_slot is_open closed_slot
closed-close = refl

closed-sequence : lifted sequencing refused start 0 ≡ stay start
unfolding lifted start slot_at with_slot is_open closed_slot
closed-sequence = refl

-- closing an open slot gives the start again
closes : lifted closing refused (opened start) 3 ≡ (start, done)
unfolding lifted start slot_at with_slot is_open fresh_slot closed_slot
closes = refl

-- a mark that no call made is closed
abbrev odd : Slots
odd = with_slot start 1 (record { «open» = 2; held = nothing })

odd-is-closed : lifted closing refused odd 1 ≡ stay odd
unfolding lifted start slot_at with_slot is_open
odd-is-closed = refl
