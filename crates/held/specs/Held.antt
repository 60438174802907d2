-- What a slot holds, of each of the five kinds one record or nothing; and what a message and a picture leave of it, said once over the kinds.
use Rattle.std.specs.Prelude.{eqb, if◌then◌else◌}
use Rattle.answers.specs.Listed.{zeros}
use Rattle.held.specs.Lasting.{Lasting, frame_packing, orientation, equirectangular, rotation, region_wise, kind_of, RecordOf, cancel_of, persistence_of, HeldOf, marked, value_of}
use Rattle.held.specs.declared.Held.{Held}

-- ---- of one kind

-- nothing: zeros, and the mark that tells it from a message of zeros
unfoldable pub none_of : (k : Lasting) → HeldOf k
none_of k = marked k 0 (zeros (kind_of k))

-- "a taken message replaces the held one, a cancel leaves nothing"
unfoldable pub taken_of : (k : Lasting) → RecordOf k → HeldOf k
taken_of k a = if eqb (cancel_of k a) 0 then marked k 1 a else none_of k

-- a picture call "drops each whose persistence flag is 0"
unfoldable pub kept_of : (k : Lasting) → HeldOf k → HeldOf k
kept_of k h = if eqb (persistence_of k (value_of k h)) 0 then none_of k else h

-- ---- of all five

abbrev pub five : ((k : Lasting) → HeldOf k) → Held
five f =
    record {
      frame_packing = f frame_packing;
      orientation = f orientation;
      equirectangular = f equirectangular;
      rotation = f rotation;
      region_wise = f region_wise;
    }

abbrev pub held_of : (k : Lasting) → Held → HeldOf k
held_of frame_packing h = h.frame_packing
held_of orientation h = h.orientation
held_of equirectangular h = h.equirectangular
held_of rotation h = h.rotation
held_of region_wise h = h.region_wise

unfoldable pub nothing : Held
nothing = five none_of

unfoldable pub kept : Held → Held
kept h = five (λ k. kept_of k (held_of k h))

-- the five, but of kind k another
abbrev pub replaced : (k : Lasting) → Held → HeldOf k → Held
replaced frame_packing h x = record { frame_packing = x; orientation = h.orientation; equirectangular = h.equirectangular; rotation = h.rotation; region_wise = h.region_wise }
replaced orientation h x = record { frame_packing = h.frame_packing; orientation = x; equirectangular = h.equirectangular; rotation = h.rotation; region_wise = h.region_wise }
replaced equirectangular h x = record { frame_packing = h.frame_packing; orientation = h.orientation; equirectangular = x; rotation = h.rotation; region_wise = h.region_wise }
replaced rotation h x = record { frame_packing = h.frame_packing; orientation = h.orientation; equirectangular = h.equirectangular; rotation = x; region_wise = h.region_wise }
replaced region_wise h x = record { frame_packing = h.frame_packing; orientation = h.orientation; equirectangular = h.equirectangular; rotation = h.rotation; region_wise = x }

-- after a taken message of kind k
abbrev pub took : (k : Lasting) → Held → RecordOf k → Held
took k h a = replaced k h (taken_of k a)
