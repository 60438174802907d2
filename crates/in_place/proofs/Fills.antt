-- The records of a slot that a feed fills, as `places` has them.
-- Assumes `Given`, where a model is.
use mir.Syntax.{Callee}
use Rattle.places.proofs.Feeding.{Fill}
use Rattle.answers.specs.Listed.{number}
use Rattle.held.specs.Lasting.{Lasting, frame_packing, orientation, equirectangular, rotation, region_wise, kind_of}
use Rattle.feeding.specs.Filling.{filled_of}
use Rattle.feeding.specs.contracts.filling.Reply as reply
use Rattle.held.specs.contracts.HeldFramePacking as frame-packing
use Rattle.held.specs.contracts.HeldOrientation as orientation
use Rattle.held.specs.contracts.HeldEquirectangular as equirectangular
use Rattle.held.specs.contracts.HeldRotation as rotation
use Rattle.held.specs.contracts.HeldRegionWise as region-wise
use Rattle.in_place.proofs.Eight.{eight-slots, held-frame-packing, held-orientation, held-equirectangular, held-rotation, held-region-wise}
use Rattle.in_place.proofs.Pairs.{reply-data, frame-packing-data, fills-frame-packing, orientation-data, fills-orientation, equirectangular-data, fills-equirectangular, rotation-data, fills-rotation, region-wise-data, fills-region-wise}

-- by any function g that answers what a payload of the kind fills
abbrev pub fill-of : Callee → Lasting → Fill eight-slots reply.the_row reply-data
fill-of g frame_packing = record { number = number (kind_of frame_packing); fits = tt; Q = frame-packing.the_row; data' = frame-packing-data; at = held-frame-packing; N = fills-frame-packing; g = g; G = filled_of frame_packing }
fill-of g orientation = record { number = number (kind_of orientation); fits = tt; Q = orientation.the_row; data' = orientation-data; at = held-orientation; N = fills-orientation; g = g; G = filled_of orientation }
fill-of g equirectangular = record { number = number (kind_of equirectangular); fits = tt; Q = equirectangular.the_row; data' = equirectangular-data; at = held-equirectangular; N = fills-equirectangular; g = g; G = filled_of equirectangular }
fill-of g rotation = record { number = number (kind_of rotation); fits = tt; Q = rotation.the_row; data' = rotation-data; at = held-rotation; N = fills-rotation; g = g; G = filled_of rotation }
fill-of g region_wise = record { number = number (kind_of region_wise); fits = tt; Q = region-wise.the_row; data' = region-wise-data; at = held-region-wise; N = fills-region-wise; g = g; G = filled_of region_wise }
