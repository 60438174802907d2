-- An answer of a kind whose record stands beside its message: all but the records beside it, and that one.
use Rattle.answers.specs.Answer.{brief_of}
use Rattle.answers.specs.declared.Answer.{Answer}
use Rattle.kind_region_wise.specs.declared.RegionWise.{RegionWise}
use Rattle.kind_depth.specs.declared.Depth.{Depth}
use Rattle.kind_user_data.specs.declared.unregistered.Unregistered.{Unregistered}
use Rattle.messages.specs.declared.Full.{Full}

abbrev pub region_wise_of : Answer → Full RegionWise
region_wise_of a = record { brief = brief_of a; «record» = a.beside.region_wise }

abbrev pub depth_of : Answer → Full Depth
depth_of a = record { brief = brief_of a; «record» = a.beside.depth }

abbrev pub unregistered_of : Answer → Full Unregistered
unregistered_of a = record { brief = brief_of a; «record» = a.beside.unregistered }
