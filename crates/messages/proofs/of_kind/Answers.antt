-- of three kinds their own record stands beside the message, and of any other nothing
use Rattle.messages.proofs.Alone.{alone, unnamed, region-wise-beside, depth-beside}
use Rattle.answers.specs.Listed.{reading_of}
use Rattle.answers.specs.declared.kind.Kind.TheVariants.{RegionWise, Depth}
use Rattle.messages.proofs.of_kind.Goals as goal

pub returns-in-RegionWise : goal.returns-in-RegionWise
returns-in-RegionWise c =
    rw (c.of.ensures, c.region_wise-full.ensures, c.nothing-beside.ensures, c.in-RegionWise.is) (region-wise-beside (reading_of RegionWise c.args.s.now))

pub returns-in-Depth : goal.returns-in-Depth
returns-in-Depth c =
    rw (c.of-in-Depth.ensures, c.depth-full.ensures, c.nothing-beside.ensures, c.in-Depth.is) (depth-beside (reading_of Depth c.args.s.now))

pub returns-in_default : goal.returns-in_default
returns-in_default c =
    let none = unnamed c.args.kind c.in_default.not-RegionWise c.in_default.not-Depth c.in_default.not-Unregistered in
    rw (c.of-in_default.ensures, c.brief_of.ensures, c.nothing-beside.ensures) (alone c.args.kind none (reading_of c.args.kind c.args.s.now))
