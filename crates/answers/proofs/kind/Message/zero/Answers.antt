use Rattle.answers.proofs.kind.Message.zero.Goals as goal

pub returns-in-FramePacking : goal.returns-in-FramePacking
returns-in-FramePacking c = rw (c.zero.ensures, c.in-FramePacking.is)

pub returns-in-Orientation : goal.returns-in-Orientation
returns-in-Orientation c = rw (c.zero-in-Orientation.ensures, c.in-Orientation.is)

pub returns-in-Equirectangular : goal.returns-in-Equirectangular
returns-in-Equirectangular c = rw (c.zero-in-Equirectangular.ensures, c.in-Equirectangular.is)

pub returns-in-Rotation : goal.returns-in-Rotation
returns-in-Rotation c = rw (c.zero-in-Rotation.ensures, c.in-Rotation.is)

pub returns-in-RegionWise : goal.returns-in-RegionWise
returns-in-RegionWise c = rw c.in-RegionWise.is

pub returns-in-Alpha : goal.returns-in-Alpha
returns-in-Alpha c = rw (c.zero-in-Alpha.ensures, c.in-Alpha.is)

pub returns-in-Depth : goal.returns-in-Depth
returns-in-Depth c = rw c.in-Depth.is

pub returns-in-Registered : goal.returns-in-Registered
returns-in-Registered c = rw (c.zero-in-Registered.ensures, c.in-Registered.is)

pub returns-in-Unregistered : goal.returns-in-Unregistered
returns-in-Unregistered c = rw c.in-Unregistered.is
