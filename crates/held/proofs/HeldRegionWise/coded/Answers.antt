-- the mark is that of the cancel flag; where there is a cancel, the message is its flag and nothing else
use borrow.Author.Tests.{eqb-true, eqb-false}
use Rattle.std.proofs.Common.{◌≡◌, eqb, Bool, true, false, refl}
use Rattle.std.specs.Prelude.{if◌then◌else◌}
use Rattle.kind_region_wise.specs.RegionWise.{uncancelled, BareCancel}
use Rattle.kind_region_wise.specs.declared.RegionWise.{RegionWise}
use Rattle.held.specs.Lasting.{region_wise, marked}
use Rattle.held.specs.Held.{none_of, taken_of}
use Rattle.held.proofs.HeldRegionWise.coded.Goals as goal

marks : (x : RegionWise) → BareCancel x → marked region_wise (if eqb x.rwp_cancel_flag 0 then 1 else 0) (uncancelled x) ≡ taken_of region_wise x
unfolding taken_of none_of
marks x bare = go (eqb x.rwp_cancel_flag 0) refl
  where
    go : (b : Bool) → eqb x.rwp_cancel_flag 0 ≡ b → marked region_wise (if b then 1 else 0) (uncancelled x) ≡ (if b then marked region_wise 1 x else none_of region_wise)
    go true e = rw (eqb-true x.rwp_cancel_flag 0 e)
    go false e = rw (bare (eqb-false x.rwp_cancel_flag 0 e))

pub returns : goal.returns
returns c = rw c.mark-on.ensures (marks c.args.x c.requires)
