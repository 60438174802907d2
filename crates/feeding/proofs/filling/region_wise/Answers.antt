-- the record that was read is a bare cancel where it is one, and makes the slot's
use Rattle.std.proofs.Common.{ℕ, sym, ap, subst}
use Rattle.kind_region_wise.specs.RegionWise.{BareCancel}
use Rattle.kind_region_wise.specs.declared.RegionWise.{RegionWise}
use Rattle.messages.specs.declared.Full.{Full}
use Rattle.held.specs.Lasting.{region_wise, HeldOf}
use Rattle.feeding.specs.Filling.{filled_of}
use Rattle.feeding.specs.declared.filling.Reply.{Reply}
use Rattle.feeding.proofs.FillLaws.{bare-155, region-wise-filling}
use Rattle.feeding.proofs.filling.region_wise.Goals as goal

pub coded-requires : goal.coded-requires
coded-requires c = subst BareCancel (sym (ap (λ (r : Full RegionWise). r.«record») c.region_wise-r.ensures)) (bare-155 _ _)

pub returns : goal.returns
unfolding filled_of
returns c =
    ap (λ (f : Reply × (ℕ × HeldOf region_wise)). record { reply = f.0; taken = f.1.0; held = f.1.1 })
    (region-wise-filling _ _ _ _ _ _ _ (ap (λ (r : Full RegionWise). r.brief) c.region_wise-r.ensures) (ap (λ (r : Full RegionWise). r.«record») c.region_wise-r.ensures) c.of.ensures c.mark.ensures c.coded.ensures)
