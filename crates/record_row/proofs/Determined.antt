-- Each public contract determines its result, and that of `write` the lent row as it leaves it.
-- Assumes nothing.
use mathlib.Core.Path.{refl, sym, ◌∙◌}
use Rattle.bits.proofs.Determined.{Determines, DeterminesAll}
use Rattle.lent.proofs.Stores.{same_left}
use Rattle.record_row.proofs.record.frame_packing.Kinds as frame-packing-kinds
use Rattle.record_row.proofs.record.frame_packing.Reads as frame-packing-reads
use Rattle.record_row.proofs.record.orientation.Kinds as orientation-kinds
use Rattle.record_row.proofs.record.orientation.Reads as orientation-reads
use Rattle.record_row.proofs.record.equirectangular.Kinds as equirectangular-kinds
use Rattle.record_row.proofs.record.equirectangular.Reads as equirectangular-reads
use Rattle.record_row.proofs.record.rotation.Kinds as rotation-kinds
use Rattle.record_row.proofs.record.rotation.Reads as rotation-reads
use Rattle.record_row.proofs.record.region_wise.Kinds as region-wise-kinds
use Rattle.record_row.proofs.record.region_wise.Reads as region-wise-reads
use Rattle.record_row.proofs.record.AlphaRow.put.Kinds as alpha-kinds
use Rattle.record_row.proofs.record.AlphaRow.put.Reads as alpha-reads
use Rattle.record_row.proofs.record.DepthRow.put.Kinds as depth-kinds
use Rattle.record_row.proofs.record.DepthRow.put.Reads as depth-reads
use Rattle.record_row.proofs.record.RegisteredRow.put.Kinds as registered-kinds
use Rattle.record_row.proofs.record.RegisteredRow.put.Reads as registered-reads
use Rattle.record_row.proofs.record.UnregisteredRow.put.Kinds as unregistered-kinds
use Rattle.record_row.proofs.record.UnregisteredRow.put.Reads as unregistered-reads
use Rattle.record_row.proofs.handing.write.Kinds as write-kinds
use Rattle.record_row.proofs.handing.write.Reads as write-reads

pub frame-packing-determined : Determines 0 frame-packing-kinds.ps frame-packing-kinds.r frame-packing-reads.Post
frame-packing-determined κs a x y s t p q = p ∙ sym q

pub orientation-determined : Determines 0 orientation-kinds.ps orientation-kinds.r orientation-reads.Post
orientation-determined κs a x y s t p q = p ∙ sym q

pub equirectangular-determined : Determines 0 equirectangular-kinds.ps equirectangular-kinds.r equirectangular-reads.Post
equirectangular-determined κs a x y s t p q = p ∙ sym q

pub rotation-determined : Determines 0 rotation-kinds.ps rotation-kinds.r rotation-reads.Post
rotation-determined κs a x y s t p q = p ∙ sym q

pub region-wise-determined : Determines 0 region-wise-kinds.ps region-wise-kinds.r region-wise-reads.Post
region-wise-determined κs a x y s t p q = p ∙ sym q

pub alpha-determined : DeterminesAll 1 alpha-kinds.ps alpha-kinds.r (λ κs s. s.1.0.now) alpha-reads.Post
alpha-determined κs a x y s t p q = (refl, p ∙ sym q)

pub depth-determined : DeterminesAll 1 depth-kinds.ps depth-kinds.r (λ κs s. s.1.0.now) depth-reads.Post
depth-determined κs a x y s t p q = (refl, p ∙ sym q)

pub registered-determined : DeterminesAll 1 registered-kinds.ps registered-kinds.r (λ κs s. s.1.0.now) registered-reads.Post
registered-determined κs a x y s t p q = (refl, p ∙ sym q)

pub unregistered-determined : DeterminesAll 1 unregistered-kinds.ps unregistered-kinds.r (λ κs s. s.1.0.now) unregistered-reads.Post
unregistered-determined κs a x y s t p q = (refl, p ∙ sym q)

-- the row is the fourth parameter
pub write-determined : DeterminesAll 2 write-kinds.ps write-kinds.r (λ κs s. s.1.1.1.0.now) write-reads.Post
write-determined κs a x y s t p q = same_left (p ∙ sym q)
