-- What is fed to a slot, as `places` has it: a reply, whether the record of its kind is new, and the record.
-- Assumes `Logic`, where a model is.
use mathlib.Core.List.{[], ◌∷◌}
use Prim.Native.Nat.{ℕ, zero}
use mathlib.Core.Path.{◌≡◌, refl}
use mathlib.Core.Option.{some}
use mir.Syntax.{ty_int, tcons, tnil, w8}
use prog.Memory.{field_at}
use denote.Memory.{lone}
use denote.Struct.Declared.{Declared, row, fields}
use denote.Struct.Struct.{Plains}
use denote.Struct.Laws as LL
use denote.Param.Laws.{Laws, struct_told}
use Rattle.places.proofs.Store.{Data, Flagged, data_of}
use Rattle.held.specs.contracts.HeldFramePacking as frame-packing
use Rattle.held.proofs.HeldFramePacking.TheLaws as frame-packing'
use Rattle.held.specs.contracts.HeldOrientation as orientation
use Rattle.held.proofs.HeldOrientation.TheLaws as orientation'
use Rattle.held.specs.contracts.HeldEquirectangular as equirectangular
use Rattle.held.proofs.HeldEquirectangular.TheLaws as equirectangular'
use Rattle.held.specs.contracts.HeldRotation as rotation
use Rattle.held.proofs.HeldRotation.TheLaws as rotation'
use Rattle.held.specs.contracts.HeldRegionWise as region-wise
use Rattle.held.proofs.HeldRegionWise.TheLaws as region-wise'
use Rattle.feeding.specs.contracts.filling.Reply as reply
use Rattle.feeding.proofs.filling.Reply.TheLaws as reply'
use Rattle.feeding.specs.contracts.filling.Filled as filled
use Rattle.feeding.proofs.filling.Filled.TheLaws as filled'

abbrev pub reply-data : Data reply.the_row
reply-data = data_of reply.the_type reply'.the_laws reply'.the_plain

-- of any record N, which lies that far in
abbrev fills : (N : Declared) (L : LL.Laws N) (plain : Plains (fields N)) → Laws (row N) → (gap : ℕ)
    → field_at zero (tcons (lone reply.the_row.mir) (tcons (ty_int w8) (tcons (lone (row N).mir) tnil))) 2 ≡ some (lone (row N).mir, gap) → Flagged reply.the_row (row N) reply-data (data_of N L plain)
fills N L plain P gap at =
    let F : Declared = filled.the_type (row N) in
    let FL : LL.Laws F = filled'.the_laws (row N) P (struct_told N L) in
    record {
      F = row F;
      name = F.name;
      near = 8;
      gap = gap;
      answer = λ r. r.reply;
      flag = λ r. r.taken;
      rest = λ r. r.held;
      at-answer = refl;
      at_flag = refl;
      at_rest = at;
      tells = LL.tells F FL;
      typed = λ 𝓛 r v is. ((LL.lawful F FL 𝓛).typed r (v ∷ []) is).0;
      answered = λ r v is. (LL.owed F FL r (v ∷ []) is).0;
      rested = λ r v is. (LL.owed F FL r (v ∷ []) is).1.1.0;
    }

abbrev pub frame-packing-data : Data frame-packing.the_row
frame-packing-data = data_of frame-packing.the_type frame-packing'.the_laws frame-packing'.the_plain

abbrev pub fills-frame-packing : Flagged reply.the_row frame-packing.the_row reply-data frame-packing-data
fills-frame-packing = fills frame-packing.the_type frame-packing'.the_laws frame-packing'.the_plain frame-packing'.the_row_laws 12 refl

abbrev pub orientation-data : Data orientation.the_row
orientation-data = data_of orientation.the_type orientation'.the_laws orientation'.the_plain

abbrev pub fills-orientation : Flagged reply.the_row orientation.the_row reply-data orientation-data
fills-orientation = fills orientation.the_type orientation'.the_laws orientation'.the_plain orientation'.the_row_laws 9 refl

abbrev pub equirectangular-data : Data equirectangular.the_row
equirectangular-data = data_of equirectangular.the_type equirectangular'.the_laws equirectangular'.the_plain

abbrev pub fills-equirectangular : Flagged reply.the_row equirectangular.the_row reply-data equirectangular-data
fills-equirectangular = fills equirectangular.the_type equirectangular'.the_laws equirectangular'.the_plain equirectangular'.the_row_laws 9 refl

abbrev pub rotation-data : Data rotation.the_row
rotation-data = data_of rotation.the_type rotation'.the_laws rotation'.the_plain

abbrev pub fills-rotation : Flagged reply.the_row rotation.the_row reply-data rotation-data
fills-rotation = fills rotation.the_type rotation'.the_laws rotation'.the_plain rotation'.the_row_laws 16 refl

abbrev pub region-wise-data : Data region-wise.the_row
region-wise-data = data_of region-wise.the_type region-wise'.the_laws region-wise'.the_plain

abbrev pub fills-region-wise : Flagged reply.the_row region-wise.the_row reply-data region-wise-data
fills-region-wise = fills region-wise.the_type region-wise'.the_laws region-wise'.the_plain region-wise'.the_row_laws 12 refl
