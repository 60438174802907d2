-- kind 155 is listed: 2, or what the payload comes to
use lib.ListN.{length-take}
use Rattle.std.proofs.Common.{◌∙◌, refl, sym, ap, length, arith}
use Rattle.answers.specs.declared.kind.Kind.TheVariants.{RegionWise}
use Rattle.answers.specs.Answer.{brief_of, refused_as}
use Rattle.answers.specs.declared.Answer.{Answer}
use Rattle.messages.specs.Beside.{region_wise_of}
use Rattle.messages.proofs.Alone.{both}
use Rattle.reader.proofs.EntryLaws.{payload-fits, unless-over}
use Rattle.reader.proofs.Calls.{to-oversized, to-payload}
use Rattle.reader.proofs.regions.region_wise.Goals as goal

pub returns-in_default : goal.returns-in_default
returns-in_default c =
    let over = unless-over 155 c.args.size (length c.args.bytes.now) RegionWise refl (λ j e. c.in_default.not-Payload j (c.judged.ensures ∙ e)) in
    let large = to-oversized 155 _ _ RegionWise refl over in
    both _ _ (c.refused.ensures.brief ∙ ap (λ r. brief_of (refused_as RegionWise r)) c.size.ensures ∙ sym (ap brief_of large))
    (c.refused.ensures.zeros ∙ sym (ap (λ (x : Answer). x.beside.region_wise) large))

pub region_wise-requires : goal.region_wise-requires
region_wise-requires c = rw (c.front.ensures, length-take) (omega (arith, (payload-fits 155 _ _ (sym c.in-Payload.ensures)).0))

pub returns : goal.returns
returns c =
    let fits = payload-fits 155 c.args.size _ (sym c.in-Payload.ensures) in
    rw (c.region_wise.ensures, c.front.ensures) (sym (ap region_wise_of (to-payload 155 _ _ RegionWise (refl, fits.0, fits.1))))
