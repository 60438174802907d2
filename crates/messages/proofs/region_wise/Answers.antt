-- all but the record, and the record
use Rattle.std.proofs.Common.{◌∙◌, refl, sym, ap, false}
use Rattle.bits.specs.Answers.{out_of}
use Rattle.answers.specs.declared.Answer.{Answer}
use Rattle.answers.specs.declared.kind.Kind.TheVariants.{RegionWise}
use Rattle.messages.proofs.Alone.{both, region-wise-recorded}
use Rattle.messages.proofs.Finish.{by_read, by-answered}
use Rattle.messages.proofs.region_wise.Goals as goal

pub returns : goal.returns
returns c =
    both _ _ (c.with_record.ensures.brief ∙ by-answered RegionWise c.args.s.now false c.read.result c.read.ensures refl (λ a q e. (refl, refl)))
    (c.with_record.ensures.«record»
    ∙ sym (ap (λ (x : Answer). x.beside.region_wise) (by_read RegionWise c.args.s.now c.read.ensures) ∙ region-wise-recorded c.args.s.now (out_of c.read.result)))
