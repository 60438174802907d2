-- all but the record, and the record
use Rattle.std.proofs.Common.{◌∙◌, refl, sym, ap, false}
use Rattle.bits.specs.Answers.{out_of}
use Rattle.answers.specs.declared.Answer.{Answer}
use Rattle.answers.specs.declared.kind.Kind.TheVariants.{Depth}
use Rattle.messages.proofs.Alone.{both, depth-recorded}
use Rattle.messages.proofs.Finish.{by_read, by-answered}
use Rattle.messages.proofs.depth.Goals as goal

pub returns : goal.returns
returns c =
    both _ _ (c.with_record.ensures.brief ∙ by-answered Depth c.args.s.now false c.read.result c.read.ensures refl (λ a q e. (refl, refl)))
    (c.with_record.ensures.«record»
    ∙ sym (ap (λ (x : Answer). x.beside.depth) (by_read Depth c.args.s.now c.read.ensures) ∙ depth-recorded c.args.s.now (out_of c.read.result)))
