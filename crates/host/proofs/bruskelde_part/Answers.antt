-- the part lies where the reader's answer says
use Rattle.std.specs.Prelude.{ℕ, Option}
use Rattle.std.proofs.Common.{◌∙◌, sym, ap}
use Rattle.reader.proofs.UserLaws.{start_of, within}
use Rattle.host.specs.Part.{part_at, part_of}
use Rattle.host.proofs.bruskelde_part.Goals as goal

pub returns-in-None : goal.returns-in-None
unfolding part_of
returns-in-None c = ap (λ (y : Option ℕ). part_at y c.args.size) (sym c.in-None.is ∙ ap start_of c.brief.ensures)

pub overflow_sub-result : goal.overflow_sub-result
overflow_sub-result c = (within c.args.kind c.args.size c.args.bytes.now (sym (ap start_of c.brief.ensures) ∙ c.in-Some.is)).0

pub returns-in-Some : goal.returns-in-Some
unfolding part_of
returns-in-Some c = ap (λ (y : Option ℕ). part_at y c.args.size) (sym c.in-Some.is ∙ ap start_of c.brief.ensures)
