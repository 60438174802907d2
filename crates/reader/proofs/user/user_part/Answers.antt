-- the part ends where the payload does
use Rattle.std.proofs.Common.{◌∙◌, sym, ap, arith}
use Rattle.std.specs.Prelude.{ℕ, Option}
use Rattle.reader.specs.User.{part_from, user_part}
use Rattle.reader.proofs.UserLaws.{start_of, within}
use Rattle.reader.proofs.user.user_part.Goals as goal

pub returns-in-None : goal.returns-in-None
unfolding user_part
returns-in-None c = ap (λ (y : Option ℕ). part_from y c.args.size c.args.bytes.now) (sym c.in-None.is ∙ ap start_of c.brief.ensures)

pub slice_bounds-result-count : goal.slice_bounds-result-count
slice_bounds-result-count c = (within c.args.kind c.args.size c.args.bytes.now (sym (ap start_of c.brief.ensures) ∙ c.in-Some.is)).0

pub slice_bounds-result-start : goal.slice_bounds-result-start
slice_bounds-result-start c =
    let inside = within c.args.kind c.args.size c.args.bytes.now (sym (ap start_of c.brief.ensures) ∙ c.in-Some.is) in
    omega (arith, inside.0, inside.1)

pub returns-in-Some : goal.returns-in-Some
unfolding user_part
returns-in-Some c = ap (λ (y : Option ℕ). part_from y c.args.size c.args.bytes.now) (sym c.in-Some.is ∙ ap start_of c.brief.ensures)

pub slice_bounds-result-end : goal.slice_bounds-result-end
slice_bounds-result-end c =
    let inside = within c.args.kind c.args.size c.args.bytes.now (sym (ap start_of c.brief.ensures) ∙ c.in-Some.is) in
    omega (arith, inside.0, inside.1)
