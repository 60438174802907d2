-- the shift loses nothing
use Rattle.std.proofs.Common.{◌+◌, ◌-◌, ◌∙◌, ap, sym, ℕ, arith}
use Rattle.numbers.proofs.Patterns.{shifted-whole, shifted_fits}
use Rattle.numbers.proofs.DepthLaws.{normal-bits}
use Rattle.numbers.specs.Floats.{pattern}
use Rattle.numbers.proofs.depth.normal_bits.Goals as goal

pub fields-requires : goal.fields-requires
fields-requires c = (omega arith, omega arith, shifted_fits c.args.n c.args.v _ c.requires.0.mantissa_fits (omega arith))

pub returns : goal.returns
returns c =
    let a = c.args in
    c.fields.ensures
    ∙ ap (λ (y : ℕ). pattern a.s (a.e + 992) y) (shifted-whole a.n a.v (52 - a.v) c.requires.0.mantissa_fits (omega arith))
    ∙ sym (normal-bits a.s a.e a.v a.n (omega arith))
