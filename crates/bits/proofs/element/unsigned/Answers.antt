-- the high bits, and the 16 after them
use Rattle.std.proofs.Common.{◌≡◌, ◌+◌, ◌-◌, ◌∙◌, ap, refl, arith}
use Rattle.bits.specs.Bits.{part, unsigned_of}
use Rattle.bits.proofs.ByteLaws.{joined}
use Rattle.bits.proofs.element.unsigned.Goals as goal

pub returns : goal.returns
returns c =
    let a = c.args in
    let all : a.n - 16 + 16 ≡ a.n = omega arith in
    joined a.s.now a.at (a.n - 16) (a.at + (a.n - 16)) 16 c.half-2.ensures c.half-3.ensures refl
    ∙ ap (λ k. unsigned_of (part a.s.now a.at k)) all
