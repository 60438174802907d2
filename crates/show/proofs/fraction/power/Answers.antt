-- the shift loses nothing
use lib.Pow.{shl_exact, pow_pos, pow_mono}
use Rattle.std.proofs.Common.{ℕ, ◌≡◌, ◌*◌, ◌%◌, ◌^◌, ◌≤◌, ◌∙◌, arith}
use Rattle.show.proofs.fraction.power.Goals as goal

exact : (k : ℕ) → k ≤ 62 → 1 * 2 ^ k % 2 ^ 64 ≡ 2 ^ k
exact k h = shl_exact 1 k 64 (omega arith) (omega arith) ∙ omega arith

pub returns : goal.returns
returns c =
    let k = c.args.k in
    let e : 1 * 2 ^ k % 2 ^ 64 ≡ 2 ^ k = exact k (omega arith) in
    (e, omega (arith, e, pow_pos k), omega (arith, e, pow_mono {i = k} {j = 62} (omega arith)))
