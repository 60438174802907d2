-- the shifts lose nothing
use Rattle.std.proofs.Common.{◌≡◌, ◌-◌, ◌*◌, ◌%◌, ◌^◌, ◌≤◌, ◌<◌, ◌∙◌, ℕ, ap, arith}
use native.Mathlib.Nat.{one-mul}
use lib.Pow.{shl_exact}
use Rattle.numbers.proofs.Patterns.{Cut, cut, shifted-whole}
use Rattle.numbers.proofs.DepthLaws.{narrow, zero_bits, small-by-k}
use Rattle.numbers.specs.Depth.{Mantissa}
use Rattle.numbers.specs.Floats.{lead}
use Rattle.numbers.proofs.depth.small_bits.Goals as goal

-- what is known of the place of the highest one bit
facts : (s v n k : ℕ) → Mantissa s v n → 0 < n → k ≡ lead n → Cut n k
facts s v n k m p e = rw e (cut n p (narrow v n m.length_fits m.mantissa_fits))

-- 1 << k, as the code computes it
one : (k : ℕ) → k ≤ 52 → 1 * 2 ^ k % 2 ^ 64 ≡ 2 ^ k
one k h = shl_exact {a = 1} 1 k 64 (omega arith) (omega arith) ∙ one-mul (2 ^ k)

-- the fraction field, as the code computes it
fraction : (n k : ℕ) → Cut n k → (n - 1 * 2 ^ k % 2 ^ 64) * 2 ^ (52 - k) % 2 ^ 64 ≡ (n - 2 ^ k) * 2 ^ (52 - k)
fraction n k f =
    ap (λ (y : ℕ). (n - y) * 2 ^ (52 - k) % 2 ^ 64) (one k f.low)
    ∙ shifted-whole (n - 2 ^ k) k (52 - k) f.rest (omega (arith, f.low))

pub returns-then-n-eq0 : goal.returns-then-n-eq0
returns-then-n-eq0 c =
    let e : c.args.n ≡ 0 = omega arith in
    rw (e, zero_bits c.args.s c.args.v)

pub overflow_add-v : goal.overflow_add-v
overflow_add-v c =
    omega (arith, (facts c.args.s c.args.v c.args.n c.top_bit-k.result c.requires (omega arith) c.top_bit-k.ensures).low)

pub overflow_shl-k : goal.overflow_shl-k
overflow_shl-k c =
    omega (arith, (facts c.args.s c.args.v c.args.n c.top_bit-k.result c.requires (omega arith) c.top_bit-k.ensures).low)

pub overflow_sub-n : goal.overflow_sub-n
overflow_sub-n c =
    let f : Cut c.args.n c.top_bit-k.result = facts c.args.s c.args.v c.args.n c.top_bit-k.result c.requires (omega arith) c.top_bit-k.ensures in
    rw (one c.top_bit-k.result f.low) f.under

pub overflow_sub-k : goal.overflow_sub-k
overflow_sub-k c = (facts c.args.s c.args.v c.args.n c.top_bit-k.result c.requires (omega arith) c.top_bit-k.ensures).low

pub fields-requires : goal.fields-requires
fields-requires c =
    let f : Cut c.args.n c.top_bit-k.result = facts c.args.s c.args.v c.args.n c.top_bit-k.result c.requires (omega arith) c.top_bit-k.ensures in
    (omega arith, omega (arith, f.low), rw (fraction c.args.n c.top_bit-k.result f) f.part)

pub returns : goal.returns
returns c =
    let a = c.args in
    let k = c.top_bit-k.result in
    let f : Cut a.n k = facts a.s a.v a.n k c.requires (omega arith) c.top_bit-k.ensures in
    rw (c.fields.ensures, fraction a.n k f, small-by-k a.s a.v a.n k f.under f.above)
