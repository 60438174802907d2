-- What a reading comes to: what was read, with the number of the bit after it; or a refusal.
use Rattle.std.specs.Prelude.{ℕ, ◌+◌}
use Rattle.bits.specs.declared.refusal.Refusal.{Refusal}
use Rattle.bits.specs.Refusals.{refusal_number, unasked}

pub data Out (A : Type 0) : Type 0 where
  taken : A → ℕ → Out A
  refused : Refusal → Out A

-- The number of RULES 7: 0 where something was read, and then its value is what was read; else the refusal's. Every answer that is a value
-- with its cursor, or a refusal, means an `Out`: so this is the number of each of its cases.
abbrev pub number_in : {A : Type 0} → Out A → ℕ
number_in (taken a q) = 0
number_in (refused r) = refusal_number r

-- o, and then k of what was read and of the bit after it; a refusal is handed up whole
abbrev pub after : {A B : Type 0} → Out A → (A → ℕ → Out B) → Out B
after (taken a q) k = k a q
after (refused r) k = refused r

-- what a reading of the bits from p on comes to, its bits counted from the payload's first
abbrev pub placed : {A : Type 0} → ℕ → Out A → Out A
placed p (taken a n) = taken a (p + n)
placed p (refused r) = refused r

-- why there is no value; asked only where there is none
abbrev pub refusal_in : {A : Type 0} → Out A → Refusal
refusal_in (taken a q) = unasked
refusal_in (refused r) = r
