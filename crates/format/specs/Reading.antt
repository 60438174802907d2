-- Reading by a format: what it comes to on the bits w, and from a bit of a payload on.
use Rattle.std.specs.Prelude.{ℕ, Bool, List, drop}
use Rattle.bits.specs.Bits.{from}
use Rattle.bits.specs.Refusals.{Verdict, fine, against, refusal_of}
use Rattle.bits.specs.Out.{Out, taken, refused, after, placed}
use Rattle.bits.specs.Elements.{shape_front}
use Rattle.format.specs.Format.{Element, handed, verdict, Format, done, read, asks}

-- a number m of n bits by the verdict on its code
abbrev pub ruled : Verdict → ℕ → ℕ → Out ℕ
ruled fine m n = taken m n
ruled (against b) m n = refused (refusal_of b)

-- what is handed out for the code that was read, judged
abbrev pub judged : Element → Out ℕ → Out ℕ
judged e (taken c n) = ruled (verdict e c) (handed e c) n
judged e (refused r) = refused r

-- an element at the front of the bits w, and at bit p of the payload s
unfoldable pub element_front : Element → List Bool → Out ℕ
element_front e w = judged e (shape_front e.shape w)

unfoldable pub element_at : Element → List ℕ → ℕ → Out ℕ
element_at e s p = placed p (element_front e (from s p))

-- a format: taken, with the value and how many bits it took; or refused
unfoldable pub run : {R A : Type 0} → Format R A → List Bool → Out A
run (done a) w = taken a 0
run (read e g k) w = after (element_front e w) (λ m n. placed n (run (k m) (drop n w)))
run (asks b f) w = run f w

-- the same from bit p of the payload s on, bits counted from the payload's first
unfoldable pub run_at : {R A : Type 0} → Format R A → List ℕ → ℕ → Out A
run_at f s p = placed p (run f (from s p))
