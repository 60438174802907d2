-- The bytes of a chunk, one after the other: with one of them the line ends or goes on, and where none is left nothing changes.
-- Assumes nothing.
use Rattle.std.proofs.Common.{◌≡◌, ℕ, suc, ◌+◌, ◌<◌, ◌≤◌, Bool, true, false, eqb, ltb, List, length, get_or, drop, set, sym, refl, ap, ◌∙◌, add-one, drop_of_length-le, drop-cons}
use Rattle.std.specs.Prelude.{if◌then◌else◌}
use Rattle.script.specs.Input.{plain_byte, Step, step, ended, longer, with_byte, taken, line_on}
use Rattle.script.specs.declared.input.Input.{Input}

either : (newline room : Bool) (i : Input) (line more : List ℕ) →
    (if newline then step (ended i) line else if room then step (longer i) more else step i line).input.at ≡ i.at
either true room i line more = refl
either false true i line more = refl
either false false i line more = refl

-- a byte of the line changes nothing of what is taken
kept : (i : Input) (b : ℕ) (line : List ℕ) → (with_byte i b line).input.at ≡ i.at
unfolding with_byte
kept i b line = either (eqb b 10) (ltb i.length 32768) i line (set line i.length (plain_byte b))

module _ (s line : List ℕ) (i : Input) where
  pub over : length s ≤ i.at → line_on i (drop i.at s) line ≡ step i line
  unfolding line_on
  over h = rw (drop_of_length-le s h)

  -- o is what comes of the byte at i's place
  module _ (o : Step) (h : i.at < length s) (e : o ≡ with_byte (taken i) (get_or s i.at 0) line) where
    pub placed : o.input.at ≡ i.at + 1
    placed = ap (λ (x : Step). x.input.at) e ∙ kept (taken i) _ line

    pub ends : o.input.whole ≡ true → line_on i (drop i.at s) line ≡ o
    unfolding line_on
    ends w = rw (drop-cons s i.at 0, ← e, w)

    pub goes_on : o.input.whole ≡ false → line_on i (drop i.at s) line ≡ line_on o.input (drop o.input.at s) o.line
    unfolding line_on
    goes_on w =
        let f : line_on i (drop i.at s) line ≡ line_on o.input (drop (suc i.at) s) o.line = rw (drop-cons s i.at 0, ← e, w) in
        f ∙ ap (λ (n : ℕ). line_on o.input (drop n s) o.line) (sym (placed ∙ add-one i.at))
