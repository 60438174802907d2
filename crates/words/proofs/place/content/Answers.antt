-- each part of the line is one step of the definition
use lib.Seq.{take_all, take-length}
use Rattle.std.proofs.Common.{ℕ, ◌≡◌, ◌+◌, ◌-◌, ◌≤◌, ◌∙◌, ap, List, length, length-drop, take, drop, arith}
use Rattle.words.specs.Place.{index_of, slice, run, trimmed_of, uncommented, led, ended, content_of}
use Rattle.words.proofs.place.content.Goals as goal

-- the part before a comment
text_of : (s : List ℕ) (e : ℕ) → e ≡ 0 + index_of 35 (slice 0 (length s) s) → take e s ≡ uncommented s
text_of s e p =
    let n : e ≡ index_of 35 s = omega (arith, rw (take-length s) at p) in
    ap (λ (k : ℕ). take k s) n

-- the part of it from f on
rest-of : (s : List ℕ) (f : ℕ) → f ≡ 0 + run 32 (drop 0 s) → take (length s - f) (drop f s) ≡ led s
rest-of s f p =
    let n : f ≡ run 32 s = omega arith in
    let l : length (drop f s) ≤ length s - f = omega (arith, length-drop f s) in
    take_all (length s - f) (drop f s) l ∙ ap (λ (k : ℕ). drop k s) n

front_of : (s : List ℕ) (t : ℕ) → t ≡ trimmed_of s → take t s ≡ ended s
front_of s t p = ap (λ (k : ℕ). take k s) p

pub returns : goal.returns
unfolding content_of
returns c =
    front_of _ _ c.trimmed.ensures
    ∙ ap ended (rest-of _ _ c.skip.ensures.value)
    ∙ ap (λ (l : List ℕ). ended (led l)) (text_of _ _ c.find.ensures.value)
