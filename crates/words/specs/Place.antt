-- Places in a text, and what a line says.
use Rattle.std.specs.Prelude.{ℕ, suc, ◌-◌, List, [], ◌∷◌, reverse, eqb, length, take, drop, if◌then◌else◌}

-- where b first stands; the length where it does not
unfoldable pub index_of : ℕ → List ℕ → ℕ
index_of b [] = 0
index_of b (x ∷ rest) = if eqb x b then 0 else suc (index_of b rest)

-- what stands from place i on, before place n
abbrev pub slice : ℕ → ℕ → List ℕ → List ℕ
slice i n l = drop i (take n l)

-- how often b stands at the front, before anything else
unfoldable pub run : ℕ → List ℕ → ℕ
run b [] = 0
run b (x ∷ rest) = if eqb x b then suc (run b rest) else 0

-- the length without the spaces at the end
abbrev pub trimmed_of : List ℕ → ℕ
trimmed_of l = length l - run 32 (reverse l)

-- what stands before the first '#'
abbrev pub uncommented : List ℕ → List ℕ
uncommented l = take (index_of 35 l) l

-- without the spaces before it
abbrev pub led : List ℕ → List ℕ
led l = drop (run 32 l) l

-- without the spaces after it
abbrev pub ended : List ℕ → List ℕ
ended l = take (trimmed_of l) l

unfoldable pub content_of : List ℕ → List ℕ
content_of line = ended (led (uncommented line))
