-- The calls by name.
use Rattle.std.specs.Prelude.{ℕ, List, [], ◌∷◌, Option}
use Rattle.std.specs.List.{find}
use Rattle.script.specs.Words.{alike}
use Rattle.script.specs.declared.name.Name.{Name}
use Rattle.script.specs.declared.name.Name.TheVariants.{Open, Close, Sequence, Picture, Table, Feed, Read, Explain, Help}

-- open
abbrev pub open-name : List ℕ
open-name = 111 ∷ 112 ∷ 101 ∷ 110 ∷ []

-- close
abbrev pub close-name : List ℕ
close-name = 99 ∷ 108 ∷ 111 ∷ 115 ∷ 101 ∷ []

-- sequence
abbrev pub sequence-name : List ℕ
sequence-name = 115 ∷ 101 ∷ 113 ∷ 117 ∷ 101 ∷ 110 ∷ 99 ∷ 101 ∷ []

-- picture
abbrev pub picture-name : List ℕ
picture-name = 112 ∷ 105 ∷ 99 ∷ 116 ∷ 117 ∷ 114 ∷ 101 ∷ []

-- table
abbrev pub table-name : List ℕ
table-name = 116 ∷ 97 ∷ 98 ∷ 108 ∷ 101 ∷ []

-- feed
abbrev pub feed-name : List ℕ
feed-name = 102 ∷ 101 ∷ 101 ∷ 100 ∷ []

-- read
abbrev pub read_name : List ℕ
read_name = 114 ∷ 101 ∷ 97 ∷ 100 ∷ []

-- explain
abbrev pub explain-name : List ℕ
explain-name = 101 ∷ 120 ∷ 112 ∷ 108 ∷ 97 ∷ 105 ∷ 110 ∷ []

-- help
abbrev pub help-name : List ℕ
help-name = 104 ∷ 101 ∷ 108 ∷ 112 ∷ []

abbrev pub word_of : Name → List ℕ
word_of Open = open-name
word_of Close = close-name
word_of Sequence = sequence-name
word_of Picture = picture-name
word_of Table = table-name
word_of Feed = feed-name
word_of Read = read_name
word_of Explain = explain-name
word_of Help = help-name

abbrev pub names : List Name
names = Open ∷ Close ∷ Sequence ∷ Picture ∷ Table ∷ Feed ∷ Read ∷ Explain ∷ Help ∷ []

-- the call that a word names, if it is one
unfoldable pub name_of : List ℕ → Option Name
name_of w = find (λ n. alike (word_of n) w) names
