-- A record loses nothing of its message, whatever its kind.
-- Assumes nothing.
use mathlib.Core.Bool.{Bool}
use mathlib.Core.List.{List}
use Rattle.format.specs.Coded.{Coded}
use Rattle.format.specs.Varied.{Alike}
use Rattle.format.proofs.Faithful as format
use Rattle.answers.specs.Listed.{Record, form}
use Rattle.answers.specs.declared.kind.Kind.{Kind}
use Rattle.answers.proofs.KindLaws.{faithful}

-- two codings of one record agree in every bit but ignored ones and reserved guard band codes
pub loses-nothing : (k : Kind) (w v : List Bool) (a : Record k) → Coded (form k).table w a → Coded (form k).table v a → Alike (form k).table w v
loses-nothing k = format.loses-nothing (form k).table (faithful k)
