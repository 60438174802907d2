-- What the exit of a `?` returns.
-- Assumes nothing.
use mathlib.Core.Path.{◌≡◌, ap, ◌∙◌}
use Rattle.std.specs.Prelude.{Result, Err}
use Rattle.std.specs.Result.{IsErrAnd}
use Rattle.std.proofs.lemmas.Result.{err_from_is_err_and}
use Rattle.bits.specs.declared.refusal.Refusal.{Refusal}

-- the refusal that was met, whole
pub exit : {A : Type 0} (r : Result A Refusal) {e : Refusal} → IsErrAnd r (λ x. x ≡ e) → r ≡ Err e
exit r h = let p = err_from_is_err_and r h in p.1 ∙ ap Err p.2
