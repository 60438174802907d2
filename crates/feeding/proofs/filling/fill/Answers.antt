-- a payload of the kind's number is answered by its message
use borrow.Author.Tests.{eqb-false}
use Rattle.std.proofs.Common.{ℕ, ◌≡◌, ◌∙◌, ap, subst, eqb, false}
use Rattle.answers.specs.Answer.{brief_of}
use Rattle.reader.specs.Reader.{answer_to}
use Rattle.answers.specs.Listed.{number}
use Rattle.held.specs.Lasting.{kind_of, HeldOf}
use Rattle.feeding.specs.Filling.{leaving_of, filled_of}
use Rattle.feeding.specs.declared.filling.Reply.{Reply}
use Rattle.feeding.proofs.FillLaws.{small-filling}
use Rattle.feeding.proofs.filling.fill.Goals as goal

pub returns : goal.returns
unfolding filled_of
returns g c =
    let a = c.args in
    let k = g.H.HeldRecord.kind in
    let n = g.met.H.Messaged.numbered in
    let b : c.brief-brief.result ≡ brief_of (answer_to (number (kind_of k)) a.size a.bytes.now) = rw (← n, ← c.NUMBER.ensures) c.brief-brief.ensures in
    ap (λ (f : Reply × (ℕ × HeldOf k)). record { reply = f.0; taken = f.1.0; held = f.1.1 })
    (small-filling k (eqb-false _ 155 (subst (λ (i : ℕ). eqb i 155 ≡ false) n g.met.H.Messaged.messaged)) a.size a.bytes.now _ _ _ _
    b c.of.ensures c.mark.ensures (c.left_by.ensures ∙ ap (leaving_of k) c.lasting_in.ensures))
