-- the slot is judged first
use Rattle.std.proofs.Common.{ℕ, ◌≡◌, ◌∙◌, sym, true, List}
use Rattle.answers.specs.declared.Answer.{Answer}
use Rattle.held.specs.declared.Held.{Held}
use Rattle.reader.specs.Reader.{answer_to}
use Rattle.slots.specs.Slots.{is_open, holding}
use Rattle.slots.specs.declared.Slot.{Slot}
use Rattle.feeding.specs.Feed.{held_by, held_after, feeding}
use Rattle.feeding.proofs.feed_slot.Goals as goal

on : (here x : Slot) (kind size : ℕ) (bytes : List ℕ) (answer : Answer) (left : Held) → is_open here ≡ true → answer ≡ answer_to kind size bytes
    → left ≡ held_by here.held answer.outcome answer.message answer.beside.region_wise → x ≡ holding here left
    → (x, answer) ≡ feeding kind size bytes here
unfolding held_after
on here x kind size bytes answer left o a k h = rw (o, h, k, a)

pub returns : goal.returns
returns c = on c.args.here.now _ _ _ _ _ _ (sym c.is_open.ensures ∙ c.if-not-is_open.false) c.read-answer.ensures c.held_by-left.ensures c.holding.ensures
