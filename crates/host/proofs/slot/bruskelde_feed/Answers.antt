use Rattle.std.proofs.Common.{◌∙◌, sym, ap}
use Rattle.slots.specs.declared.Slots.{Slots}
use Rattle.slots.proofs.Laws.{lifted-said}
use Rattle.feeding.specs.Feed.{shut_answer, feeding}
use Rattle.feeding.specs.declared.filling.Reply.{Reply}
use Rattle.isolation.specs.Runs.{read}
use Rattle.host.specs.Seen.{fed}
use Rattle.host.proofs.StepLaws.{in_seen}
use Rattle.host.proofs.slot.bruskelde_feed.Goals as goal

pub returns : goal.returns
returns c =
    let a = c.args in
    ap (λ (w : Slots × Reply). (w.0, fed w.1.number w.1.extension)) c.feed.ensures
    ∙ ap in_seen (sym (lifted-said read (feeding a.kind a.size a.bytes.now) (shut_answer a.kind) a.slots.now a.slot))
