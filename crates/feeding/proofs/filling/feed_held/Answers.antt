-- the record of its kind is stored, where there is one
use borrow.Author.Tests.{ne_eqb}
use Rattle.std.proofs.Common.{ap, sym, arith}
use Rattle.held.specs.declared.Held.{Held}
use Rattle.held.specs.Lasting.{frame_packing, orientation, equirectangular, rotation, region_wise}
use Rattle.reader.specs.Reader.{answer_to}
use Rattle.feeding.specs.Filling.{reply_of}
use Rattle.feeding.proofs.FeedLaws.{unheld-feed}
use Rattle.feeding.proofs.FillLaws.{stores_kind}
use Rattle.feeding.proofs.filling.feed_held.Goals as goal

pub returns-in-45 : goal.returns-in-45
returns-in-45 c = stores_kind frame_packing _ _ _ _ _ _ c.store.ensures c.fill.ensures c.in-45.is

pub returns-in-47 : goal.returns-in-47
returns-in-47 c = stores_kind orientation _ _ _ _ _ _ c.store-in-47.ensures c.fill-in-47.ensures c.in-47.is

pub returns-in-150 : goal.returns-in-150
returns-in-150 c = stores_kind equirectangular _ _ _ _ _ _ c.store-in-150.ensures c.fill-in-150.ensures c.in-150.is

pub returns-in-154 : goal.returns-in-154
returns-in-154 c = stores_kind rotation _ _ _ _ _ _ c.store-in-154.ensures c.fill-in-154.ensures c.in-154.is

pub returns-in-155 : goal.returns-in-155
returns-in-155 c = stores_kind region_wise _ _ _ _ _ _ c.store-in-155.ensures c.region_wise.ensures c.in-155.is

pub returns-in_default : goal.returns-in_default
returns-in_default c =
    let a = c.args in
    rw c.unheld.ensures
    (ap (λ (h : Held). (h, reply_of (answer_to a.kind a.size a.bytes.now)))
    (sym (unheld-feed a.kind a.size a.bytes.now
    (rw (ne_eqb a.kind 45 (omega arith), ne_eqb a.kind 47 (omega arith), ne_eqb a.kind 150 (omega arith), ne_eqb a.kind 154 (omega arith), ne_eqb a.kind 155 (omega arith)))
    a.held.now)))
