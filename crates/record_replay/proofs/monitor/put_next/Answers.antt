use Rattle.std.proofs.Common.{[]}
use Rattle.tsl_stream.specs.Feeding.{shown_packet}
use Rattle.record_replay.specs.OutputLaws.{Puts-none}
use Rattle.record_replay.specs.Monitor.{item_lines}
use Rattle.record_replay.proofs.MonitorLemmas.{told_item, told_none}
use Rattle.record_replay.proofs.monitor.put_next.Goals as goal

pub returns-in-Some-clause-tells : goal.returns-in-Some-clause-tells
returns-in-Some-clause-tells g c = λ text stands.
    let feeds = c.feed.ensures.feeds text stands in
    (c.feed.follows.holds-at-none text stands, item_lines (shown_packet c.in-Some.item), told_item text _ _ c.in-Some.item feeds.adds c.in-Some.is, c.put_item.ensures)

pub returns-in_default-clause-tells : goal.returns-in_default-clause-tells
returns-in_default-clause-tells g c = λ text stands.
    let feeds = c.feed.ensures.feeds text stands in
    (c.feed.follows.holds-at-none text stands, [], told_none text _ _ feeds.adds c.in_default.is, Puts-none g.K.Drain.written g.K.Drain.faults c.args.out.now)
