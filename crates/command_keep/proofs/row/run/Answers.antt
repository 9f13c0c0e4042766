use Rattle.command_keep.specs.KeepInside.{outcome_of}
use Rattle.command_keep.proofs.StoreLemmas.{ran, ran_so}
use Rattle.command_keep.proofs.row.run.Goals as goal

pub returns-clause-runs : goal.returns-clause-runs
returns-clause-runs g c =
    let d = g.D.Disk in
    let met = g.met.D.Disk in
    let asked = c.requires in
    let kept = c.replay_kept.ensures in
    let before = g.K.Sink.written c.args.out.now in
    let now = g.K.Sink.written c.replay_kept.new.out in
    ran_so d.size d.contents d.may_leave d.moment d.left_since d.past d.faults d.name met.made c.args.plant.now c.args.text.now c.args.state.now c.replay_kept.new.state c.args.store before now asked.store asked.stands asked.new
    c.replay_kept.result (outcome_of c.parted.result.0) c.parted.result.1 c.parted.ensures.outcome c.parted.ensures.disk
    (ran d.size d.contents d.may_leave d.moment d.left_since d.past d.faults d.name met.made c.args.plant.now c.args.text.now c.args.state.now c.replay_kept.new.state c.args.store before now asked.store asked.stands asked.new
    c.replay_kept.result kept.ok kept.stands kept.store kept.bad_line kept.same kept.form kept.full kept.unsaved kept.failed kept.at_end kept.disk_count)
