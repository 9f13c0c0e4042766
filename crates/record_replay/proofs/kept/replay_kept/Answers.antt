use Rattle.plant_snapshot.specs.Store.{disk_of}
use Rattle.record_replay.specs.Script.{lines, worked}
use Rattle.record_replay.proofs.KeptStart.{unworked, unworked_left, unworked_moments}
use Rattle.record_replay.proofs.kept.replay_kept.Goals as goal

pub returns-in_default-clause-stands : goal.returns-in_default-clause-stands
returns-in_default-clause-stands g c = (
  worked (lines c.args.script.now),
  c.args.state.now,
  unworked g.D.Disk.size g.D.Disk.contents g.D.Disk.may_leave g.D.Disk.moment g.D.Disk.left_since g.D.Disk.faults g.D.Disk.name
      c.args.plant.now c.args.script.now c.args.state.now c.args.store (g.K.Sink.written c.args.out.now) c.requires.store c.requires.stands,
)

pub returns-in_default-clause-any_moment : goal.returns-in_default-clause-any_moment
returns-in_default-clause-any_moment g c =
    unworked_moments g.D.Disk.size g.D.Disk.contents g.D.Disk.may_leave g.D.Disk.moment g.D.Disk.left_since g.D.Disk.faults g.D.Disk.name
    c.args.plant.now c.args.script.now c.args.state.now c.args.store (g.K.Sink.written c.args.out.now) c.requires.store c.requires.stands (g.met.D.Disk.only_now (disk_of c.args.store))

pub returns-in_default-clause-at_end : goal.returns-in_default-clause-at_end
returns-in_default-clause-at_end g c =
    unworked_left g.D.Disk.size g.D.Disk.contents g.D.Disk.may_leave g.D.Disk.moment g.D.Disk.left_since g.D.Disk.faults g.D.Disk.name
    c.args.plant.now c.args.script.now c.args.state.now c.args.store (g.K.Sink.written c.args.out.now) c.requires.store c.requires.stands

pub returns-in-Some-clause-stands : goal.returns-in-Some-clause-stands
returns-in-Some-clause-stands g c = (
  worked (lines c.args.script.now),
  c.args.state.now,
  unworked g.D.Disk.size g.D.Disk.contents g.D.Disk.may_leave g.D.Disk.moment g.D.Disk.left_since g.D.Disk.faults g.D.Disk.name
      c.args.plant.now c.args.script.now c.args.state.now c.args.store (g.K.Sink.written c.args.out.now) c.requires.store c.requires.stands,
)

pub returns-in-Some-clause-any_moment : goal.returns-in-Some-clause-any_moment
returns-in-Some-clause-any_moment g c =
    unworked_moments g.D.Disk.size g.D.Disk.contents g.D.Disk.may_leave g.D.Disk.moment g.D.Disk.left_since g.D.Disk.faults g.D.Disk.name
    c.args.plant.now c.args.script.now c.args.state.now c.args.store (g.K.Sink.written c.args.out.now) c.requires.store c.requires.stands (g.met.D.Disk.only_now (disk_of c.args.store))

pub returns-in-Some-clause-at_end : goal.returns-in-Some-clause-at_end
returns-in-Some-clause-at_end g c =
    unworked_left g.D.Disk.size g.D.Disk.contents g.D.Disk.may_leave g.D.Disk.moment g.D.Disk.left_since g.D.Disk.faults g.D.Disk.name
    c.args.plant.now c.args.script.now c.args.state.now c.args.store (g.K.Sink.written c.args.out.now) c.requires.store c.requires.stands
