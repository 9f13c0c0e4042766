use Rattle.plant_snapshot.specs.Store.{disk_of}
use Rattle.record_replay.proofs.KeptStart.{unready}
use Rattle.record_replay.proofs.kept.keep_script.Goals as goal

pub returns-in_default-clause-keeps : goal.returns-in_default-clause-keeps
returns-in_default-clause-keeps g c =
    unready g.D.Disk.size g.D.Disk.contents g.D.Disk.may_leave g.D.Disk.moment g.D.Disk.left_since g.D.Disk.faults g.D.Disk.name
    c.args.plant.now c.args.script.now c.args.state.now c.args.store (g.K.Sink.written c.args.out.now) c.requires.store c.requires.stands (g.met.D.Disk.only_now (disk_of c.args.store)) _

pub returns-in_default-start-clause-keeps : goal.returns-in_default-start-clause-keeps
returns-in_default-start-clause-keeps g c =
    unready g.D.Disk.size g.D.Disk.contents g.D.Disk.may_leave g.D.Disk.moment g.D.Disk.left_since g.D.Disk.faults g.D.Disk.name
    c.args.plant.now c.args.script.now c.args.state.now c.args.store (g.K.Sink.written c.args.out.now) c.requires.store c.requires.stands (g.met.D.Disk.only_now (disk_of c.args.store)) _
