use Rattle.std.proofs.Common.{refl}
use Rattle.command_rows.specs.LentDisk.{disk_end}
use Rattle.command_rows.specs.Moment.{output_of}
use Rattle.command_rows.specs.StopInside.{number_of}
use Rattle.command_keep.specs.KeepInside.{outcome_of}
use Rattle.command_keep.proofs.EndLemmas.{unready, missing, unlent, ended_so}
use Rattle.command_keep.proofs.row.work.Goals as goal

pub returns-in_default : goal.returns-in_default
returns-in_default g c =
    let before = output_of g.K.Sink.written g.K.Sink.faults c.args.out.now in
    unready c.args.plant.now c.args.store.now c.args.script.now (g.F.Files.shows c.args.files.now) before _ _ c.report.ensures

pub returns-in-Missing : goal.returns-in-Missing
returns-in-Missing g c =
    let misses = c.in-Missing.ensures in
    let before = output_of g.K.Sink.written g.K.Sink.faults c.args.out.now in
    missing c.args.plant.now c.args.store.now c.args.script.now (g.F.Files.shows c.args.files.now) _ before _ _
    (record { missing = misses.missing refl; others = record { held = misses.others; disks = misses.disks }; custody = misses.lent; faults = misses.count }) c.report-in-Missing.ensures

pub returns-in-Failed : goal.returns-in-Failed
returns-in-Failed g c =
    let failed = c.in-Failed.ensures in
    let before = output_of g.K.Sink.written g.K.Sink.faults c.args.out.now in
    unlent c.args.plant.now c.args.store.now c.args.script.now (g.F.Files.shows c.args.files.now) _ before _ _
    (record { others = record { held = failed.others; disks = failed.disks }; custody = failed.lent; faults = failed.count }) c.report-in-Failed.ensures

pub returns : goal.returns
returns g c =
    let here = c.in-Here.ensures in
    let back = c.close_disk.ensures in
    let keeps = c.keep_on-outcome.ensures in
    let before = output_of g.K.Sink.written g.K.Sink.faults c.args.out.now in
    let mid = output_of g.K.Sink.written g.K.Sink.faults c.keep_on-outcome.new.out in
    let now = output_of g.K.Sink.written g.K.Sink.faults c.tell.new.out in
    ended_so c.args.plant.now c.args.store.now c.args.script.now (g.F.Files.shows c.args.files.now) (g.F.Files.shows c.disk.new.self) (g.F.Files.shows c.keep_on-outcome.new.files) (g.F.Files.shows c.close_disk.new.self)
    (disk_end g.F.D.Disk.name g.F.D.Disk.past g.F.D.Disk.faults c.keep_on-outcome.result.1) before mid now (number_of c.tell.result) (outcome_of c.keep_on-outcome.result.0)
    (record { others = record { held = here.others; disks = here.disks }; custody = here.lent; faults = here.count }) (here.same refl) (keeps.named c.args.store.now here.named)
    (record { held = back.others; disks = back.disks; custody = back.returned; faults = back.count }) (keeps.keeps ((g.F.Files.shows c.args.files.now).disks c.args.store.now 0) (here.held refl)) keeps.count c.tell.ensures
