use Rattle.std.proofs.Common.{◌∙◌}
use Rattle.command_rows.specs.StopInside.{stopped_of}
use Rattle.command_keep.specs.KeepInside.{outcome_of}
use Rattle.command_keep.proofs.StoreLemmas.{not_opened, unread, went_on}
use Rattle.command_keep.proofs.row.keep_on.Goals as goal

pub returns-in-Err-clause-keeps : goal.returns-in-Err-clause-keeps
returns-in-Err-clause-keeps g c = λ held shown.
    let d = g.D.Disk in
    let met = g.met.D.Disk in
    let opens = c.in-Err.ensures in
    not_opened d.size d.contents d.may_leave d.moment d.left_since d.past d.faults d.name met.made c.args.plant.now c.args.script.now held c.args.disk (g.F.Files.shows c.args.files.now) (g.K.Sink.written c.args.out.now) shown c.requires.new
    c.in-Err.fault (outcome_of c.unopened.result.0) c.unopened.result.1 c.unopened.ensures.outcome c.unopened.ensures.disk (met.as_many c.args.disk) opens.wrong_size opens.damaged opens.any_moment opens.count

pub returns-in-Err-read_script-clause-keeps : goal.returns-in-Err-read_script-clause-keeps
returns-in-Err-read_script-clause-keeps g c = λ held shown.
    let d = g.D.Disk in
    let met = g.met.D.Disk in
    let opens = c.in-Ok.ensures in
    unread d.size d.contents d.may_leave d.moment d.left_since d.past d.faults d.name met.made c.args.plant.now c.args.script.now held c.args.disk (g.F.Files.shows c.args.files.now) (g.K.Sink.written c.args.out.now) shown c.requires.new
    c.in-Ok.opened.0 c.in-Ok.opened.1 opens.stands opens.store opens.any_moment opens.wrong_size (met.as_many c.args.disk) (g.F.Files.shows c.read_script.new.files) (stopped_of c.in-Err-read_script.stop) c.into_disk.result c.into_disk.ensures opens.contents (opens.count ∙ c.requires.new)
    c.in-Err-read_script.ensures

pub returns-clause-keeps : goal.returns-clause-keeps
returns-clause-keeps g c = λ held shown.
    let d = g.D.Disk in
    let met = g.met.D.Disk in
    let opens = c.in-Ok.ensures in
    went_on d.size d.contents d.may_leave d.moment d.left_since d.past d.faults d.name met.made c.args.plant.now c.args.script.now held c.args.disk (g.F.Files.shows c.args.files.now) (g.K.Sink.written c.args.out.now) shown c.requires.new
    c.in-Ok.opened.0 c.in-Ok.opened.1 opens.stands opens.store opens.any_moment opens.wrong_size (met.as_many c.args.disk) (g.F.Files.shows c.read_script.new.files) c.in-Ok-read_script.text.items c.run.result.1 (g.K.Sink.written c.run.new.out) (outcome_of c.run.result.0)
    c.in-Ok-read_script.ensures (rw c.deref.ensures.value at c.run.ensures.runs) (rw c.deref.ensures.value at c.run.ensures.any_moment)
