use Rattle.std.proofs.Common.{refl}
use Rattle.command_rows.specs.Moment.{output_of}
use Rattle.command_rows.specs.StopInside.{number_of}
use Rattle.command_drive.specs.Drive.{bench_level, wanted}
use Rattle.command_drive.proofs.RegularLemmas.{regular_wanted}
use Rattle.command_drive.proofs.RowLemmas.{told}
use Rattle.command_drive.proofs.row.work.Goals as goal

pub turn_all-requires-clause-stands : goal.turn_all-requires-clause-stands
turn_all-requires-clause-stands g c =
    record { drive = wanted c.args.asked.now.number c.args.asked.now.wants; shows = c.want_all.ensures.wanted; regular = regular_wanted c.args.asked.now.number c.args.asked.now.wants }

pub returns : goal.returns
returns g c =
    let number = c.args.asked.now.number in
    let wants = c.args.asked.now.wants in
    told _ number wants _ (output_of g.K.Sink.written g.K.Sink.faults c.args.out.now) (output_of g.K.Sink.written g.K.Sink.faults c.tell.new.out) (number_of c.tell.result)
    (c.settled_is_had.ensures bench_level) c.drives_are_runs.ensures (c.turn_all.ensures (wanted number wants) c.want_all.ensures.wanted (regular_wanted number wants))
    refl c.sent.ensures c.settled_count.ensures c.agree_count.ensures c.tell.ensures
