use Rattle.std.proofs.Common.{inr, refl}
use Rattle.record_replay.specs.Monitor.{monitor_text}
use Rattle.command_rows.proofs.RowLemmas.{whole}
use Rattle.command_monitor.specs.Monitor.{MonitorEnds}
use Rattle.command_monitor.proofs.MonitorLemmas.{told_front}
use Rattle.command_monitor.proofs.row.tell.Goals as goal

pub returns-in-Ok : goal.returns-in-Ok
returns-in-Ok g c = whole (MonitorEnds c.args.stream.now) (monitor_text c.args.stream.now) _ _ (inr refl) c.in-Ok.ensures.ok c.in-Ok.ensures.count

pub returns-in-Err-OutputFault : goal.returns-in-Err-OutputFault
returns-in-Err-OutputFault g c =
    told_front c.args.stream.now c.monitor_stream.result _ _ (cc) c.monitor_stream.ensures.output_fault c.monitor_stream.ensures.count
