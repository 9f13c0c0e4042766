-- How the telling of a stream ends.
use Rattle.std.proofs.Common.{◌≡◌, ℕ, inr, List, Result, Err, refl, subst}
use Rattle.ctl_io.specs.Faults.{count_after}
use Rattle.ctl_io.specs.Sink.{AppendsPart}
use Rattle.record_replay.specs.declared.monitor.MonitorFault.{MonitorFault}
use Rattle.record_replay.specs.declared.monitor.MonitorFault.TheVariants as faults
use Rattle.record_replay.specs.Monitor.{monitor_text, monitor_failed}
use Rattle.command_rows.specs.Moment.{Output}
use Rattle.command_rows.specs.Row.{EndsAlone}
use Rattle.command_rows.proofs.RowLemmas.{cut}
use Rattle.command_monitor.specs.Monitor.{MonitorEnds}

-- a write failed behind a front of its lines
pub told_front : {A : Type 0} (stream : List ℕ) (told : Result A MonitorFault) (before now : Output) → told ≡ Err faults.OutputFault
    → (told ≡ Err faults.OutputFault → AppendsPart (monitor_text stream) before.written now.written) → now.faults ≡ count_after (monitor_failed told) before.faults
    → EndsAlone (MonitorEnds stream) before now 7
told_front {A} stream told before now is front count =
    cut (MonitorEnds stream) (monitor_text stream) before now (inr refl) (front is) (subst (λ (t : Result A MonitorFault). now.faults ≡ count_after (monitor_failed t) before.faults) is count)
