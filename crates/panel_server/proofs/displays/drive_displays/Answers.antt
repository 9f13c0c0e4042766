use Rattle.std.proofs.Common.{refl}
use Rattle.panel_server.specs.declared.displays.DriverEnd.TheVariants.{NoMemory}
use Rattle.panel_server.specs.DrivenInside.{outside}
use Rattle.panel_server.proofs.BeginLemmas.{driven_nothing}
use Rattle.panel_server.proofs.displays.drive_displays.Goals as goal

pub returns-in-Err-clause-driven : goal.returns-in-Err-clause-driven
returns-in-Err-clause-driven g c =
    driven_nothing g.P.DisplayPort.was_sent g.P.DisplayPort.faults c.args.plant.now NoMemory
    (outside c.args.seat.now c.args.port.now (g.K.Sink.written c.args.trace.now) (g.K.Sink.faults c.args.trace.now))
    refl refl refl refl
