use Rattle.std.proofs.Common.{sym, subst}
use denote.Exit.{no}
use denote.Param.Send.{param_send, param_sync, arg_send, arg_sync}
use Rattle.panel_server.specs.Workers.{MayWork, worker_shows}
use Rattle.panel_server.proofs.workers.all_work.Goals as goal

pub for_each_mut-requires-clause-accepts : goal.for_each_mut-requires-clause-accepts
for_each_mut-requires-clause-accepts g c κs within i p below is = (
  subst (λ worker. MayWork g.P.DisplayPort.takes c.args.plant.now c.args.lock.now
      (worker_shows g.A.Acceptor.shows g.P.DisplayPort.opening g.K.Sink.name g.K.Sink.written g.K.Sink.faults worker))
      (sym is) (c.requires.may i p.now below),
  let sends = c.type_bounds in (
    param_send 1 _ (arg_send _ no _ sends.send-A),
    param_send 2 _ (arg_send _ no _ sends.send-P),
    param_send 4 _ (arg_send _ no _ sends.send-K),
    param_send 5 _ (arg_send _ no _ sends.send-A-L),
    param_sync 0 _ (arg_sync _ no _ sends.sync-W),
    param_sync 3 _ (arg_sync _ no _ sends.sync-G),
  ),
)
