use Rattle.std.proofs.Common.{◌≡◌, ◌+◌, slice_index_or, sym, ap, ◌∙◌, subst}
use Rattle.panel_server.specs.declared.sums.Sums.{Sums}
use Rattle.panel_server.specs.declared.worker.Worker.{Worker}
use Rattle.panel_server.specs.ServeInside.{AreFew, CountsFew, with_worker}
use Rattle.panel_server.specs.Workers.{worker_shows}
use Rattle.panel_server.proofs.SumLemmas.{few_next, sums_next}
use Rattle.panel_server.proofs.sums.add_up.Goals as goal

pub add_worker-requires-clause-done : goal.add_worker-requires-clause-done
add_worker-requires-clause-done g c κs within =
    let shows = worker_shows g.A.Acceptor.shows g.P.DisplayPort.opening g.K.Sink.name g.K.Sink.written g.K.Sink.faults in
    subst (λ (worker : Worker g.row.A.Denot g.row.P.Denot g.row.K.Denot). CountsFew (shows worker)) (sym c.index-workers-place.is)
    (c.requires.done c.loop-place.place c.index-workers-place.result c.loop-place-test.true)

pub loop-place-preserved : goal.loop-place-preserved
loop-place-preserved g c =
    let shows = worker_shows g.A.Acceptor.shows g.P.DisplayPort.opening g.K.Sink.name g.K.Sink.written g.K.Sink.faults in
    let place = c.loop-place.place in
    let workers = c.args.workers.now in
    let other = c.index-workers-place.result in
    let one = shows (slice_index_or workers place other) in
    let more : c.add_worker.new.self ≡ with_worker place one c.loop-place.sums = c.add_worker.ensures
    ∙ ap (λ (worker : Worker g.row.A.Denot g.row.P.Denot g.row.K.Denot). with_worker place (shows worker) c.loop-place.sums) c.index-workers-place.is in
    record {
      sums = sums_next shows place workers other c.loop-place.sums c.add_worker.new.self c.loop-place-test.true c.loop-place.invariant.sums more;
      few = subst (λ (sums : Sums). AreFew (place + 1) sums) (sym more) (few_next place one c.loop-place.sums c.loop-place.invariant.few (c.requires.done place other c.loop-place-test.true));
    }
