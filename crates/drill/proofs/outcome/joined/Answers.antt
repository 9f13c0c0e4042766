use Rattle.std.proofs.Common.{◌≡◌, ℕ, ◌+◌, ◌<◌, List, [], ◌∷◌, ◌++◌, length, take, slice_index_or, sym, ap, ◌∙◌}
use Rattle.std.proofs.lemmas.Grind.{flat_map-append}
use Rattle.std.proofs.lemmas.List.{append-nil, take_more}
use Rattle.drill.specs.declared.worker.Worker.{Worker}
use Rattle.drill.specs.WorkerInside.{traces_of}
use Rattle.drill.proofs.outcome.joined.Goals as goal

-- The traces of one worker more.
traces_more : (workers : List Worker) (at : ℕ) (worker : Worker) → at < length workers → worker ≡ slice_index_or workers at worker → traces_of (take (at + 1) workers) ≡ traces_of (take at workers) ++ worker.trace.written
traces_more workers at worker below is =
    let here : Worker = slice_index_or workers at worker in
    ap traces_of (take_more workers at worker below)
    ∙ flat_map-append (λ (worker : Worker). worker.trace.written) (take at workers) (here ∷ [])
    ∙ ap (λ (text : List ℕ). traces_of (take at workers) ++ text) (append-nil here.trace.written ∙ ap (λ (worker : Worker). worker.trace.written) (sym is))

pub loop-worker-preserved : goal.loop-worker-preserved
loop-worker-preserved c =
    let before : List ℕ = traces_of (take c.loop-worker.worker-index c.args.workers.now) in
    c.in_ok-extend_from_slice.ensures.items
    ∙ ap (λ (text : List ℕ). text ++ c.written.result.now) c.loop-worker.invariant
    ∙ ap (λ (text : List ℕ). before ++ text) c.written.ensures
    ∙ sym (traces_more c.args.workers.now c.loop-worker.worker-index c.worker-item.result c.loop-worker-test.true c.worker-item.is)
