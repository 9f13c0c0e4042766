use Rattle.std.proofs.Common.{ℕ, ◌%◌, ◌^◌, ◌∙◌, List, length, refl, ap}
use Rattle.std.specs.List.{sum_by}
use Rattle.drill.specs.WorkerInside.{traces_of}
use Rattle.drill.specs.declared.worker.Worker.{Worker}
use Rattle.drill.proofs.DoneLemmas.{gathered, may_close_all, may_close_own}
use Rattle.drill.proofs.outcome.gather.Goals as goal

pub past_of-past-requires-clause-own : goal.past_of-past-requires-clause-own
past_of-past-requires-clause-own c =
    may_close_own c.args.load.now c.args.lock c.args.workers.items c.requires.count c.requires.served c.requires.some c.in_ok-seats.seats.items c.in_ok-seats.ensures

pub past_of-past-requires-clause-all : goal.past_of-past-requires-clause-all
past_of-past-requires-clause-all c =
    may_close_all c.args.load.now c.args.lock c.args.workers.items c.requires.count c.requires.served c.requires.some c.in_ok-seats.seats.items c.in_ok-seats.ensures c.args.lock.seats c.requires.seats

pub returns : goal.returns
returns c =
    let Sum : List Worker → ℕ = λ workers. sum_by (λ (worker : Worker). worker.goods) workers % 2 ^ 64 in
    let Bads : List Worker → ℕ = λ workers. sum_by (λ (worker : Worker). worker.bads) workers % 2 ^ 64 in
    gathered c.args.load.now c.args.lock c.args.workers.items c.requires.count c.requires.served c.requires.some c.in_ok-seats.seats.items c.in_ok-seats.ensures c.messages_ask_the_plant.ensures c.requires.most c.requires.each _
    c.args.lock.first (length c.past_of-past.result) c.args.lock.seats (c.goods_of-goods.ensures ∙ ap Sum c.as_slice.ensures.value) (c.bads_of-bads.ensures ∙ ap Bads c.as_slice-2.ensures.value)
    (c.in_ok-trace.ensures ∙ ap traces_of c.as_slice-3.ensures.value) c.requires.first c.requires.seats c.past_of-past.ensures.legal refl c.past_of-past.ensures.few c.past_of-past.ensures.seen c.past_of-past.ensures.own c.past_of-past.ensures.full c.past_of-past.ensures.by_seats
