use Rattle.std.proofs.Common.{◌≡◌, ◌++◌, length, slice_get, Some, arith, sym, ap, ◌∙◌}
use Rattle.std.proofs.lemmas.Grind.{common_steps}
use Rattle.std.proofs.lemmas.List.{append-nil, take_all}
use Rattle.std.proofs.lemmas.Option.{slice_get_read}
use Rattle.mixer_effects.specs.WiringInside.{switched_among}
use Rattle.mixer_effects.proofs.SpanLemmas.{among_more}
use Rattle.mixer_effects.proofs.mixers.push_switched.Goals as goal

pub loop-bus-init : goal.loop-bus-init
loop-bus-init c = sym (append-nil c.args.out.now.items)

pub loop-bus-preserved : goal.loop-bus-preserved
loop-bus-preserved c =
    let bus = c.bus-item.result in
    let at : slice_get c.args.buses.now c.loop-bus.bus-index ≡ Some bus = slice_get_read c.args.buses.now (length c.args.buses.now) c.loop-bus.bus-index bus (omega arith) c.loop-bus-test.true c.bus-item.is in
    let more = among_more c.args.switch c.loop-bus.bus-index c.args.buses.now bus at in
    grind (arith, common_steps)

pub returns : goal.returns
returns c = c.loop-bus.invariant ∙ ap (λ buses. c.args.out.now.items ++ switched_among c.args.switch buses) (take_all c.loop-bus.bus-index c.args.buses.now c.loop-bus-test.false)
