use Rattle.std.proofs.Common.{◌≡◌, ℕ, ◌+◌, ◌-◌, ◌≤◌, ◌<◌, ◌++◌, length, slice_get, List, Some, arith, sym, ap, ◌∙◌, length-append}
use Rattle.std.specs.FinMap.{insert}
use Rattle.std.proofs.lemmas.Option.{slice_get_read}
use Rattle.plant_config.specs.declared.records.Bus.{Bus}
use Rattle.mixer_effects.specs.declared.span.Span.{Span}
use Rattle.mixer_effects.specs.Buses.{switched_at}
use Rattle.mixer_effects.specs.WiringInside.{switched_among}
use Rattle.mixer_effects.proofs.SpanLemmas.{few_switched, spans_put}
use Rattle.mixer_effects.proofs.mixers.put_switch.Goals as goal

pub overflow_cast-count : goal.overflow_cast-count
overflow_cast-count c =
    let plant = c.args.plant.now in
    let few : length plant.buses ≤ 1024 = c.buses-buses.ensures.plant.linked.buses.0.1 in
    let added = few_switched c.in-Some.switch c.buses-buses.result.now in
    let all = ap length c.buses-buses.ensures.buses in
    let many : length c.push_switched.new.out.items ≡ length c.args.switched.now.items + length (switched_among c.in-Some.switch c.buses-buses.result.now) = ap length c.in_ok-push_switched.ensures ∙ length-append c.args.switched.now.items (switched_among c.in-Some.switch c.buses-buses.result.now) in
    omega (arith, few, added, all, many, c.requires.spans.few, c.requires.number, c.len.ensures, c.push_switched.new.out.ok.0)

pub returns-clause-spans : goal.returns-clause-spans
returns-clause-spans c =
    let plant = c.args.plant.now in
    let number = c.args.number in
    let bus = c.index-buses-number.result in
    let switch = c.in-Some.switch in
    let old = c.args.switched.now.items in
    let new = c.push_switched.new.out.items in
    let within : number < length c.buses-buses.result.now = omega (arith, ap length c.buses-buses.ensures.buses, c.requires.number) in
    let at : slice_get plant.buses number ≡ Some bus = ap (λ (buses : List Bus). slice_get buses number) (sym c.buses-buses.ensures.buses) ∙ slice_get_read c.buses-buses.result.now (length c.buses-buses.result.now) number bus (omega arith) within c.index-buses-number.is in
    let few : length plant.buses ≤ 1024 = c.buses-buses.ensures.plant.linked.buses.0.1 in
    let appended : new ≡ old ++ switched_at plant switch = c.in_ok-push_switched.ensures ∙ ap (λ (buses : List Bus). old ++ switched_among switch buses) c.buses-buses.ensures.buses in
    let many = ap length appended ∙ length-append old (switched_at plant switch) in
    let first : c.len-first.result ≡ length old = omega (arith, c.len-first.ensures, c.args.switched.now.ok.0) in
    let last : c.len-first.result + (c.len.result - c.len-first.result) ≡ length new = omega (arith, first, many, c.len.ensures, c.push_switched.new.out.ok.0) in
    spans_put plant number switch bus (record { first = c.len-first.result; count = c.len.result - c.len-first.result }) c.args.spans.now.entries c.set.new.self.entries old new at few c.in-Some.is appended first last
    (c.set.ensures.entries ∙ ap (λ (switch : ℕ). insert c.args.spans.now.entries switch (let span : Span = record { first = c.len-first.result; count = c.len.result - c.len-first.result } in span)) c.get-3.ensures)
    c.requires.spans
