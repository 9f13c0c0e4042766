use Rattle.std.proofs.Common.{◌≡◌, ◌+◌, ◌<◌, Some, None, length, get_or, set, subst, sym, ap, ◌∙◌, arith, length-set}
use Rattle.std.proofs.lemmas.List.{get_or_read}
use Rattle.std.proofs.lemmas.Option.{slice_get-get_or}
use Rattle.std.specs.Option.{option_and_then}
use Rattle.plant_config.specs.declared.records.Display.{Display}
use Rattle.due_displays.specs.Watchers.{AreWatchersBelow, watch_of}
use Rattle.due_displays.proofs.TableLemmas.{watch_below}
use Rattle.due_displays.proofs.WatcherLemmas.{watchers_more}
use Rattle.due_displays.proofs.watchers.Watchers.new.Goals as goal

pub index-requires : goal.index-requires
index-requires c =
    let displays = c.args.plant.now.displays in
    let all = c.displays-displays.ensures.displays in
    let d : Display = c.index-displays-number.result in
    let within : c.loop-number.number < length displays = omega (arith, c.loop-number-test.true, ap length all) in
    let at : d ≡ get_or displays c.loop-number.number d = c.index-displays-number.is ∙ ap (λ list. get_or list c.loop-number.number d) all in
    let watch : c.get-watch.result ≡ d.watch = c.get-watch.ensures ∙ ap (λ (d : Display). d.watch) (sym c.index-displays-number.is) in
    omega (arith, watch, watch_below c.args.plant.now c.requires c.loop-number.number d within at, c.loop-number.invariant.many, c.loop-number.lasts.ok.0)

pub index_mut-requires : goal.index_mut-requires
index_mut-requires c =
    let displays = c.args.plant.now.displays in
    let all = c.displays-displays.ensures.displays in
    let d : Display = c.index-displays-number.result in
    let within : c.loop-number.number < length displays = omega (arith, c.loop-number-test.true, ap length all) in
    let at : d ≡ get_or displays c.loop-number.number d = c.index-displays-number.is ∙ ap (λ list. get_or list c.loop-number.number d) all in
    let watch : c.get-watch.result ≡ d.watch = c.get-watch.ensures ∙ ap (λ (d : Display). d.watch) (sym c.index-displays-number.is) in
    omega (arith, watch, watch_below c.args.plant.now c.requires c.loop-number.number d within at, c.loop-number.invariant.many, c.loop-number.lasts.ok.0)

pub loop-number-preserved : goal.loop-number-preserved
loop-number-preserved c =
    let displays = c.args.plant.now.displays in
    let all = c.displays-displays.ensures.displays in
    let d : Display = c.index-displays-number.result in
    let within : c.loop-number.number < length displays = omega (arith, c.loop-number-test.true, ap length all) in
    let at : d ≡ get_or displays c.loop-number.number d = c.index-displays-number.is ∙ ap (λ list. get_or list c.loop-number.number d) all in
    let watch : c.get-watch.result ≡ d.watch = c.get-watch.ensures ∙ ap (λ (d : Display). d.watch) (sym c.index-displays-number.is) in
    let inside : c.get-watch.result < length c.loop-number.lasts.items = omega (arith, watch, watch_below c.args.plant.now c.requires c.loop-number.number d within at, c.loop-number.invariant.many) in
    let here : watch_of displays c.loop-number.number ≡ Some c.get-watch.result =
    ap (option_and_then (λ (d : Display). Some d.watch)) (slice_get-get_or displays c.loop-number.number d within ∙ ap Some (sym at)) ∙ ap Some (sym watch) in
    record {
      many = length-set c.loop-number.lasts.items c.get-watch.result (Some c.loop-number.number) ∙ c.loop-number.invariant.many;
      below =
          subst (AreWatchersBelow displays (c.loop-number.number + 1) (set c.loop-number.lasts.items c.get-watch.result (Some c.loop-number.number))) (sym c.in_ok-push.ensures.items)
          (watchers_more displays c.loop-number.number c.get-watch.result c.loop-number.lasts.items c.loop-number.befores.items c.index.result.now here inside
          (get_or_read c.loop-number.lasts.items c.get-watch.result c.index.result.now inside c.index.ensures None) c.loop-number.invariant.below);
    }

pub returns : goal.returns
returns c =
    let all : c.loop-number.number ≡ length c.args.plant.now.displays = omega (arith, c.loop-number-test.false, c.loop-number.auto.number-end, ap length c.displays-displays.ensures.displays) in
    subst (λ n. AreWatchersBelow c.args.plant.now.displays n c.loop-number.lasts.items c.loop-number.befores.items) all c.loop-number.invariant.below
