use Rattle.std.proofs.Common.{◌<◌, suc, length, subst, sym, ap, ◌∙◌, arith}
use Rattle.std.specs.Option.{option_map_or}
use Rattle.due_displays.specs.Watchers.{IsLastWatcher, value_at}
use Rattle.due_displays.specs.Due.{Due}
use Rattle.due_displays.proofs.WatcherLemmas.{passed, passed_none, watch_within, smaller_next}
use Rattle.due_displays.proofs.BecomeLemmas.{become_first, become_more, become_all}
use Rattle.due_displays.proofs.due_displays.DueDisplays.add_watchers.Goals as goal

pub loop-found-init : goal.loop-found-init
loop-found-init c =
    let plant = c.args.plant.now in
    let found = c.last-found.ensures ∙ ap (λ (due : Due). value_at due.lasts c.args.dest) c.self.view_is in
    let last : IsLastWatcher plant.displays c.args.dest (length plant.displays) c.last-found.result = subst (IsLastWatcher plant.displays c.args.dest (length plant.displays)) (sym found) (c.requires.watched.last c.args.dest) in
    record {
      watch = λ number at. (last.is number at).1;
      become = become_first plant c.args.self.now (passed plant c.args.dest c.last-found.result) c.requires (passed_none plant c.args.dest c.last-found.result last);
    }

pub add-requires-clause-display : goal.add-requires-clause-display
add-requires-clause-display c =
    omega (arith, c.of.ensures, watch_within c.args.plant.now.displays c.in-Some.number c.args.dest (c.loop-found.invariant.watch c.in-Some.number c.in-Some.is))

pub loop-found-smaller : goal.loop-found-smaller
loop-found-smaller c =
    let plant = c.args.plant.now in
    let at = c.loop-found.invariant.watch c.in-Some.number c.in-Some.is in
    let found = c.before-found.ensures ∙ ap (λ (due : Due). value_at due.befores c.in-Some.number) c.self-in-Some.view_is in
    let next : IsLastWatcher plant.displays c.args.dest c.in-Some.number c.before-found.result =
    subst (IsLastWatcher plant.displays c.args.dest c.in-Some.number) (sym found) (c.loop-found.invariant.become.kept.watched.before c.in-Some.number c.args.dest (watch_within plant.displays c.in-Some.number c.args.dest at) at) in
    subst (λ found. option_map_or (λ number. suc number) c.before-found.result 0 < option_map_or (λ number. suc number) found 0) (sym c.in-Some.is) (smaller_next plant.displays c.args.dest c.in-Some.number c.before-found.result next)

pub loop-found-preserved : goal.loop-found-preserved
loop-found-preserved c =
    let plant = c.args.plant.now in
    let at = c.loop-found.invariant.watch c.in-Some.number c.in-Some.is in
    let found = c.before-found.ensures ∙ ap (λ (due : Due). value_at due.befores c.in-Some.number) c.self-in-Some.view_is in
    let next : IsLastWatcher plant.displays c.args.dest c.in-Some.number c.before-found.result =
    subst (IsLastWatcher plant.displays c.args.dest c.in-Some.number) (sym found) (c.loop-found.invariant.become.kept.watched.before c.in-Some.number c.args.dest (watch_within plant.displays c.in-Some.number c.args.dest at) at) in
    record {
      watch = λ number here. (next.is number here).1;
      become =
          become_more plant c.args.self.now c.loop-found.self c.add.new.self c.args.dest c.in-Some.number c.of.result c.loop-found.found c.before-found.result c.in-Some.is c.of.ensures at next c.loop-found.invariant.become c.add.ensures;
    }

pub returns : goal.returns
returns c = become_all c.args.plant.now c.args.self.now c.loop-found.self c.args.dest c.loop-found.found c.in_default.is c.loop-found.invariant.become
