use Rattle.std.proofs.Common.{◌≡◌, ℕ, Some, slice_get, subst, sym, ap, ◌∙◌}
use Rattle.tap_lists.specs.Lists.{Lists, list_of, IsNext}
use Rattle.plant_core.proofs.DueLemmas.{stay_self, stay_more, stay_then, passed_none, passed_more, passed_all, ended}
use Rattle.plant_core.proofs.due.add_taps.Goals as goal

pub loop-display-init : goal.loop-display-init
loop-display-init g c = record {
  due = stay_self c.args.plant.now c.args.due.now c.requires.due;
  at =
      c.first-at.ensures.first ∙ ap (λ (taps : Lists). slice_get (list_of taps c.get.result) 0) c.taps-taps.ensures
      ∙ ap (λ (n : ℕ). slice_get (list_of c.args.points.now.taps n) 0) c.get.ensures;
  passed = passed_none c.args.plant.now c.args.due.now (list_of c.args.points.now.taps c.args.origin);
}

pub loop-display-preserved : goal.loop-display-preserved
loop-display-preserved g c =
    let taps : Lists = c.args.points.now.taps in
    let here : slice_get (list_of taps c.args.origin) c.loop-display._display ≡ Some c.in-Some.dest = sym c.loop-display.invariant.at ∙ c.in-Some.is in
    let next : IsNext taps c.in-Some.dest c.next-at.result = subst (λ (taps : Lists). IsNext taps c.in-Some.dest c.next-at.result) c.taps-taps.ensures c.next-at.ensures.next in
    record {
      due = stay_more c.args.plant.now c.args.due.now c.loop-display.due c.add_watchers.new.self c.of.result c.loop-display.invariant.due c.add_watchers.ensures;
      at = next.behind c.args.origin c.loop-display._display here;
      passed =
          passed_more c.args.plant.now c.loop-display.due c.add_watchers.new.self (list_of taps c.args.origin) c.loop-display._display c.of.result (here ∙ ap Some (sym c.of.ensures)) c.add_watchers.ensures c.loop-display.invariant.passed;
    }

pub returns-clause-due : goal.returns-clause-due
returns-clause-due g c = stay_then c.args.plant.now c.args.due.now c.loop-display.due c.add_showing.new.due c.loop-display.invariant.due c.add_showing.ensures.due

pub returns-in_default-clause-tapped : goal.returns-in_default-clause-tapped
returns-in_default-clause-tapped g c =
    let taps : Lists = c.args.points.now.taps in
    passed_all c.args.plant.now c.loop-display.due taps c.args.origin c.loop-display._display (ended (list_of taps c.args.origin) c.loop-display._display (sym c.loop-display.invariant.at ∙ c.in_default.is)) c.loop-display.invariant.passed
