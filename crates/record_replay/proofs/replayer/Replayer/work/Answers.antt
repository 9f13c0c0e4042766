use Rattle.std.proofs.Common.{◌≡◌, rules, ℕ, false, List, [], length, sym, ◌∙◌, subst}
use Rattle.std.proofs.lemmas.List.{nil_from_length, append-nil}
use Rattle.plant_config.specs.Plant.{PlantData}
use Rattle.record_replay.specs.OutputInside.{Puts}
use Rattle.record_replay.specs.Streamed.{TakesLamps}
use Rattle.record_replay.specs.PortInside.{SendsAll, SendsUntil, LeavesNone}
use Rattle.record_replay.specs.ReplayerInside.{MayDo, DoesLine, LineHasPacket}
use Rattle.record_replay.specs.Script.{Work, lines, worked, LinesSpell}
use Rattle.record_replay.proofs.OutputLemmas.{lines_none, lines_more, lines_stay}
use Rattle.record_replay.proofs.SentLemmas.{sends_none, sends_more, sends_until}
use Rattle.record_replay.proofs.WorkScriptLemmas.{begins, rest_may, goes_on, script_done, leaves_none, script_stops}
use Rattle.record_replay.proofs.replayer.Replayer.work.Goals as goal

pub loop-out-init : goal.loop-out-init
loop-out-init g c =
    begins c.args.self.now.plant.now c.args.script.now c.args.self.now _
    (lines_none g.K.Drain.written g.K.Drain.faults c.args.out.now, sends_none g.P.DisplayPort.was_sent g.P.DisplayPort.faults c.args.port.now)

pub work_first-requires-clause-names : goal.work_first-requires-clause-names
work_first-requires-clause-names g c =
    let may = c.requires.may in
    let way = c.loop-out.invariant may.stand may.used c.requires.spelled.0 may.stands may.within c.requires.spelled.1 in
    let names = c.requires.names ∙ sym way.stands.plant_is in search rules

pub work_first-requires-clause-may : goal.work_first-requires-clause-may
work_first-requires-clause-may g c =
    let may = c.requires.may in
    let way = c.loop-out.invariant may.stand may.used c.requires.spelled.0 may.stands may.within c.requires.spelled.1 in
    let more = subst (λ (plant : PlantData). MayDo (length c.loop-out.rest.now) plant c.loop-out.self) (sym way.stands.plant_is)
    (rest_may c.args.self.now.plant.now _ _ _ c.loop-out.rest.now c.loop-out.self _ may.within way) in search rules

pub work_first-requires-clause-spelled : goal.work_first-requires-clause-spelled
work_first-requires-clause-spelled g c =
    let may = c.requires.may in
    let way = c.loop-out.invariant may.stand may.used c.requires.spelled.0 may.stands may.within c.requires.spelled.1 in
    let Spelled : PlantData → Type 0 = λ plant. (works : List Work) × LinesSpell plant (worked (lines c.loop-out.rest.now)) works in
    let spelled = subst Spelled (sym way.stands.plant_is) (way.left, way.spelled) in search rules

pub work_first-requires-clause-takes : goal.work_first-requires-clause-takes
work_first-requires-clause-takes g c =
    let may = c.requires.may in
    let way = c.loop-out.invariant may.stand may.used c.requires.spelled.0 may.stands may.within c.requires.spelled.1 in
    let takes = subst (λ (plant : PlantData). TakesLamps plant g.P.DisplayPort.takes) (sym way.stands.plant_is) c.requires.takes in search rules

pub returns-in_default-clause-same_sink : goal.returns-in_default-clause-same_sink
returns-in_default-clause-same_sink g c =
    let may = c.requires.may in
    let way = c.loop-out.invariant may.stand may.used c.requires.spelled.0 may.stands may.within c.requires.spelled.1 in
    c.in_default.ensures.4.same_sink ∙ way.put.0.same_sink

pub returns-in_default-clause-stops : goal.returns-in_default-clause-stops
returns-in_default-clause-stops g c =
    let may = c.requires.may in
    let way = c.loop-out.invariant may.stand may.used c.requires.spelled.0 may.stands may.within c.requires.spelled.1 in
    let stop = c.in_default.ensures in
    script_stops c.args.self.now.plant.now c.args.script.now c.loop-out.rest.now stop.0 stop.1 c.args.self.now c.loop-out.self _ _
    (λ earlier text packets far. (
      lines_stay g.K.Drain.written g.K.Drain.faults earlier text c.args.out.now c.loop-out.out c.work_first.new.out far.0 stop.4,
      subst (λ (all : List (List ℕ)). SendsUntil g.P.DisplayPort.was_sent g.P.DisplayPort.faults all c.args.port.now c.work_first.new.port) (append-nil packets)
          (sends_until g.P.DisplayPort.was_sent g.P.DisplayPort.faults packets [] c.args.port.now c.loop-out.port c.work_first.new.port far.1 stop.5),
    ))
    stop.2.lines_are c.loop-out.invariant (subst (λ (plant : PlantData). LineHasPacket plant stop.0 c.loop-out.self) way.stands.plant_is stop.3)

pub loop-out-preserved : goal.loop-out-preserved
loop-out-preserved g c =
    let may = c.requires.may in
    let way = c.loop-out.invariant may.stand may.used c.requires.spelled.0 may.stands may.within c.requires.spelled.1 in
    let done = c.in-Some.ensures in
    let unfailed : c.loop-out.out.failed ≡ false = let failed = c.failed.ensures in let on = c.if-not-failed.true in cc in
    let Put : List ℕ → List (List ℕ) → Type 0 = λ text packets. Puts g.K.Drain.written g.K.Drain.faults text c.loop-out.out c.work_first.new.out
    × SendsAll g.P.DisplayPort.was_sent g.P.DisplayPort.faults packets c.loop-out.port c.work_first.new.port in
    goes_on c.args.self.now.plant.now c.args.script.now c.loop-out.rest.now done.0 c.in-Some.behind.now c.args.self.now c.loop-out.self c.work_first.new.self _ Put _
    (λ earlier text more packets others far here. (
      lines_more g.K.Drain.written g.K.Drain.faults earlier text more c.args.out.now c.loop-out.out c.work_first.new.out unfailed far.0 here.0,
      sends_more g.P.DisplayPort.was_sent g.P.DisplayPort.faults packets others c.args.port.now c.loop-out.port c.work_first.new.port far.1 here.1,
    ))
    done.1.lines_are done.1.within c.loop-out.invariant (subst (λ (plant : PlantData). DoesLine plant done.0 c.loop-out.self c.work_first.new.self Put) way.stands.plant_is done.2)

pub returns-else-not-failed-clause-same_sink : goal.returns-else-not-failed-clause-same_sink
returns-else-not-failed-clause-same_sink g c =
    let may = c.requires.may in
    (c.loop-out.invariant may.stand may.used c.requires.spelled.0 may.stands may.within c.requires.spelled.1).put.0.same_sink

pub returns-else-not-failed-clause-does : goal.returns-else-not-failed-clause-does
returns-else-not-failed-clause-does g c =
    script_done c.args.self.now.plant.now c.args.script.now c.loop-out.rest.now c.args.self.now c.loop-out.self (LeavesNone c.loop-out.out.failed) _ c.loop-out.invariant
    (λ stand left spelled on. let failed = c.failed.ensures in let yes = c.if-not-failed.false in absurd cc)

pub returns-after-loop-out-clause-same_sink : goal.returns-after-loop-out-clause-same_sink
returns-after-loop-out-clause-same_sink g c =
    let may = c.requires.may in
    (c.loop-out.invariant may.stand may.used c.requires.spelled.0 may.stands may.within c.requires.spelled.1).put.0.same_sink

pub returns-after-loop-out-clause-does : goal.returns-after-loop-out-clause-does
returns-after-loop-out-clause-does g c =
    script_done c.args.self.now.plant.now c.args.script.now c.loop-out.rest.now c.args.self.now c.loop-out.self (LeavesNone c.loop-out.out.failed) _ c.loop-out.invariant
    (λ stand left spelled on. leaves_none c.args.self.now.plant.now c.loop-out.rest.now left (nil_from_length c.loop-out.rest.now (search rules)) spelled)
