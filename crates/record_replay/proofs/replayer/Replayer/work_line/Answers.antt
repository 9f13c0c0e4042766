use Rattle.std.proofs.Common.{ℕ, List, sym, subst}
use Rattle.std.proofs.lemmas.Bool.{OnFalse_at, OnFalse_from}
use Rattle.record_replay.specs.LineInside.{IsFound}
use Rattle.record_replay.proofs.WorkLineLemmas.{works_bad}
use Rattle.record_replay.proofs.replayer.Replayer.work_line.Goals as goal

pub returns-in-Some-clause-stops : goal.returns-in-Some-clause-stops
returns-in-Some-clause-stops g c = OnFalse_from c.work_found.result _ (λ no.
    let stops = OnFalse_at no c.work_found.ensures.stops in
    let Found : List ℕ → Type 0 = λ bytes. IsFound c.args.self.now.plant.now c.args.line.now c.in-Some.found bytes in
    (stops.0 c.args.line.now (subst Found (sym c.bytes.ensures) c.in-Some.ensures), stops.1, stops.2))

pub returns-in-None-clause-does : goal.returns-in-None-clause-does
returns-in-None-clause-does g c = λ stand used works stands within spelled. absurd (works_bad c.args.self.now.plant.now c.args.line.now works c.in-None.ensures spelled)
