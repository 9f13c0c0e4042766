use Rattle.std.proofs.Common.{rules, length, refl, subst, arith}
use Rattle.std.proofs.lemmas.Bool.{OnTrue_at, OnTrue_from, OnFalse_at, OnFalse_from}
use Rattle.record_replay.specs.declared.line.Line as code
use Rattle.record_replay.specs.LineInside.{IsFound}
use Rattle.record_replay.specs.OutputInside.{Puts}
use Rattle.record_replay.specs.OutputLaws.{Puts-none}
use Rattle.record_replay.specs.Script.{Read, Leave}
use Rattle.record_replay.proofs.NeedLemmas.{need_within}
use Rattle.record_replay.proofs.SentLemmas.{sends_none, does_unsent}
use Rattle.record_replay.proofs.WorkLineLemmas.{may_less, does_line, does_nothing, line_has}
use Rattle.record_replay.proofs.replayer.Replayer.work_found.Goals as goal

pub returns-in-Skipped-clause-does : goal.returns-in-Skipped-clause-does
returns-in-Skipped-clause-does g c = λ line is.
    let At : code.Line → Type 0 = λ found. IsFound c.args.self.now.plant.now line found c.args.bytes.now in
    does_nothing c.args.self.now.plant.now line c.args.self.now _ (subst At c.in-Skipped.is is)
    (Puts-none g.K.Drain.written g.K.Drain.faults c.args.out.now, sends_none g.P.DisplayPort.was_sent g.P.DisplayPort.faults c.args.port.now)

pub turn-requires-clause-panel : goal.turn-requires-clause-panel
turn-requires-clause-panel g c =
    let At : code.Line → Type 0 = λ found. IsFound c.args.self.now.plant.now c.requires.found.0 found c.args.bytes.now in
    (subst At c.in-Read.is c.requires.found.1).1.of_plant

pub turn-requires-clause-may : goal.turn-requires-clause-may
turn-requires-clause-may g c =
    let At : code.Line → Type 0 = λ found. IsFound c.args.self.now.plant.now c.requires.found.0 found c.args.bytes.now in
    let work = subst At c.in-Read.is c.requires.found.1 in
    may_less _ _ c.args.self.now.plant.now c.args.self.now (need_within c.args.self.now.plant.now c.requires.found.0 _ work.1) c.requires.found.2

pub returns-in-Read-clause-does : goal.returns-in-Read-clause-does
returns-in-Read-clause-does g c = λ line is.
    let At : code.Line → Type 0 = λ found. IsFound c.args.self.now.plant.now line found c.args.bytes.now in
    let work = subst At c.in-Read.is is in
    does_line c.args.self.now.plant.now line _ c.args.self.now _ _ work.0 work.1
    (does_unsent g.P.DisplayPort.was_sent g.P.DisplayPort.faults c.args.port.now c.args.self.now.plant.now (Read _ c.args.bytes.now) c.args.self.now c.turn.new.self
    (λ text. Puts g.K.Drain.written g.K.Drain.faults text c.args.out.now c.turn.new.out) (λ stand. refl) c.turn.ensures)

pub leave-requires-clause-panel : goal.leave-requires-clause-panel
leave-requires-clause-panel g c =
    let At : code.Line → Type 0 = λ found. IsFound c.args.self.now.plant.now c.requires.found.0 found c.args.bytes.now in
    (subst At c.in-Leave.is c.requires.found.1).1.of_plant

pub leave-requires-clause-may : goal.leave-requires-clause-may
leave-requires-clause-may g c =
    let At : code.Line → Type 0 = λ found. IsFound c.args.self.now.plant.now c.requires.found.0 found c.args.bytes.now in
    let work = subst At c.in-Leave.is c.requires.found.1 in
    may_less _ _ c.args.self.now.plant.now c.args.self.now (need_within c.args.self.now.plant.now c.requires.found.0 _ work.1) c.requires.found.2

pub returns-in-Leave-clause-does : goal.returns-in-Leave-clause-does
returns-in-Leave-clause-does g c = λ line is.
    let At : code.Line → Type 0 = λ found. IsFound c.args.self.now.plant.now line found c.args.bytes.now in
    let work = subst At c.in-Leave.is is in
    does_line c.args.self.now.plant.now line _ c.args.self.now _ _ work.0 work.1
    (does_unsent g.P.DisplayPort.was_sent g.P.DisplayPort.faults c.args.port.now c.args.self.now.plant.now (Leave _) c.args.self.now c.leave.new.self
    (λ text. Puts g.K.Drain.written g.K.Drain.faults text c.args.out.now c.leave.new.out) (λ stand. refl) c.leave.ensures)

pub show-requires-clause-screen : goal.show-requires-clause-screen
show-requires-clause-screen g c =
    let At : code.Line → Type 0 = λ found. IsFound c.args.self.now.plant.now c.requires.found.0 found c.args.bytes.now in
    let screen = (subst At c.in-Show.is c.requires.found.1).1.of_plant in search rules

pub show-requires-clause-may : goal.show-requires-clause-may
show-requires-clause-may g c =
    let may = may_less 0 (length c.requires.found.0) c.args.self.now.plant.now c.args.self.now (omega arith) c.requires.found.2 in search rules

pub returns-in-Show-clause-does : goal.returns-in-Show-clause-does
returns-in-Show-clause-does g c = OnTrue_from c.show.result _ (λ yes line is.
    let At : code.Line → Type 0 = λ found. IsFound c.args.self.now.plant.now line found c.args.bytes.now in
    let work = subst At c.in-Show.is is in
    does_line c.args.self.now.plant.now line _ c.args.self.now _ _ work.0 work.1 (OnTrue_at yes c.show.ensures.does))

pub returns-in-Show-clause-stops : goal.returns-in-Show-clause-stops
returns-in-Show-clause-stops g c = OnFalse_from c.show.result _ (λ no.
    let stops = OnFalse_at no c.show.ensures.stops in (
      (λ line is.
          let At : code.Line → Type 0 = λ found. IsFound c.args.self.now.plant.now line found c.args.bytes.now in
          let work = subst At c.in-Show.is is in
          line_has c.args.self.now.plant.now line _ c.args.self.now work.0 work.1 stops.0),
      stops.1,
      stops.2,
    ))
