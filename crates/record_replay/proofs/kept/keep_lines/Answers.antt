use Rattle.std.proofs.Common.{◌≡◌, rules, ℕ, List, [], Ok, Err, length, refl, sym, ◌∙◌, ap, subst, arith}
use Rattle.std.proofs.lemmas.Bool.{eqb-true, eqb-false}
use Rattle.std.proofs.lemmas.List.{nil_from_length}
use Rattle.plant_config.specs.Plant.{PlantData}
use Rattle.plant_core.specs.State.{State}
use Rattle.plant_snapshot.specs.Store.{disk_of, IsStoreOf}
use Rattle.record_replay.specs.Script.{Work, lines, worked, LinesSpell}
use Rattle.record_replay.specs.ReplayerInside.{MayDo}
use Rattle.record_replay.proofs.UnwrittenLemmas.{does_here}
use Rattle.record_replay.proofs.KeptStart.{begins}
use Rattle.record_replay.proofs.KeptLine.{plant_then, passed, one_more}
use Rattle.record_replay.proofs.KeptSave.{saves_at, goes_on, line_stops}
use Rattle.record_replay.proofs.KeptEnd.{runs_out, all_kept}
use Rattle.record_replay.proofs.kept.keep_lines.Goals as goal

pub loop-rest-init : goal.loop-rest-init
loop-rest-init g c = record {
  keeping = begins g.D.Disk.size g.D.Disk.contents g.D.Disk.may_leave g.D.Disk.moment g.D.Disk.left_since g.D.Disk.faults g.D.Disk.name
      c.args.replayer.now.plant.now c.args.script.now c.args.replayer.now.state c.args.store (g.K.Sink.written c.args.out.now)
      c.requires.store c.requires.stands (g.met.D.Disk.only_now (disk_of c.args.store)) c.args.replayer.now c.requires.form c.requires.begun refl;
  count = refl;
}

pub work_in_memory-requires-clause-names : goal.work_in_memory-requires-clause-names
work_in_memory-requires-clause-names g c =
    let names = c.requires.names ∙ sym c.loop-rest.invariant.keeping.stands.plant_is in search rules

pub work_in_memory-requires-clause-may : goal.work_in_memory-requires-clause-may
work_in_memory-requires-clause-may g c =
    let keeping = c.loop-rest.invariant.keeping in
    let more = subst (λ (plant : PlantData). MayDo (length c.loop-rest.rest.now) plant c.loop-rest.replayer) (sym keeping.stands.plant_is)
    (record { stand = keeping.keeps.has.stand; used = keeping.used; stands = keeping.stands; within = omega (arith, keeping.within) }) in search rules

pub work_in_memory-requires-clause-spelled : goal.work_in_memory-requires-clause-spelled
work_in_memory-requires-clause-spelled g c =
    let keeping = c.loop-rest.invariant.keeping in
    let Spelled : PlantData → Type 0 = λ plant. (works : List Work) × LinesSpell plant (worked (lines c.loop-rest.rest.now)) works in
    let spelled = subst Spelled (sym keeping.stands.plant_is) (keeping.left, keeping.spelled) in search rules

pub returns-in_default-clause-keeps : goal.returns-in_default-clause-keeps
returns-in_default-clause-keeps g c =
    runs_out g.D.Disk.size g.D.Disk.contents g.D.Disk.may_leave g.D.Disk.moment g.D.Disk.left_since g.D.Disk.faults g.D.Disk.name
    c.args.replayer.now.plant.now c.args.script.now c.args.replayer.now.state c.args.store (g.K.Sink.written c.args.out.now)
    (g.K.Sink.written c.loop-rest.out) c.loop-rest.rest.now c.work_in_memory.new.self.state c.loop-rest.replayer c.loop-rest.store c.loop-rest.invariant.keeping

pub loop-rest-preserved-then-is_empty : goal.loop-rest-preserved-then-is_empty
loop-rest-preserved-then-is_empty g c =
    let keeping = c.loop-rest.invariant.keeping in
    let first = c.in-Some.ensures in
    let does = does_here c.args.replayer.now.plant.now c.loop-rest.replayer.plant.now first.0 c.loop-rest.replayer c.work_in_memory.new.self c.bytes-text.result.now c.work_in_memory.new.line.text keeping.stands.plant_is c.bytes-text.ensures first.2 in
    let none = nil_from_length c.bytes-text.result.now (eqb-true (length c.bytes-text.result.now) 0 (sym c.is_empty-in-loop-rest.ensures ∙ c.if-is_empty.true)) in
    record {
      keeping = passed g.D.Disk.size g.D.Disk.contents g.D.Disk.may_leave g.D.Disk.moment g.D.Disk.left_since g.D.Disk.faults g.D.Disk.name
          c.args.replayer.now.plant.now c.args.script.now c.args.replayer.now.state c.args.store (g.K.Sink.written c.args.out.now)
          (g.K.Sink.written c.loop-rest.out) c.loop-rest.rest.now first.0 c.in-Some.behind.now c.bytes-text.result.now c.loop-rest.replayer c.work_in_memory.new.self c.loop-rest.store (omega arith) first.1 keeping does none;
      count = c.loop-rest.invariant.count;
    }

pub keep_line-requires-after_bounds : goal.keep_line-requires-after_bounds
keep_line-requires-after_bounds g c κs within =
    let keeping = c.loop-rest.invariant.keeping in
    let first = c.in-Some.ensures in
    let does = does_here c.args.replayer.now.plant.now c.loop-rest.replayer.plant.now first.0 c.loop-rest.replayer c.work_in_memory.new.self c.bytes-text.result.now c.work_in_memory.new.line.text keeping.stands.plant_is c.bytes-text.ensures first.2 in
    let plant_is = plant_then g.D.Disk.size g.D.Disk.contents g.D.Disk.may_leave g.D.Disk.moment g.D.Disk.left_since g.D.Disk.faults g.D.Disk.name c.args.replayer.now.plant.now c.args.script.now c.args.replayer.now.state c.args.store (g.K.Sink.written c.args.out.now) (g.K.Sink.written c.loop-rest.out) c.loop-rest.rest.now first.0 c.in-Some.behind.now c.bytes-text.result.now c.loop-rest.replayer c.work_in_memory.new.self c.loop-rest.store (omega arith) first.1 keeping does in
    subst (λ (plant : PlantData). IsStoreOf g.D.Disk.size g.D.Disk.contents g.D.Disk.may_leave plant c.loop-rest.store) (sym (ap (λ (s : State). s.plant) c.state.ensures ∙ plant_is)) keeping.of_plant

pub returns-in-Err-clause-keeps : goal.returns-in-Err-clause-keeps
returns-in-Err-clause-keeps g c =
    let keeping = c.loop-rest.invariant.keeping in
    let first = c.in-Some.ensures in
    let does = does_here c.args.replayer.now.plant.now c.loop-rest.replayer.plant.now first.0 c.loop-rest.replayer c.work_in_memory.new.self c.bytes-text.result.now c.work_in_memory.new.line.text keeping.stands.plant_is c.bytes-text.ensures first.2 in
    let some : c.bytes-text.result.now ≡ [] → ⊥ = λ none. eqb-false (length c.bytes-text.result.now) 0 (sym c.is_empty-in-loop-rest.ensures ∙ c.if-is_empty.false) (ap (length {A = ℕ}) none) in
    let plant_is = plant_then g.D.Disk.size g.D.Disk.contents g.D.Disk.may_leave g.D.Disk.moment g.D.Disk.left_since g.D.Disk.faults g.D.Disk.name c.args.replayer.now.plant.now c.args.script.now c.args.replayer.now.state c.args.store (g.K.Sink.written c.args.out.now) (g.K.Sink.written c.loop-rest.out) c.loop-rest.rest.now first.0 c.in-Some.behind.now c.bytes-text.result.now c.loop-rest.replayer c.work_in_memory.new.self c.loop-rest.store (omega arith) first.1 keeping does in
    let more = one_more g.D.Disk.size g.D.Disk.contents g.D.Disk.may_leave g.D.Disk.moment g.D.Disk.left_since g.D.Disk.faults g.D.Disk.name c.args.replayer.now.plant.now c.args.script.now c.args.replayer.now.state c.args.store (g.K.Sink.written c.args.out.now) (g.K.Sink.written c.loop-rest.out) c.loop-rest.rest.now first.0 c.in-Some.behind.now c.bytes-text.result.now c.loop-rest.replayer c.work_in_memory.new.self c.loop-rest.store (omega arith) first.1 keeping does some in
    line_stops g.D.Disk.size g.D.Disk.contents g.D.Disk.may_leave g.D.Disk.moment g.D.Disk.left_since g.D.Disk.faults g.D.Disk.name
    c.args.replayer.now.plant.now c.args.script.now c.args.replayer.now.state c.args.store (g.K.Sink.written c.args.out.now)
    (g.K.Sink.written c.loop-rest.out) c.loop-rest.rest.now c.in-Some.behind.now c.bytes-text.result.now c.loop-rest.replayer c.work_in_memory.new.self c.loop-rest.store keeping more c.work_in_memory.new.self.state (g.K.Sink.written c.keep_line.new.out) c.in-Err.fault
    (saves_at g.D.Disk.size g.D.Disk.contents g.D.Disk.may_leave g.D.Disk.moment g.D.Disk.left_since g.D.Disk.faults g.D.Disk.name c.args.replayer.now.plant.now c.state.result.now c.work_in_memory.new.self.state c.bytes-text.result.now c.loop-rest.store (g.K.Sink.written c.loop-rest.out) (g.K.Sink.written c.keep_line.new.out) (Err c.in-Err.fault) c.state.ensures plant_is c.in-Err.ensures.saves)
    (λ content t le may. g.met.D.Disk.counts_now _ t content le may)

pub loop-rest-preserved : goal.loop-rest-preserved
loop-rest-preserved g c =
    let keeping = c.loop-rest.invariant.keeping in
    let first = c.in-Some.ensures in
    let does = does_here c.args.replayer.now.plant.now c.loop-rest.replayer.plant.now first.0 c.loop-rest.replayer c.work_in_memory.new.self c.bytes-text.result.now c.work_in_memory.new.line.text keeping.stands.plant_is c.bytes-text.ensures first.2 in
    let some : c.bytes-text.result.now ≡ [] → ⊥ = λ none. eqb-false (length c.bytes-text.result.now) 0 (sym c.is_empty-in-loop-rest.ensures ∙ c.if-is_empty.false) (ap (length {A = ℕ}) none) in
    let plant_is = plant_then g.D.Disk.size g.D.Disk.contents g.D.Disk.may_leave g.D.Disk.moment g.D.Disk.left_since g.D.Disk.faults g.D.Disk.name c.args.replayer.now.plant.now c.args.script.now c.args.replayer.now.state c.args.store (g.K.Sink.written c.args.out.now) (g.K.Sink.written c.loop-rest.out) c.loop-rest.rest.now first.0 c.in-Some.behind.now c.bytes-text.result.now c.loop-rest.replayer c.work_in_memory.new.self c.loop-rest.store (omega arith) first.1 keeping does in
    let more = one_more g.D.Disk.size g.D.Disk.contents g.D.Disk.may_leave g.D.Disk.moment g.D.Disk.left_since g.D.Disk.faults g.D.Disk.name c.args.replayer.now.plant.now c.args.script.now c.args.replayer.now.state c.args.store (g.K.Sink.written c.args.out.now) (g.K.Sink.written c.loop-rest.out) c.loop-rest.rest.now first.0 c.in-Some.behind.now c.bytes-text.result.now c.loop-rest.replayer c.work_in_memory.new.self c.loop-rest.store (omega arith) first.1 keeping does some in
    record {
      keeping = goes_on g.D.Disk.size g.D.Disk.contents g.D.Disk.may_leave g.D.Disk.moment g.D.Disk.left_since g.D.Disk.faults g.D.Disk.name
          c.args.replayer.now.plant.now c.args.script.now c.args.replayer.now.state c.args.store (g.K.Sink.written c.args.out.now)
          (g.K.Sink.written c.loop-rest.out) c.loop-rest.rest.now c.in-Some.behind.now c.bytes-text.result.now c.loop-rest.replayer c.work_in_memory.new.self c.loop-rest.store keeping more (g.K.Sink.written c.keep_line.new.out) c.in-Ok.saved
          (saves_at g.D.Disk.size g.D.Disk.contents g.D.Disk.may_leave g.D.Disk.moment g.D.Disk.left_since g.D.Disk.faults g.D.Disk.name c.args.replayer.now.plant.now c.state.result.now c.work_in_memory.new.self.state c.bytes-text.result.now c.loop-rest.store (g.K.Sink.written c.loop-rest.out) (g.K.Sink.written c.keep_line.new.out) (Ok c.in-Ok.saved) c.state.ensures plant_is c.in-Ok.ensures.saves);
      count = c.in-Ok.ensures.count ∙ c.loop-rest.invariant.count;
    }

pub returns-clause-keeps : goal.returns-clause-keeps
returns-clause-keeps g c =
    let none = nil_from_length c.loop-rest.rest.now (eqb-true (length c.loop-rest.rest.now) 0 (sym c.is_empty.ensures ∙ c.loop-rest-test.false)) in
    all_kept g.D.Disk.size g.D.Disk.contents g.D.Disk.may_leave g.D.Disk.moment g.D.Disk.left_since g.D.Disk.faults g.D.Disk.name
    c.args.replayer.now.plant.now c.args.script.now c.args.replayer.now.state c.args.store (g.K.Sink.written c.args.out.now)
    (g.K.Sink.written c.loop-rest.out) c.loop-rest.rest.now c.loop-rest.replayer c.loop-rest.store none c.loop-rest.invariant.keeping
