use Rattle.std.proofs.Common.{ℕ, length, ap, ◌∙◌, arith}
use Rattle.std.proofs.lemmas.List.FromFn.{length-map-range_with_len}
use Rattle.plant_core.specs.declared.answer.Answer.{Answer}
use Rattle.plant_core.specs.Step.{dumped_at}
use Rattle.plant_core.proofs.DumpLemmas.{dumped_more}
use Rattle.plant_core.proofs.state.PlantState.dump.Goals as goal

pub tell-requires : goal.tell-requires
tell-requires c =
    let told : ℕ → Answer = λ dest. dumped_at c.args.self.now (record { matrix = c.args.matrix; level = c.args.level; dest = dest }) in
    omega (arith, ap (length {A = Answer}) c.loop-dest.invariant.answers, length-map-range_with_len told 0 c.loop-dest.dest, c.loop-dest.invariant.places, c.requires.places, c.dest_count-dest-end.ensures.within, c.loop-dest-test.true)

pub loop-dest-preserved : goal.loop-dest-preserved
loop-dest-preserved c =
    let told : ℕ → Answer = λ dest. dumped_at c.args.self.now (record { matrix = c.args.matrix; level = c.args.level; dest = dest }) in
    record {
      answers = c.tell.ensures.items ∙ dumped_more told _ c.loop-dest.dest c.loop-dest.invariant.answers;
      places = c.tell.ensures.places ∙ c.loop-dest.invariant.places;
    }
