use Rattle.std.proofs.Common.{◌≡◌, ◌==◌, true, false, ℕ, sym, arith}
use Rattle.std.proofs.lemmas.Grind.{common_steps}
use Rattle.plant_core.specs.StateFault.{entry_dest_in, is_before}
use Rattle.plant_core.proofs.TestLemmas.{any_more, any_found}
use Rattle.plant_core.proofs.group_fields.is_before.Goals as goal

pub returns-then-eq : goal.returns-then-eq
unfolding is_before
returns-then-eq c =
    let test = λ (earlier : ℕ). entry_dest_in c.args.plant.now c.args.bytes.now c.args.group earlier == c.args.dest in
    let passes : test c.loop-earlier.earlier ≡ true = grind (arith, common_steps) in
    sym (any_found c.loop-earlier.earlier c.args.index test (omega arith) passes)

pub loop-earlier-preserved : goal.loop-earlier-preserved
loop-earlier-preserved c =
    let test = λ (earlier : ℕ). entry_dest_in c.args.plant.now c.args.bytes.now c.args.group earlier == c.args.dest in
    let fails : test c.loop-earlier.earlier ≡ false = grind (arith, common_steps) in
    any_more c.loop-earlier.earlier test c.loop-earlier.invariant fails
