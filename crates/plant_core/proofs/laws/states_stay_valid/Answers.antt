use Rattle.std.proofs.Common.{refl}
use Rattle.plant_core.proofs.Validity.{IsValid-start, IsValid-applied}
use Rattle.plant_core.proofs.StepValidity.{IsValid-step}
use Rattle.plant_core.proofs.StepLeaves.{plant-step}
use Rattle.plant_core.proofs.ShortLemmas.{StaysShort-start, StaysShort-step}
use Rattle.plant_core.proofs.laws.states_stay_valid.Goals as goal

pub returns-clause-first_short : goal.returns-clause-first_short
returns-clause-first_short c = StaysShort-start

pub returns-clause-short : goal.returns-clause-short
returns-clause-short c = StaysShort-step

pub returns-clause-first : goal.returns-clause-first
returns-clause-first c = IsValid-start

pub returns-clause-stays : goal.returns-clause-stays
returns-clause-stays c = IsValid-step

pub returns-clause-plant : goal.returns-clause-plant
returns-clause-plant c = plant-step

pub returns-clause-changes : goal.returns-clause-changes
returns-clause-changes c = IsValid-applied

pub returns-clause-begins : goal.returns-clause-begins
returns-clause-begins c = λ plant is. record {
  plant_is = refl;
  valid = IsValid-start plant is;
  short = StaysShort-start plant;
}
