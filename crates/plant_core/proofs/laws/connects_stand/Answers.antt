use Rattle.plant_core.specs.declared.request.Request.{Request}
use Rattle.plant_core.specs.declared.request.Request.TheVariants.{Told}
use Rattle.plant_core.specs.Wide.{asks_change}
use Rattle.plant_core.specs.Step.{step}
use Rattle.plant_core.proofs.Steps.{connect-IsMade}
use Rattle.plant_core.proofs.StepValidity.{IsValid-step}
use Rattle.plant_core.proofs.StepLeaves.{keep}
use Rattle.plant_core.proofs.laws.connects_stand.Goals as goal

pub returns : goal.returns
returns c state panel item extended at source later valid is alone =
    let request : Request = Told panel item (asks_change extended at source) in
    keep (step state request).state at later source (IsValid-step state request valid) alone (connect-IsMade state panel item extended at source valid is).stands
