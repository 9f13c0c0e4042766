use Rattle.plant_core.proofs.Validity.{IsValid-start}
use Rattle.plant_core.proofs.StepValidity.{IsValid-step}
use Rattle.plant_core.proofs.ShortLemmas.{StaysShort-start, StaysShort-step}
use Rattle.plant_core.proofs.StepLeaves.{plant-step}
use Rattle.trace_audit.proofs.ReplyLemmas.{reply-tells}
use Rattle.trace_audit.proofs.FoundLemmas.{gaps-found, repeats-found, differences-found}
use Rattle.trace_audit.proofs.laws.what_is_so_is_found.Goals as goal

pub returns-clause-gap : goal.returns-clause-gap
returns-clause-gap c = gaps-found plant-step IsValid-start IsValid-step StaysShort-start StaysShort-step reply-tells

pub returns-clause-repeat : goal.returns-clause-repeat
returns-clause-repeat c = repeats-found plant-step IsValid-start IsValid-step StaysShort-start StaysShort-step reply-tells

pub returns-clause-differs : goal.returns-clause-differs
returns-clause-differs c = differences-found plant-step IsValid-start IsValid-step StaysShort-start StaysShort-step reply-tells
