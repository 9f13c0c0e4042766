use Rattle.plant_core.proofs.Validity.{IsValid-start}
use Rattle.plant_core.proofs.StepValidity.{IsValid-step}
use Rattle.plant_core.proofs.ShortLemmas.{StaysShort-start, StaysShort-step}
use Rattle.plant_core.proofs.StepLeaves.{plant-step}
use Rattle.trace_audit.proofs.HistoryLemmas.{histories-confirmed}
use Rattle.trace_audit.proofs.ReplyLemmas.{reply-tells}
use Rattle.trace_audit.proofs.laws.histories_are_confirmed.Goals as goal

pub returns : goal.returns
returns c = histories-confirmed plant-step IsValid-start IsValid-step StaysShort-start StaysShort-step reply-tells
