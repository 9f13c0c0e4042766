-- How an audit ends.
use Rattle.std.proofs.Common.{ℕ, inr, List, refl}
use Rattle.plant_config.specs.Plant.{PlantData}
use Rattle.trace_audit.specs.declared.verdict.Verdict.{Verdict}
use Rattle.trace_audit.specs.Verdict.{IsVerdict}
use Rattle.command_rows.specs.End.{ComesTo}
use Rattle.command_rows.specs.Moment.{Output}
use Rattle.command_rows.specs.Row.{EndsAlone}
use Rattle.command_audit.specs.Verdict.{audited}
use Rattle.command_audit.specs.Audit.{AuditEnds}
use Rattle.command_audit.proofs.VerdictLemmas.{not_2, not_4}

-- with its verdict
pub told : (plant : PlantData) (lines : List (List ℕ)) (verdict : Verdict) (before now : Output) (status : ℕ) → IsVerdict plant lines verdict → ComesTo (audited verdict) status before now
    → EndsAlone (AuditEnds plant lines) before now status
told plant lines verdict before now status is comes =
    record { end = audited verdict; ends = inr (verdict, refl, is); not_words = not_2 verdict; not_plant = not_4 verdict; no_fault = refl; comes = comes }
