-- The command `audit`: what is given for its form, and how it may end, and why.
use Rattle.std.specs.Prelude.{◌≡◌, ◌⊎◌, ℕ, List, [], ◌∷◌}
use Rattle.plant_config.specs.Plant.{PlantData}
use Rattle.trace_audit.specs.declared.verdict.Verdict.{Verdict}
use Rattle.trace_audit.specs.Verdict.{IsVerdict}
use Rattle.command_words.specs.Parts.{Part, Plant, Last, Wholes}
use Rattle.command_rows.specs.Kinds.{trace}
use Rattle.command_rows.specs.End.{End, out_of_memory}
use Rattle.command_rows.specs.Row.{Promise, Alone}
use Rattle.command_audit.specs.Verdict.{audited}

-- the parts of its form, and what stands behind them
abbrev pub parts : List Part
parts = Plant ∷ []

abbrev pub last : Last
last = Wholes trace

-- The audit of these lines on this plant ends so: with the verdict on them, or without memory.
abbrev pub AuditEnds : PlantData → List (List ℕ) → End → Type 0
AuditEnds plant lines end = (end ≡ out_of_memory)
    ⊎ ((verdict : Verdict) × (end ≡ audited verdict) × IsVerdict plant lines verdict)

-- What it promises of the plant, and of the lines of all traces, that are given. It leaves the files alone.
abbrev pub AuditRow : Promise parts last
AuditRow = Alone parts last (λ given. AuditEnds given.0 given.1)
