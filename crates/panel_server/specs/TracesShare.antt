-- The traces of a plant that was served share the lines of its history. The function `traces_share_history` promises it.
use Rattle.std.specs.Prelude.{◌≡◌, ℕ, false, List, All}
use Rattle.plant_config.specs.Plant.{PlantData}
use Rattle.panel_session.specs.Entry.{PlantEntry}
use Rattle.panel_session.specs.Served.{TraceData}
use Rattle.panel_server.specs.PlantServed.{NetData, PlantServed, ShareLines, trace_failures}

-- Where a plant was served, and no write of a trace failed, the traces together have the line of each entry of the closed
-- history at its position, each once.
abbrev pub TracesShareHistory : {P : Type 0} → (P → List (List ℕ) → Type 0) → (P → ℕ) → Type 0
TracesShareHistory {P} WasSent faults =
    (plant : PlantData) (past : List PlantEntry) (net net_then : NetData P)
    (traces traces_then : List TraceData)
    (served : PlantServed WasSent faults plant past net net_then traces traces_then)
    → All (λ failed. failed ≡ false) (trace_failures served.panels served.displays)
    → ShareLines plant past traces traces_then
