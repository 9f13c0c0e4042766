-- How a packet is made, answer by answer.
use Rattle.std.specs.Prelude.{◌≡◌, ℕ, List, ◌++◌}
use Rattle.tsl_umd5.specs.Packet.{Display, packet_text}
use Rattle.plant_config.specs.Plant.{PlantData}
use Rattle.plant_core.specs.declared.answer.Answer.{Answer}
use Rattle.display_packets.specs.DisplayPacket.{shown_by}

-- Whichever screen and displays a packet was of, what an answer shows stands behind them.
abbrev pub AddsShown : PlantData → Answer → List ℕ → List ℕ → Type 0
AddsShown plant answer before after =
    (screen : ℕ) (displays : List Display) → before ≡ packet_text screen displays
    → after ≡ packet_text screen (displays ++ shown_by plant answer)
