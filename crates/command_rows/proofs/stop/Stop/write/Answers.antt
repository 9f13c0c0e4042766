use Rattle.std.proofs.Common.{◌∙◌}
use Rattle.command_rows.proofs.WrittenLemmas.{plant-all, plant-front}
use Rattle.command_rows.proofs.stop.Stop.write.Goals as goal

pub returns-in-PlantRefused-clause-all : goal.returns-in-PlantRefused-clause-all
returns-in-PlantRefused-clause-all g c =
    rw c.in-PlantRefused.is
    (plant-all c.write_parts-in-PlantRefused.result _ c.as_bytes-text.result.now _ _ (c.as_bytes-text.ensures.value ∙ c.as_str.ensures.value)
    c.write_parts-in-PlantRefused.ensures.all)

pub returns-in-PlantRefused-clause-front : goal.returns-in-PlantRefused-clause-front
returns-in-PlantRefused-clause-front g c =
    rw c.in-PlantRefused.is
    (plant-front c.write_parts-in-PlantRefused.result _ c.as_bytes-text.result.now _ _ (c.as_bytes-text.ensures.value ∙ c.as_str.ensures.value)
    c.write_parts-in-PlantRefused.ensures.front)

pub returns-in-PlantTooLong-clause-all : goal.returns-in-PlantTooLong-clause-all
returns-in-PlantTooLong-clause-all g c = rw c.in-PlantTooLong.is c.write_all-in-PlantTooLong.ensures.all

pub returns-in-PlantTooLong-clause-front : goal.returns-in-PlantTooLong-clause-front
returns-in-PlantTooLong-clause-front g c = rw c.in-PlantTooLong.is c.write_all-in-PlantTooLong.ensures.part
