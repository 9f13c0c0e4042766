-- The packet by which the displays of a screen are told what a display poll is answered.
use Rattle.std.specs.Prelude.{ℕ, ◌<◌, Bool, true, false, if◌then◌else◌, List, [], ◌∷◌, All, length, slice_get, Option, IfSome, unwrap_or}
use Rattle.std.specs.Option.{option_map_or, option_and_then}
use Rattle.std.specs.List.{flat_map}
use Rattle.tsl_umd5.specs.declared.lamp.Lamp.{Lamp}
use Rattle.tsl_umd5.specs.declared.lamp.Lamp.TheVariants.{Off, Red, Green, Amber}
use Rattle.tsl_umd5.specs.Packet.{Display, packet_text}
use Rattle.plant_config.specs.declared.records.Display as records
use Rattle.plant_config.specs.Plant.{PlantData, sources_of}
use Rattle.plant_config.specs.Sources.{source_name_of}
use Rattle.change_boards.specs.declared.value.Value.{Value}
use Rattle.plant_core.specs.declared.answer.Answer.{Answer}
use Rattle.plant_core.specs.declared.answer.Answer.TheVariants as answers

-- the most bytes of the packet of a display poll: those of its head, and for each of 64 lamps 6 bytes and a name of 12 [profile]
abbrev pub longest_packet : ℕ
longest_packet = 1158

-- the index of a display on its screen [profile]
abbrev pub index_of : PlantData → ℕ → ℕ
index_of plant display =
    option_map_or (λ (found : records.Display). found.index) (slice_get plant.displays display) 0

-- the whole name of a source, and nothing where there is none [profile]
abbrev pub umd_text : PlantData → Option ℕ → List ℕ
umd_text plant source = unwrap_or (option_and_then (source_name_of plant) source) []

-- a lamp of this colour where it is on, and off elsewhere [profile]
abbrev pub lamp_if : Bool → Lamp → Lamp
lamp_if on colour = if on then colour else Off

-- the lamp of the text, by whether the source is on air and whether it is on preview [profile]
abbrev pub text_lamp : Bool → Bool → Lamp
text_lamp true true = Amber
text_lamp true false = Red
text_lamp false true = Green
text_lamp false false = Off

-- What a display shows by a value: its right lamp is red on air and its left one green on preview, that of the text says both,
-- and the text is the source's name, empty where the destination is parked. [profile]
abbrev pub lamp_shown : PlantData → ℕ → Value → Display
lamp_shown plant display value = record {
  index = index_of plant display;
  right = lamp_if value.air Red;
  middle = text_lamp value.air value.preview;
  left = lamp_if value.preview Green;
  brightness = plant.server.brightness;
  text = umd_text plant value.source;
}

-- the display that an answer shows, none where it isn't a lamp [profile]
abbrev pub shown_by : PlantData → Answer → List Display
shown_by plant (answers.Lamp display value) = lamp_shown plant display value ∷ []
shown_by plant (answers.Say message) = []
shown_by plant (answers.Dumped matrix level dest source) = []
shown_by plant answers.Finished = []

-- The packet of a screen and answers: a display message for each lamp, in their order. [profile]
abbrev pub packet_of : PlantData → ℕ → List Answer → List ℕ
packet_of plant screen answers = packet_text screen (flat_map (shown_by plant) answers)

-- A display is one of the plant, and so is the source that it is to show. [profile]
pub record IsLamp (plant : PlantData) (display : ℕ) (value : Value) : Type 0 where
  pub has_display : display < length plant.displays
  pub has_source : IfSome value.source (λ source. source < sources_of plant)

-- The lamps among answers are of displays and sources of the plant. [profile]
abbrev pub MayShow : PlantData → Answer → Type 0
MayShow plant (answers.Lamp display value) = IsLamp plant display value
MayShow plant (answers.Say message) = Unit {0}
MayShow plant (answers.Dumped matrix level dest source) = Unit {0}
MayShow plant answers.Finished = Unit {0}

abbrev pub AreLamps : PlantData → List Answer → Type 0
AreLamps plant answers = All (MayShow plant) answers
