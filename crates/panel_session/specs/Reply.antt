-- The line of an entry by its answers: what they send is its reply.
use Rattle.std.specs.Prelude.{ℕ, ◌≤◌, List, [], ◌∷◌, ◌++◌, codes, length}
use Rattle.std.specs.List.{flat_map}
use Rattle.hex.specs.Hex.{encode_upper}
use Rattle.plant_config.specs.Plant.{PlantData}
use Rattle.plant_core.specs.declared.request.Request.{Request}
use Rattle.plant_core.specs.declared.request.Request.TheVariants.{DisplayPoll}
use Rattle.plant_core.specs.declared.answer.Answer.{Answer}
use Rattle.plant_core.specs.declared.answer.Answer.TheVariants.{Finished}
use Rattle.plant_core.specs.Displays.{lamp_limit}
use Rattle.display_packets.specs.DisplayPacket.{packet_of, AreLamps}
use Rattle.trace_lines.specs.TraceLine.{line_end, told_bytes, entry_text}
use Rattle.panel_session.specs.Text.{frames_of}

-- the reply to a display poll: the packet of its lamps, that all is finished, or a dash
abbrev pub display_reply : PlantData → ℕ → List Answer → List ℕ
display_reply plant screen [] = codes "-"
display_reply plant screen (Finished ∷ others) = codes "finished"
display_reply plant screen (answer ∷ others) =
    encode_upper (packet_of plant screen (answer ∷ others))

-- The reply of an entry: what its answers send. To a panel these are frames, to a screen a packet.
abbrev pub reply_text : PlantData → Request → List Answer → List ℕ
reply_text plant (DisplayPoll screen refresh) answers = display_reply plant screen answers
reply_text plant request answers = told_bytes (flat_map (λ sent. sent) (frames_of answers))

-- The line of the entry at this position.
abbrev pub trace_line : PlantData → ℕ → Request → List Answer → List ℕ
trace_line plant position request answers =
    entry_text position request (reply_text plant request answers) ++ line_end ∷ []

-- Answers may be told as the reply to a request: those to a display poll are at most 64, and their lamps are of the plant.
abbrev pub MayReply : PlantData → Request → List Answer → Type 0
MayReply plant (DisplayPoll screen refresh) answers =
    (length answers ≤ lamp_limit) × AreLamps plant answers
MayReply plant request answers = Unit {0}
