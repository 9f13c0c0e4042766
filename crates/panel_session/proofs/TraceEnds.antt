-- A line of a trace has no line's end but its own, whatever was answered.
use Rattle.std.proofs.Common.{ℕ, List, [], ◌∷◌, All, codes, refl}
use Rattle.std.specs.List.{flat_map}
use Rattle.plant_config.specs.Plant.{PlantData}
use Rattle.plant_core.specs.declared.answer.Answer.{Answer}
use Rattle.plant_core.specs.declared.answer.Answer.TheVariants.{Say, Dumped, Lamp, Finished}
use Rattle.plant_core.specs.declared.request.Request.{Request}
use Rattle.plant_core.specs.declared.request.Request.TheVariants.{Told, Poll, Leave, DisplayPoll}
use Rattle.display_packets.specs.DisplayPacket.{packet_of}
use Rattle.trace_lines.proofs.LineEnds.{NoEnd, literal, hex, sent, line_ends}
use Rattle.panel_session.specs.Reply.{reply_text, display_reply}
use Rattle.panel_session.specs.ReplyLaws.{LinesEndOnce}
use Rattle.panel_session.specs.Text.{frames_of}

shown : (plant : PlantData) (screen : ℕ) (answers : List Answer) → All NoEnd (display_reply plant screen answers)
shown plant screen [] = literal (codes "-") refl
shown plant screen (Finished ∷ others) = literal (codes "finished") refl
shown plant screen (Say message ∷ others) = hex (packet_of plant screen (Say message ∷ others))
shown plant screen (Dumped matrix level dest source ∷ others) = hex (packet_of plant screen (Dumped matrix level dest source ∷ others))
shown plant screen (Lamp display value ∷ others) = hex (packet_of plant screen (Lamp display value ∷ others))

reply : (plant : PlantData) (asked : Request) (answers : List Answer) → All NoEnd (reply_text plant asked answers)
reply plant (Told panel item message) answers = sent (flat_map (λ sent. sent) (frames_of answers))
reply plant (Poll panel item turn) answers = sent (flat_map (λ sent. sent) (frames_of answers))
reply plant (Leave panel) answers = sent (flat_map (λ sent. sent) (frames_of answers))
reply plant (DisplayPoll screen refresh) answers = shown plant screen answers

pub lines_end_once : LinesEndOnce
lines_end_once plant position asked answers within may = line_ends position asked (reply_text plant asked answers) within may (reply plant asked answers)
