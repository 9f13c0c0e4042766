-- The line of an entry with the plant's reply isn't too long, and its reply is the text of one.
use Rattle.std.proofs.Common.{◌≡◌, ℕ, ◌≤◌, List, [], ◌∷◌, length, All, refl, subst, inl, inr, arith}
use Rattle.plant_config.specs.Plant.{PlantData}
use Rattle.plant_config.specs.IsPlant.{IsPlant}
use Rattle.plant_core.specs.declared.answer.Answer.{Answer}
use Rattle.plant_core.specs.declared.answer.Answer.TheVariants.{Say, Dumped, Lamp, Finished}
use Rattle.plant_core.specs.declared.request.Request.{Request}
use Rattle.plant_core.specs.declared.request.Request.TheVariants.{Told, Poll, Leave, DisplayPoll}
use Rattle.plant_core.specs.Answer.{IsSayable}
use Rattle.plant_core.specs.Displays.{lamp_limit}
use Rattle.plant_core.specs.State.{State, IsValid, Fits}
use Rattle.plant_core.specs.Short.{StaysShort}
use Rattle.plant_core.specs.Step.{step}
use Rattle.plant_core.proofs.AnswerLemmas.{All-sayable}
use Rattle.plant_core.proofs.CountLemmas.{answer_count, answers_within, room_within}
use Rattle.display_packets.specs.DisplayPacket.{packet_of}
use Rattle.trace_lines.specs.TraceLine.{told_bytes}
use Rattle.trace_lines.proofs.LineLengths.{IsReply, hex-reply, told-reply, number-most, request-most, entry-most}
use Rattle.panel_session.specs.Text.{frames_of}
use Rattle.panel_session.specs.Reply.{display_reply}
use Rattle.trace_audit.specs.Verdict.{wanted_reply}
use Rattle.trace_audit.proofs.FrameLemmas.{sent, frames-sent}
use Rattle.trace_audit.proofs.PacketLemmas.{packet-few}
use Rattle.trace_audit.proofs.HistoryLemmas.{ReplyTells}

shown-reply : (plant : PlantData) (screen : ℕ) (answers : List Answer) → IsPlant plant → length answers ≤ lamp_limit → IsReply (display_reply plant screen answers)
shown-reply plant screen [] is few = record { text = inl refl; most = omega arith }
shown-reply plant screen (Finished ∷ others) is few = record { text = inr (inl refl); most = omega arith }
shown-reply plant screen (Say message ∷ others) is few =
    let packet = packet-few plant screen (Say message ∷ others) is in hex-reply (packet_of plant screen (Say message ∷ others)) packet.some (omega (arith, packet.few)) packet.each
shown-reply plant screen (Dumped matrix level dest source ∷ others) is few =
    let packet = packet-few plant screen (Dumped matrix level dest source ∷ others) is in
    hex-reply (packet_of plant screen (Dumped matrix level dest source ∷ others)) packet.some (omega (arith, packet.few)) packet.each
shown-reply plant screen (Lamp display value ∷ others) is few =
    let packet = packet-few plant screen (Lamp display value ∷ others) is in hex-reply (packet_of plant screen (Lamp display value ∷ others)) packet.some (omega (arith, packet.few)) packet.each

frames-reply : (answers : List Answer) → All IsSayable answers → length answers ≤ 1024 → IsReply (told_bytes (sent (frames_of answers)))
frames-reply answers sayable few = let are = frames-sent answers sayable in told-reply (sent (frames_of answers)) (omega (arith, are.few)) are.each

-- What the plant answers is one.
plant-reply : (plant : PlantData) (state : State) (request : Request) → state.plant ≡ plant → IsValid state → StaysShort state → Fits state request → IsReply (wanted_reply plant state request)
plant-reply plant state (Told panel item message) is valid short fits =
    frames-reply (step state (Told panel item message)).answers (All-sayable state (Told panel item message) valid short fits)
    (omega (arith, answers_within state.plant (Told panel item message) _ (answer_count state (Told panel item message) fits), room_within state.plant valid.is_plant))
plant-reply plant state (Poll panel item turn) is valid short fits =
    frames-reply (step state (Poll panel item turn)).answers (All-sayable state (Poll panel item turn) valid short fits)
    (omega (arith, answers_within state.plant (Poll panel item turn) _ (answer_count state (Poll panel item turn) fits), room_within state.plant valid.is_plant))
plant-reply plant state (Leave panel) is valid short fits =
    frames-reply (step state (Leave panel)).answers (All-sayable state (Leave panel) valid short fits) (omega (arith, answer_count state (Leave panel) fits))
plant-reply plant state (DisplayPoll screen refresh) is valid short fits =
    shown-reply plant screen (step state (DisplayPoll screen refresh)).answers (subst IsPlant is valid.is_plant) (answer_count state (DisplayPoll screen refresh) fits)

pub reply-tells : ReplyTells
reply-tells plant position state request is valid short within numbers fits =
    let reply = plant-reply plant state request is valid short fits in
    let asked = request-most state.plant request valid.is_plant fits numbers in
    record { within = entry-most position request (wanted_reply plant state request) (number-most position within) asked reply.most; text = reply.text }
