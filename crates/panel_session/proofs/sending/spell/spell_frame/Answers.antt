use Rattle.std.proofs.Common.{arith}
use Rattle.panel_session.proofs.FrameRoom.{message_frame-most}
use Rattle.panel_session.proofs.sending.spell.spell_frame.Goals as goal

-- The five bytes of a tally or a connected are those of its text.
pub encode_frame-requires-clause-room : goal.encode_frame-requires-clause-room
encode_frame-requires-clause-room c =
    omega (arith, c.requires.frame_room, message_frame-most c.args.message.now _ c.in-Some.ensures.1)
