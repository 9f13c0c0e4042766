use Rattle.std.proofs.Common.{rules}
use Rattle.panel_server.proofs.poll.tell.Goals as goal

pub send-requires : goal.send-requires
send-requires g c = c.requires.takes c.args.packet.now (c.requires.some (search rules))
