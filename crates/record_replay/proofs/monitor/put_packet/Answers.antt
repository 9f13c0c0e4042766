use Rattle.record_replay.proofs.MonitorLemmas.{few_messages}
use Rattle.record_replay.proofs.monitor.put_packet.Goals as goal

pub put_displays-requires : goal.put_displays-requires
put_displays-requires g c = few_messages c.args.bytes.now _ c.in-Ok.ensures.found
