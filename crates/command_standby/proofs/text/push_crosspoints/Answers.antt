use Rattle.std.proofs.Common.{string_bytes}
use Rattle.command_standby.specs.Standing.{dest_text}
use Rattle.command_standby.proofs.TextLemmas.{texts_more}
use Rattle.command_standby.proofs.text.push_crosspoints.Goals as goal

pub loop-dest-preserved : goal.loop-dest-preserved
loop-dest-preserved c =
    texts_more (dest_text c.args.state.now) c.loop-dest.dest c.of.result (string_bytes c.args.text.now) (string_bytes c.loop-dest.text) (string_bytes c.push_dest.new.text) c.loop-dest.invariant c.in_ok-push_dest.ensures c.of.ensures
