use Rattle.std.proofs.Common.{rules}
use Rattle.command_stream.proofs.StreamPortLemmas.{to_ended, named_ended, if_ok}
use Rattle.command_stream.proofs.row.stream_to.Goals as goal

pub returns-clause-streams : goal.returns-clause-streams
returns-clause-streams g c =
    let ends = c.replay_script_to-ended.ensures in
    rw c.into_sink.ensures
    (to_ended g.S.Sink.name g.S.Sink.written g.S.Sink.faults c.args.plant.now c.args.script.now _ c.replay_script_to-ended.new.port _ _ (search rules) (search rules) (search rules) c.replay_script_to-ended.result
    (if_ok c.replay_script_to-ended.result ends.ok) ends.bad_line ends.output_fault ends.port_fault ends.same ends.no_memory ends.port_count)

pub returns-clause-named : goal.returns-clause-named
returns-clause-named g c = λ its named.
    let ends = c.replay_script_to-ended.ensures in
    rw c.into_sink.ensures
    (named_ended g.S.Sink.name g.S.Sink.written g.S.Sink.faults c.args.plant.now c.args.script.now _ c.replay_script_to-ended.new.port _ _ (search rules) (search rules) (search rules) its (search rules) c.replay_script_to-ended.result
    (if_ok c.replay_script_to-ended.result ends.ok) ends.output_fault ends.port_fault ends.same ends.no_memory)
