use Rattle.command_serve.proofs.WholeLemmas.{zero_whole}
use Rattle.command_serve.proofs.laws.served_whole.Goals as goal

pub returns : goal.returns
returns g c =
    zero_whole g.P.DisplayPort.was_sent g.P.DisplayPort.faults c.states_stay_valid.ensures.first c.histories_stay_valid.ensures.valid c.histories_stay_valid.ensures.ties
    c.polls_are_quiet_where_nothing_differs.ensures.lamps c.traces_share_history.ensures
