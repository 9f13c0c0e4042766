use Rattle.panel_server.proofs.TogetherLemmas.{traces_share}
use Rattle.panel_server.proofs.shares.traces_share_history.Goals as goal

pub returns : goal.returns
returns g c = λ plant past net net_then traces traces_then served kept. traces_share plant past net net_then traces traces_then c.seats_share_history.ensures served kept
