use Rattle.change_boards.specs.Notices.{with_leave}
use Rattle.plant_core.proofs.PollLemmas.{leave-Leaves, stays_left, left-nothing}
use Rattle.plant_core.proofs.ServedLemmas.{told_alike}
use Rattle.plant_core.proofs.notice_laws.whoever_left_hears_nothing.Goals as goal

pub returns-clause-leaves : goal.returns-clause-leaves
returns-clause-leaves c state panel = leave-Leaves state.boards panel

pub returns-clause-stays : goal.returns-clause-stays
returns-clause-stays c state panel later = stays_left later state panel

pub returns-clause-silent : goal.returns-clause-silent
returns-clause-silent c = left-nothing

pub returns-clause-served : goal.returns-clause-served
returns-clause-served c state leaver panel item message =
    let alike = told_alike state (with_leave state.boards leaver) panel item message in
    record { answers = alike.answers; crosspoints = alike.crosspoints; owners = alike.owners; groups = alike.groups }
