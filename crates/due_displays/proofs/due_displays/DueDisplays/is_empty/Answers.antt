use Rattle.std.proofs.Common.{subst, ◌↔◌, ◌≡◌, IsTrue}
use Rattle.std.specs.FinSet.{empty}
use Rattle.due_displays.specs.Due.{Due}
use Rattle.due_displays.proofs.NotedLemmas.{empty_exactly}
use Rattle.due_displays.proofs.due_displays.DueDisplays.is_empty.Goals as goal

pub returns : goal.returns
returns c plant are =
    empty_exactly plant c.args.self.now c.is_empty.result
    (subst (λ (due : Due). IsTrue c.is_empty.result ↔ (due.screens ≡ empty)) c.self.view_is c.is_empty.ensures) are
