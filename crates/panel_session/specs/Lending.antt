-- What a session becomes once its outbox or a line was lent.
use Rattle.std.specs.Prelude.{◌≡◌, ⊤, []}
use Rattle.std.specs.Borrow.{Lends, follows_so, MutBor, Fml}
use mathlib.Core.Option.{none}
use mir.Syntax.{named}
use Rattle.history_lock.specs.Places.{Placed}
use Rattle.history_lock.specs.contracts.out_box.OutBox as out_box
use Rattle.plant_core.specs.declared.answer.Answer.{Answer}
use Rattle.plant_core.specs.contracts.answer.Answer as answer
use Rattle.panel_session.specs.declared.session.Session.{Session}
use Rattle.panel_session.specs.contracts.session.Session.{the_row}
use Rattle.panel_session.specs.Session.{with_outbox}

-- The session ends with what is left in the outbox.
abbrev pub LendsOutbox : MutBor Session → MutBor (Placed Answer) → Fml
LendsOutbox session outbox =
    Lends (the_row (record { mir = named 0; lft = [] }))
    (out_box.the_row answer.the_row) session outbox (with_outbox session.now)

-- The session ends as it was: what it stood for and awaited it still does.
abbrev pub StaysTheSame : MutBor Session → Fml
StaysTheSame session =
    let row = the_row (record { mir = named 0; lft = [] }) in
    follows_so row row session.ghost_name none (λ _ _. ⊤) (λ last. last ≡ session.now)
