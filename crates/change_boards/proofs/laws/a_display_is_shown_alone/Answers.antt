use Rattle.change_boards.proofs.ShownLemmas.{with_shown-ShowsOne, with_forgotten-Forgets}
use Rattle.change_boards.proofs.laws.a_display_is_shown_alone.Goals as goal

pub returns : goal.returns
returns c = record { shows = with_shown-ShowsOne; forgets = with_forgotten-Forgets }
