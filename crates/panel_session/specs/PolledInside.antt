-- What comes behind a poll.
use Rattle.std.specs.Prelude.{◌≡◌, ◌≢◌, ◌⊎◌, ℕ, List, []}
use Rattle.plant_core.specs.declared.answer.Answer.{Answer}
use Rattle.panel_session.specs.declared.session.phase.Phase.{Phase}
use Rattle.panel_session.specs.declared.session.phase.Phase.TheVariants.{Poll, End}

-- A poll without an answer is the last, and so is the 32nd.
abbrev pub HasPolled : List Answer → ℕ → Phase → Type 0
HasPolled answers polls phase =
    ((phase ≡ End) × ((answers ≡ []) ⊎ (polls ≡ 32))) ⊎
    ((phase ≡ Poll) × (answers ≢ []) × (polls ≢ 32))
