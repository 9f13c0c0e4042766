-- What a session's past is where its turns are over.
use Rattle.std.proofs.Common.{◌≡◌, ℕ, List, [], ◌++◌, map, refl, subst}
use Rattle.std.proofs.lemmas.List.{append-nil}
use Rattle.dle_framing.specs.Items.{items}
use Rattle.plant_config.specs.Plant.{PlantData}
use Rattle.panel_session.specs.declared.session.Session.{Session}
use Rattle.panel_session.specs.Entry.{PlantEntry}
use Rattle.panel_session.specs.Session.{Stands, kept_of}
use Rattle.panel_session.specs.SoFar.{Progress, unstarted, read_so_far, entries_so_far}
use Rattle.panel_session.specs.Text.{IsText}
use Rattle.panel_session.specs.Turns.{FitsReads, AreTurns, Turn, bytes_read, entries_of_turns}
use Rattle.panel_session.proofs.KeptTurnLemmas.{keeps_text}

-- Turns fit their own pieces and entries.
pub turns_fit_lem : (plant : PlantData) (panel : ℕ) (session : Session) (past : Progress) → Stands plant panel session past → FitsReads panel (map (λ turn. turn.piece) past.turns) (entries_of_turns past.turns)
turns_fit_lem plant panel session past stands =
    let Turns : ℕ → Type 0 = λ panel. AreTurns panel past.turns in
    record { turns = past.turns; are_turns = subst Turns stands.panel_is stands.keeps.turns; pieces = refl; entries_are = refl }

-- A text where nothing was done of the present turn is that of the turns that are over.
text_over : (plant : PlantData) (past : Progress) (text : List ℕ) → past.now ≡ unstarted → IsText plant (items (read_so_far past)) (entries_so_far past) text
    → IsText plant (items (bytes_read past.turns)) (entries_of_turns past.turns) text
text_over plant past text begins is =
    let TextWith : Turn → Type 0 = λ now. IsText plant (items (bytes_read past.turns ++ now.piece)) (entries_of_turns past.turns ++ (now.told ++ now.polls)) text in
    let TextOf : List ℕ → Type 0 = λ read. IsText plant (items read) (entries_of_turns past.turns ++ []) text in
    let TextIn : List PlantEntry → Type 0 = λ entries. IsText plant (items (bytes_read past.turns)) entries text in
    subst TextIn (append-nil (entries_of_turns past.turns)) (subst TextOf (append-nil (bytes_read past.turns)) (subst TextWith begins is))

-- The whole text of turns that are over was sent.
pub turns_text_lem : (plant : PlantData) (panel : ℕ) (session : Session) (past : Progress) → Stands plant panel session past → past.now ≡ unstarted → IsText plant (items (bytes_read past.turns)) (entries_of_turns past.turns) past.sent
turns_text_lem plant panel session past stands begins = text_over plant past past.sent begins (keeps_text plant (kept_of session) past stands.keeps)
