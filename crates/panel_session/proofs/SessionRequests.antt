-- A session asks the plant for what its panel sends, and polls. It asks for nothing else.
use Rattle.std.proofs.Common.{◌≡◌, ℕ, ◌+◌, List, [], ◌∷◌, ◌++◌, All, sym, subst}
use Rattle.std.specs.Prelude.{map}
use Rattle.std.specs.List.{AllByRecursion}
use Rattle.std.proofs.lemmas.List.Elements.{All-append, All-push, All-from_recursion}
use Rattle.plant_core.specs.declared.request.Request.{Request}
use Rattle.plant_core.specs.declared.request.Request.TheVariants.{Told, Poll, Leave, DisplayPoll}
use Rattle.panel_session.specs.declared.session.asked.Asked.{Asked}
use Rattle.panel_session.specs.declared.session.asked.Asked.TheVariants.{Nothing, Repeat, Refused, Noted, Named, Sent}
use Rattle.panel_session.specs.Asked.{sent_to_plant}
use Rattle.panel_session.specs.Entry.{PlantEntry}
use Rattle.panel_session.specs.Turns.{Turn, entries_in, poll_behind, IsTurn}

-- a request that a session makes
abbrev pub IsOfSession : Request → Type 0
IsOfSession (Told panel item message) = Unit {0}
IsOfSession (Poll panel item turn) = Unit {0}
IsOfSession (Leave panel) = ⊥
IsOfSession (DisplayPoll screen refresh) = ⊥

-- What items send to the plant is such,
sent-of_session : (panel item : ℕ) (asked : List Asked) → AllByRecursion IsOfSession (sent_to_plant panel item asked)
sent-of_session panel item [] = tt
sent-of_session panel item (Sent message ∷ others) = (tt, sent-of_session panel (item + 1) others)
sent-of_session panel item (Nothing ∷ others) = sent-of_session panel (item + 1) others
sent-of_session panel item (Repeat ∷ others) = sent-of_session panel (item + 1) others
sent-of_session panel item (Refused ∷ others) = sent-of_session panel (item + 1) others
sent-of_session panel item (Noted ∷ others) = sent-of_session panel (item + 1) others
sent-of_session panel item (Named message ∷ others) = sent-of_session panel (item + 1) others

entries-of_session : (entries : List PlantEntry) → AllByRecursion IsOfSession (map (λ entry. entry.request) entries) → AllByRecursion (λ entry. IsOfSession entry.request) entries
entries-of_session [] all = tt
entries-of_session (entry ∷ entries) all = (all.0, entries-of_session entries all.1)

-- and so are all entries of a turn.
pub turn-of_session : (panel : ℕ) (before : List Turn) (turn : Turn) → IsTurn panel before turn → All (λ entry. IsOfSession entry.request) (entries_in turn)
turn-of_session panel before turn is =
    let AllSuch : List Request → Type 0 = λ requests. AllByRecursion IsOfSession requests in
    let Such : PlantEntry → Type 0 = λ entry. IsOfSession entry.request in
    let AllEntries : List PlantEntry → Type 0 = λ entries. All Such entries in
    let of_poll : (request : Request) → request ≡ poll_behind panel before turn.piece → IsOfSession request = λ request is. subst IsOfSession (sym is) tt in
    let told : All Such turn.told = All-from_recursion Such turn.told (entries-of_session turn.told (subst AllSuch (sym is.told) (sent-of_session panel _ is.asked))) in
    let polls : All Such (is.polls.answered ++ is.polls.last ∷ []) =
    All-push Such is.polls.answered is.polls.last (λ k default below. of_poll _ (is.polls.each k default below).0) (of_poll is.polls.last.request is.polls.last_poll) in
    All-append Such turn.told turn.polls told (subst AllEntries (sym is.polls.polls_are) polls)
