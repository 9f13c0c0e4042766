-- The turns of a session are told by their pieces and by the entries that they begin with.
use Rattle.std.proofs.Common.{◌≡◌, ◌≢◌, ℕ, ◌+◌, ◌≤◌, ◌⊎◌, inl, inr, List, [], ◌∷◌, ◌++◌, length, All, refl, sym, ap, ◌∙◌, subst, append_assoc, append-nil, arith, length-append}
use Rattle.std.specs.Prelude.{map}
use Rattle.std.proofs.lemmas.List.{append_cancel_left}
use Rattle.std.proofs.lemmas.List.Elements.{All-head, All-tail}
use Rattle.dle_framing.specs.declared.item.Item.{Item}
use Rattle.dle_framing.specs.Items.{items}
use Rattle.panel_session.specs.declared.session.asked.Asked.{Asked}
use Rattle.panel_session.specs.Asked.{AllAsk, sent_to_plant}
use Rattle.panel_session.specs.Entry.{PlantEntry}
use Rattle.panel_session.specs.Turns.{Turn, bytes_read, entries_in, entries_of_turns, AreTurns, IsTurn}
use Rattle.panel_session.proofs.TurnOnce.{all_ask-one}

-- Two fronts of one list that ask as much are the same.
told-front : (told others later after : List PlantEntry) → map (λ entry. entry.request) told ≡ map (λ entry. entry.request) others → told ++ later ≡ others ++ after
    → (told ≡ others) × (later ≡ after)
told-front [] [] later after same is = (refl, is)
told-front [] (other ∷ others) later after same is = absurd cc
told-front (entry ∷ told) [] later after same is = absurd cc
told-front (entry ∷ told) (other ∷ others) later after same is =
    let head : entry ≡ other = cc in
    let tail : told ++ later ≡ others ++ after = cc in
    let requests : map (λ (entry : PlantEntry). entry.request) told ≡ map (λ (entry : PlantEntry). entry.request) others = cc in
    let rest = told-front told others later after requests tail in
    ((λ i. head i ∷ rest.0 i), rest.1)

-- Where polls end, so do others that begin the same list.
polls-front : (before : ℕ) (answered others : List PlantEntry) (last final : PlantEntry) (later after : List PlantEntry)
    → All (λ entry. entry.answers ≢ []) answered → All (λ entry. entry.answers ≢ []) others
    → before + length (answered ++ last ∷ []) ≤ 32 → before + length (others ++ final ∷ []) ≤ 32
    → (last.answers ≡ []) ⊎ (before + length (answered ++ last ∷ []) ≡ 32) → (final.answers ≡ []) ⊎ (before + length (others ++ final ∷ []) ≡ 32)
    → (answered ++ last ∷ []) ++ later ≡ (others ++ final ∷ []) ++ after → (answered ++ last ∷ [] ≡ others ++ final ∷ []) × (later ≡ after)
polls-front before [] [] last final later after each each' within within' ends ends' is =
    let head : last ≡ final = cc in ((λ i. head i ∷ []), cc)
polls-front before [] (other ∷ others) last final later after each each' within within' ends ends' is =
    let head : last ≡ other = cc in
    let answers = All-head (λ (entry : PlantEntry). entry.answers ≢ []) other others each' in
    absurd (elim ends [ (inl none) ↦ answers (ap (λ (entry : PlantEntry). entry.answers) (sym head) ∙ none) | (inr full) ↦ omega (arith, full, within', length-append others (final ∷ [])) ])
polls-front before (entry ∷ answered) [] last final later after each each' within within' ends ends' is =
    let head : entry ≡ final = cc in
    let answers = All-head (λ (entry : PlantEntry). entry.answers ≢ []) entry answered each in
    absurd (elim ends' [ (inl none) ↦ answers (ap (λ (entry : PlantEntry). entry.answers) head ∙ none) | (inr full) ↦ omega (arith, full, within, length-append answered (last ∷ [])) ])
polls-front before (entry ∷ answered) (other ∷ others) last final later after each each' within within' ends ends' is =
    let Answers : PlantEntry → Type 0 = λ entry. entry.answers ≢ [] in
    let head : entry ≡ other = cc in
    let tail : (answered ++ last ∷ []) ++ later ≡ (others ++ final ∷ []) ++ after = cc in
    let rest = polls-front (before + 1) answered others last final later after (All-tail Answers entry answered each) (All-tail Answers other others each')
    (omega (arith, within)) (omega (arith, within'))
    (elim ends [ (inl none) ↦ inl none | (inr full) ↦ inr (omega (arith, full)) ]) (elim ends' [ (inl none) ↦ inl none | (inr full) ↦ inr (omega (arith, full)) ]) tail in
    ((λ i. head i ∷ rest.0 i), rest.1)

-- Two turns of one piece whose entries begin one list are the same.
turn-front : (panel : ℕ) (before : List Turn) (turn other : Turn) (later after : List PlantEntry) → IsTurn panel before turn → IsTurn panel before other → turn.piece ≡ other.piece
    → entries_in turn ++ later ≡ entries_in other ++ after → (turn ≡ other) × (later ≡ after)
turn-front panel before turn other later after is is' same fronts =
    let ended : is.ended ≡ is'.ended =
    append_cancel_left (items (bytes_read before)) is.ended is'.ended (sym is.end_in ∙ ap (λ (piece : List ℕ). items (bytes_read before ++ piece)) same ∙ is'.end_in) in
    let AskOf : List (Item (List ℕ)) → Type 0 = λ its. AllAsk its is'.asked in
    let asked : is.asked ≡ is'.asked = all_ask-one is.ended is.asked is'.asked is.ask (subst AskOf (sym ended) is'.ask) in
    let told = told-front turn.told other.told (turn.polls ++ later) (other.polls ++ after)
    (is.told ∙ ap (λ (asked : List Asked). sent_to_plant panel (length (items (bytes_read before))) asked) asked ∙ sym is'.told)
    (sym (append_assoc turn.told turn.polls later) ∙ fronts ∙ append_assoc other.told other.polls after) in
    let p = is.polls in
    let q = is'.polls in
    let polls = polls-front 0 p.answered q.answered p.last q.last later after (λ k d below. (p.each k d below).1) (λ k d below. (q.each k d below).1)
    (omega (arith, p.within, ap length p.polls_are)) (omega (arith, q.within, ap length q.polls_are))
    (elim p.ends [ (inl none) ↦ inl none | (inr full) ↦ inr (omega (arith, full, ap length p.polls_are)) ])
    (elim q.ends [ (inl none) ↦ inl none | (inr full) ↦ inr (omega (arith, full, ap length q.polls_are)) ])
    (ap (λ (l : List PlantEntry). l ++ later) (sym p.polls_are) ∙ told.1 ∙ ap (λ (l : List PlantEntry). l ++ after) q.polls_are) in
    let same_polls : turn.polls ≡ other.polls = p.polls_are ∙ polls.0 ∙ sym q.polls_are in
    ((λ i. record { piece = same i; told = told.0 i; polls = same_polls i }), polls.1)

-- Turns with one piece more, whose entries begin with those of other turns: they are these turns and one more, with the
-- entries that are left.
turns-more : (panel : ℕ) (before turns others : List Turn) (piece : List ℕ) (entries : List PlantEntry) → AreTurns panel (before ++ turns) → AreTurns panel (before ++ others)
    → map (λ turn. turn.piece) others ≡ map (λ turn. turn.piece) turns ++ piece ∷ [] → entries_of_turns others ≡ entries_of_turns turns ++ entries
    → (turn : Turn) × (others ≡ turns ++ turn ∷ []) × (turn.piece ≡ piece) × (entries_in turn ≡ entries)
turns-more panel before [] [] piece entries are are' pieces is = absurd cc
turns-more panel before [] (turn ∷ []) piece entries are are' pieces is = (turn, refl, cc, sym (append-nil (entries_in turn)) ∙ is)
turns-more panel before [] (turn ∷ other ∷ others) piece entries are are' pieces is = absurd cc
turns-more panel before (turn ∷ turns) [] piece entries are are' pieces is = absurd cc
turns-more panel before (turn ∷ turns) (other ∷ others) piece entries are are' pieces is =
    let same : other.piece ≡ turn.piece = cc in
    let tail : map (λ (turn : Turn). turn.piece) others ≡ map (λ (turn : Turn). turn.piece) turns ++ piece ∷ [] = cc in
    let first = turn-front panel before other turn (entries_of_turns others) (entries_of_turns turns ++ entries) (are' before others other refl) (are before turns turn refl) same
    (is ∙ append_assoc (entries_in turn) (entries_of_turns turns) entries) in
    let Are : List Turn → Type 0 = λ turns. AreTurns panel turns in
    let Behind : Turn → Type 0 = λ turn. AreTurns panel ((before ++ turn ∷ []) ++ others) in
    let rest = turns-more panel (before ++ turn ∷ []) turns others piece entries
    (subst Are (sym (append_assoc before (turn ∷ []) turns)) are) (subst Behind first.0 (subst Are (sym (append_assoc before (other ∷ []) others)) are')) tail first.1 in
    (rest.0, (λ i. first.0 i ∷ rest.1 i), rest.2, rest.3)

-- So what comes behind a session's turns is one turn of the piece, with the entries that are left.
pub next_turn : (panel : ℕ) (turns others : List Turn) (piece : List ℕ) (entries : List PlantEntry) → AreTurns panel turns → AreTurns panel others
    → map (λ turn. turn.piece) others ≡ map (λ turn. turn.piece) turns ++ piece ∷ [] → entries_of_turns others ≡ entries_of_turns turns ++ entries
    → (turn : Turn) × (turn.piece ≡ piece) × (entries_in turn ≡ entries) × IsTurn panel turns turn
next_turn panel turns others piece entries are are' pieces is =
    let more = turns-more panel [] turns others piece entries are are' pieces is in
    (more.0, more.2, more.3, are' turns [] more.0 more.1)
