-- A piece is worked as one turn.
use Rattle.std.proofs.Common.{◌≡◌, ◌≢◌, ℕ, ◌+◌, ◌≤◌, ◌⊎◌, inl, inr, List, [], ◌∷◌, ◌++◌, length, refl, sym, ap, ◌∙◌, subst, arith}
use Rattle.std.specs.Prelude.{map, All}
use Rattle.std.proofs.lemmas.List.{length-append, append_cancel_left}
use Rattle.std.proofs.lemmas.List.Elements.{All-head, All-tail, All-nil, All-cons}
use Rattle.dle_framing.specs.declared.item.Item.{Item}
use Rattle.dle_framing.specs.declared.item.Item.TheVariants.{Good, Bad, Ack, Nak}
use Rattle.dle_framing.specs.Items.{items}
use Rattle.history_lock.specs.History.{run, IsLegal, requests_of}
use Rattle.history_lock.specs.Step.{Stepped}
use Rattle.history_lock.proofs.HistoryLemmas.{legal_front, same_answers}
use Rattle.swp08_messages.proofs.ReadingLemmas.{one_message}
use Rattle.plant_config.specs.Plant.{PlantData}
use Rattle.plant_core.specs.declared.answer.Answer.{Answer}
use Rattle.plant_core.specs.declared.request.Request.{Request}
use Rattle.plant_core.specs.declared.request.Request.TheVariants.{Poll}
use Rattle.panel_session.specs.declared.session.asked.Asked.{Asked}
use Rattle.panel_session.specs.declared.session.asked.Asked.TheVariants.{Nothing, Repeat, Refused, Noted, Named, Sent}
use Rattle.panel_session.specs.Asked.{GoodAsks, Asks, AllAsk, sent_to_plant}
use Rattle.swp08_messages.specs.Text.{kind_of}
use Rattle.swp08_messages.specs.declared.message.MessageKind.TheVariants.{Plant, Names, Report}
use Rattle.panel_session.specs.Entry.{PlantEntry}
use Rattle.panel_session.specs.Run.{IsWorked}
use Rattle.panel_session.specs.SoFar.{Progress}
use Rattle.panel_session.specs.Text.{nothing_sent, output_from}
use Rattle.panel_session.specs.Turns.{Turn, ArePolls, EndIn, bytes_read, entries_in, entries_of_turns, requests}

-- The kinds of messages differ.
plant≢report : Plant ≢ Report
plant≢report is = cc

names≢report : Names ≢ Report
names≢report is = cc

plant≢names : Plant ≢ Names
plant≢names is = cc

-- DATA asks one thing.
good_asks-one : (carried : List ℕ) (a b : Asked) → GoodAsks carried a → GoodAsks carried b → a ≡ b
good_asks-one carried (Sent message) (Sent other) asks asks' = ap Sent (one_message carried message other asks.0 asks'.0)
good_asks-one carried (Named message) (Named other) asks asks' = ap Named (one_message carried message other asks.0 asks'.0)
good_asks-one carried (Sent message) Noted asks asks' = absurd (plant≢report (sym asks.1 ∙ asks' message asks.0))
good_asks-one carried Noted (Sent message) asks asks' = absurd (plant≢report (sym asks'.1 ∙ asks message asks'.0))
good_asks-one carried (Named message) Noted asks asks' = absurd (names≢report (sym asks.1 ∙ asks' message asks.0))
good_asks-one carried Noted (Named message) asks asks' = absurd (names≢report (sym asks'.1 ∙ asks message asks'.0))
good_asks-one carried (Sent message) (Named other) asks asks' = absurd (plant≢names (sym asks.1 ∙ ap kind_of (one_message carried message other asks.0 asks'.0) ∙ asks'.1))
good_asks-one carried (Named message) (Sent other) asks asks' = absurd (plant≢names (sym asks'.1 ∙ ap kind_of (one_message carried other message asks'.0 asks.0) ∙ asks.1))
good_asks-one carried (Named message) Nothing asks asks' = absurd asks'
good_asks-one carried (Named message) Repeat asks asks' = absurd asks'
good_asks-one carried (Named message) Refused asks asks' = absurd asks'
good_asks-one carried Noted Noted asks asks' = refl
good_asks-one carried Noted Nothing asks asks' = absurd asks'
good_asks-one carried Noted Repeat asks asks' = absurd asks'
good_asks-one carried Noted Refused asks asks' = absurd asks'
good_asks-one carried (Sent message) Nothing asks asks' = absurd asks'
good_asks-one carried (Sent message) Repeat asks asks' = absurd asks'
good_asks-one carried (Sent message) Refused asks asks' = absurd asks'
good_asks-one carried Nothing b asks asks' = absurd asks
good_asks-one carried Repeat b asks asks' = absurd asks
good_asks-one carried Refused b asks asks' = absurd asks

-- An item asks one thing.
asks-one : (item : Item (List ℕ)) (a b : Asked) → Asks item a → Asks item b → a ≡ b
asks-one (Good carried) a b asks asks' = good_asks-one carried a b asks asks'
asks-one Bad a b asks asks' = asks ∙ sym asks'
asks-one Ack a b asks asks' = asks ∙ sym asks'
asks-one Nak a b asks asks' = asks ∙ sym asks'

-- Items ask one list of things.
pub all_ask-one : (its : List (Item (List ℕ))) (asked others : List Asked) → AllAsk its asked → AllAsk its others → asked ≡ others
all_ask-one [] [] [] ask ask' = refl
all_ask-one [] [] (b ∷ others) ask ask' = absurd ask'
all_ask-one [] (a ∷ asked) others ask ask' = absurd ask
all_ask-one (item ∷ its) [] others ask ask' = absurd ask
all_ask-one (item ∷ its) (a ∷ asked) [] ask ask' = absurd ask'
all_ask-one (item ∷ its) (a ∷ asked) (b ∷ others) ask ask' =
    let first = asks-one item a b ask.0 ask'.0 in
    let later = all_ask-one its asked others ask.1 ask'.1 in
    λ i. first i ∷ later i

-- the same for items that are the same
all_ask-same : (its others : List (Item (List ℕ))) (asked asked' : List Asked) → its ≡ others → AllAsk its asked → AllAsk others asked' → asked ≡ asked'
all_ask-same its others asked asked' same ask ask' =
    let AskOf : List (Item (List ℕ)) → Type 0 = λ its. AllAsk its asked' in
    all_ask-one its asked asked' ask (subst AskOf (sym same) ask')

-- Entries of one seat are told by their requests.
seated : (seat : ℕ) (entries : List PlantEntry) → All (λ entry. entry.seat ≡ seat) entries → requests_of entries ≡ map (λ (request : Request). (seat, request)) (requests entries)
seated seat [] seats = refl
seated seat (entry ∷ entries) seats =
    let first = All-head (λ (entry : PlantEntry). entry.seat ≡ seat) entry entries seats in
    let later = seated seat entries (All-tail (λ (entry : PlantEntry). entry.seat ≡ seat) entry entries seats) in
    λ i. (first i, entry.request) ∷ later i

-- Polls from one on, behind so many others of the turn: each but the last has answers and is not the 32nd, and the last has
-- none or is.
PollsFrom : Request → ℕ → List PlantEntry → Type 0
PollsFrom poll before [] = ⊥
PollsFrom poll before (entry ∷ []) = (entry.request ≡ poll) × ((entry.answers ≡ []) ⊎ (before + 1 ≡ 32))
PollsFrom poll before (entry ∷ next ∷ later) = (entry.request ≡ poll) × (entry.answers ≢ []) × (before + 1 ≢ 32) × PollsFrom poll (before + 1) (next ∷ later)

-- Polls that were all answered, and one that is the last of them.
polls_from : (poll : Request) (before : ℕ) (answered : List PlantEntry) (last : PlantEntry)
    → All (λ entry. (entry.request ≡ poll) × (entry.answers ≢ [])) answered → last.request ≡ poll
    → before + length (answered ++ last ∷ []) ≤ 32 → (last.answers ≡ []) ⊎ (before + length (answered ++ last ∷ []) ≡ 32)
    → PollsFrom poll before (answered ++ last ∷ [])
unfolding PollsFrom
polls_from poll before [] last each is within ends = (is, ends)
polls_from poll before (entry ∷ []) last each is within ends =
    let first = All-head (λ (entry : PlantEntry). (entry.request ≡ poll) × (entry.answers ≢ [])) entry [] each in
    (first.0, first.1, (λ full. omega (arith, full, within)), (is, elim ends [ (inl none) ↦ inl none | (inr full) ↦ inr (omega (arith, full)) ]))
polls_from poll before (entry ∷ next ∷ answered) last each is within ends =
    let P : PlantEntry → Type 0 = λ entry. (entry.request ≡ poll) × (entry.answers ≢ []) in
    let first = All-head P entry (next ∷ answered) each in (
      first.0,
      first.1,
      (λ full. omega (arith, full, within, length-append answered (last ∷ []))),
      polls_from poll (before + 1) (next ∷ answered) last (All-tail P entry (next ∷ answered) each) is (omega (arith, within))
          (elim ends [ (inl none) ↦ inl none | (inr full) ↦ inr (omega (arith, full)) ]),
    )

-- a turn's polls are polls from the first on
are_polls : (poll : Request) (polls : List PlantEntry) → ArePolls poll polls → PollsFrom poll 0 polls
are_polls poll polls are =
    let counted : length polls ≡ length (are.answered ++ are.last ∷ []) = ap (length {A = PlantEntry}) are.polls_are in
    let Polls : List PlantEntry → Type 0 = λ polls. PollsFrom poll 0 polls in
    subst Polls (sym are.polls_are) (polls_from poll 0 are.answered are.last are.each are.last_poll (omega (arith, are.within, counted))
    (elim are.ends [ (inl none) ↦ inl none | (inr full) ↦ inr (omega (arith, full, counted)) ]))

-- the parts of a list of which all is so
all_parts : (P : PlantEntry → Type 0) (xs ys : List PlantEntry) → All P (xs ++ ys) → All P xs × All P ys
all_parts P [] ys all = (All-nil P, all)
all_parts P (x ∷ xs) ys all =
    let later = all_parts P xs ys (All-tail P x (xs ++ ys) all) in
    (All-cons P x xs (All-head P x (xs ++ ys) all) later.0, later.1)

module _ {State : Type 0} (step : State → Request → Stepped State Answer) (Fits : State → Request → Type 0) where
  -- Entries that a machine answers in one state are the same where their seats and requests are.
  one_entry : (state : State) (poll : Request) (seat : ℕ) (one other : PlantEntry) → one.seat ≡ seat → other.seat ≡ seat → one.request ≡ poll → other.request ≡ poll
      → one.answers ≡ (step state one.request).answers → other.answers ≡ (step state other.request).answers → one ≡ other
  one_entry state poll seat one other one_seat other_seat one_poll other_poll one_answers other_answers =
      let seats : one.seat ≡ other.seat = one_seat ∙ sym other_seat in
      let polls : one.request ≡ other.request = one_poll ∙ sym other_poll in
      let answers : one.answers ≡ other.answers = one_answers ∙ ap (λ (request : Request). (step state request).answers) polls ∙ sym other_answers in
      λ i. record { seat = seats i; request = polls i; answers = answers i }

  -- Polls that a machine answers from one state on are the same.
  polls_one : (poll : Request) (seat before : ℕ) (state : State) (one other : List PlantEntry) → PollsFrom poll before one → PollsFrom poll before other
      → All (λ entry. entry.seat ≡ seat) one → All (λ entry. entry.seat ≡ seat) other → IsLegal step Fits state one → IsLegal step Fits state other → one ≡ other
  unfolding PollsFrom
  polls_one poll seat before state [] other polls polls' seats seats' legal legal' = absurd polls
  polls_one poll seat before state (e ∷ one) [] polls polls' seats seats' legal legal' = absurd polls'
  polls_one poll seat before state (e ∷ []) (f ∷ []) polls polls' seats seats' legal legal' =
      let Seated : PlantEntry → Type 0 = λ entry. entry.seat ≡ seat in
      ap (λ (entry : PlantEntry). entry ∷ []) (one_entry state poll seat e f (All-head Seated e [] seats) (All-head Seated f [] seats') polls.0 polls'.0 legal.1 legal'.1)
  polls_one poll seat before state (e ∷ []) (f ∷ g ∷ other) polls polls' seats seats' legal legal' =
      let Seated : PlantEntry → Type 0 = λ entry. entry.seat ≡ seat in
      let same = one_entry state poll seat e f (All-head Seated e [] seats) (All-head Seated f (g ∷ other) seats') polls.0 polls'.0 legal.1 legal'.1 in
      absurd (elim polls.1 [ (inl none) ↦ polls'.1 (ap (λ (entry : PlantEntry). entry.answers) (sym same) ∙ none) | (inr full) ↦ polls'.2 full ])
  polls_one poll seat before state (e ∷ h ∷ one) (f ∷ []) polls polls' seats seats' legal legal' =
      let Seated : PlantEntry → Type 0 = λ entry. entry.seat ≡ seat in
      let same = one_entry state poll seat e f (All-head Seated e (h ∷ one) seats) (All-head Seated f [] seats') polls.0 polls'.0 legal.1 legal'.1 in
      absurd (elim polls'.1 [ (inl none) ↦ polls.1 (ap (λ (entry : PlantEntry). entry.answers) same ∙ none) | (inr full) ↦ polls.2 full ])
  polls_one poll seat before state (e ∷ h ∷ one) (f ∷ g ∷ other) polls polls' seats seats' legal legal' =
      let Seated : PlantEntry → Type 0 = λ entry. entry.seat ≡ seat in
      let same = one_entry state poll seat e f (All-head Seated e (h ∷ one) seats) (All-head Seated f (g ∷ other) seats') polls.0 polls'.0 legal.1 legal'.1 in
      let LegalBehind : PlantEntry → Type 0 = λ entry. IsLegal step Fits (step state entry.request).state (g ∷ other) in
      let later = polls_one poll seat (before + 1) (step state e.request).state (h ∷ one) (g ∷ other) polls.3 polls'.3
      (All-tail Seated e (h ∷ one) seats) (All-tail Seated f (g ∷ other) seats') legal.2 (subst LegalBehind (sym same) legal'.2) in
      λ i. same i ∷ later i

  -- a legal history's later part
  pub legal_later : (first : State) (front later : List PlantEntry) → IsLegal step Fits first (front ++ later) → IsLegal step Fits (run step first front) later
  legal_later first [] later legal = legal
  legal_later first (entry ∷ front) later legal = legal_later (step first entry.request).state front later legal.2

  -- Two turns of one piece are the same, and so are the bytes that are sent in them.
  pub one_turn_lem : (plant : PlantData) (panel : ℕ) (past : Progress) (machine : State) (turn other : Turn) (more less : List ℕ)
      → IsWorked step Fits plant panel past machine turn more → IsWorked step Fits plant panel past machine other less
      → turn.piece ≡ other.piece → (turn ≡ other) × (more ≡ less)
  one_turn_lem plant panel past machine turn other more less w v same =
      let Seated : PlantEntry → Type 0 = λ entry. entry.seat ≡ panel in
      let seats = all_parts Seated turn.told turn.polls w.seats in
      let seats' = all_parts Seated other.told other.polls v.seats in
      let EndBehind : List ℕ → Type 0 = λ piece. EndIn (bytes_read past.turns) piece v.is_turn.ended in
      let ended : w.is_turn.ended ≡ v.is_turn.ended =
      append_cancel_left (items (bytes_read past.turns)) w.is_turn.ended v.is_turn.ended (sym w.is_turn.end_in ∙ subst EndBehind (sym same) v.is_turn.end_in) in
      let asked : w.is_turn.asked ≡ v.is_turn.asked = all_ask-same w.is_turn.ended v.is_turn.ended w.is_turn.asked v.is_turn.asked ended w.is_turn.ask v.is_turn.ask in
      let requested : requests turn.told ≡ requests other.told =
      w.is_turn.told ∙ ap (sent_to_plant panel (length (items (bytes_read past.turns)))) asked ∙ sym v.is_turn.told in
      let told : turn.told ≡ other.told =
      same_answers step Fits machine turn.told other.told (legal_front step Fits machine turn.told turn.polls w.legal) (legal_front step Fits machine other.told other.polls v.legal)
      (seated panel turn.told seats.0 ∙ ap (map (λ (request : Request). (panel, request))) requested ∙ sym (seated panel other.told seats'.0)) in
      let LegalBehind : List PlantEntry → Type 0 = λ told. IsLegal step Fits (run step machine told) other.polls in
      let PollsBehind : List ℕ → Type 0 = λ piece. PollsFrom (Poll panel (length (items (bytes_read past.turns ++ piece))) (length past.turns)) 0 other.polls in
      let polls : turn.polls ≡ other.polls =
      polls_one (Poll panel (length (items (bytes_read past.turns ++ turn.piece))) (length past.turns)) panel 0 (run step machine turn.told) turn.polls other.polls
      (are_polls (Poll panel (length (items (bytes_read past.turns ++ turn.piece))) (length past.turns)) turn.polls w.is_turn.polls)
      (subst PollsBehind (sym same) (are_polls (Poll panel (length (items (bytes_read past.turns ++ other.piece))) (length past.turns)) other.polls v.is_turn.polls))
      seats.1 seats'.1
      (legal_later machine turn.told turn.polls w.legal) (subst LegalBehind (sym told) (legal_later machine other.told other.polls v.legal)) in
      let turns : turn ≡ other = λ i. record { piece = same i; told = told i; polls = polls i } in
      let all_asked : w.text.asked ≡ v.text.asked =
      all_ask-same (items (bytes_read past.turns ++ turn.piece)) (items (bytes_read past.turns ++ other.piece)) w.text.asked v.text.asked
      (ap (λ (piece : List ℕ). items (bytes_read past.turns ++ piece)) same) w.text.items_ask v.text.items_ask in
      let sent : past.sent ++ more ≡ past.sent ++ less =
      w.text.bytes
      ∙ ap (λ (asked : List Asked). (output_from plant 0 asked (entries_of_turns past.turns ++ entries_in turn) nothing_sent).bytes) all_asked
      ∙ ap (λ (turn : Turn). (output_from plant 0 v.text.asked (entries_of_turns past.turns ++ entries_in turn) nothing_sent).bytes) turns
      ∙ sym v.text.bytes in
      (turns, append_cancel_left past.sent more less sent)
