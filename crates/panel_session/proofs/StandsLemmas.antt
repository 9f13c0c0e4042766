-- What a session stands for, item by item.
use Rattle.std.proofs.Common.{◌≡◌, ℕ, ◌+◌, ◌-◌, ◌^◌, ◌<◌, ◌≤◌, List, [], ◌∷◌, ◌++◌, length, refl, sym, ap, ◌∙◌, subst, arith}
use Rattle.std.proofs.Math.Nat.{mod-eq_of_lt}
use Rattle.std.proofs.lemmas.List.{length-append}
use Rattle.std.proofs.lemmas.List.Sums.{sum_by-append, count_by-le-length}
use Rattle.dle_framing.specs.Framer as framer
use Rattle.dle_framing.specs.declared.framer.Framer.{Framer}
use Rattle.dle_framing.specs.declared.item.Item.{Item}
use Rattle.dle_framing.specs.declared.item.Item.TheVariants.{Good, Bad, Ack, Nak}
use Rattle.dle_framing.specs.Items.{items}
use Rattle.swp08_messages.specs.declared.message.Message.{Message}
use Rattle.dle_framing.proofs.LawLemmas.{items_front}
use Rattle.plant_config.specs.Plant.{PlantData}
use Rattle.plant_core.specs.declared.answer.Answer.{Answer}
use Rattle.plant_core.specs.declared.request.Request.TheVariants.{Told}
use Rattle.panel_session.specs.declared.session.asked.Asked.{Asked}
use Rattle.panel_session.specs.declared.session.asked.Asked.TheVariants.{Nothing, Repeat, Refused, Noted, Named, Sent}
use Rattle.panel_session.specs.declared.session.Session.{Session}
use Rattle.panel_session.specs.declared.session.phase.Phase.{Phase}
use Rattle.panel_session.specs.declared.session.phase.Phase.TheVariants.{Read, Tell, Poll as PollStage}
use Rattle.panel_session.specs.Asked.{Asks}
use Rattle.panel_session.specs.declared.session.counts.Counts.{Counts}
use Rattle.panel_session.specs.Counted.{is_good_item, is_bad_item, goods_of, bads_of}
use Rattle.panel_session.specs.SoFar.{Progress, read_so_far, with_bytes, with_sent}
use Rattle.panel_session.specs.TakenInside.{taken_phase, taken_output, sent_by}
use Rattle.panel_session.specs.Text.{Output}
use Rattle.panel_session.specs.StandsInside.{Kept, Keeps}
use Rattle.panel_session.specs.NamesLeftInside.{NamesNone}
use Rattle.panel_session.specs.Session.{Stands, kept_of}
use Rattle.panel_session.specs.MovesInside.{next, counts_with, phase_with, took, took_answers}
use Rattle.panel_session.proofs.KeptItemLemmas.{reading, read-more, keeps_item, keeps_none, keeps_to_poll}
use Rattle.panel_session.specs.Entry.{PlantEntry}
use Rattle.panel_session.proofs.KeepsLemmas.{keeps_told, with_answered}

-- one more of a number that is far from the end
pub next-small : (n : ℕ) → n < 2 ^ 62 → next n ≡ n + 1
next-small n small = mod-eq_of_lt (omega arith)

-- the items of a text, and of one with more behind
pub fewer_items : (text more : List ℕ) → length (items text) ≤ length (items (text ++ more))
fewer_items text more =
    let front = items_front text (text ++ more) (more, refl) in
    omega (arith, ap (length {A = Item (List ℕ)}) front.1, length-append (items text) front.0)

-- What is counted of an item more.
goods-more : (its : List (Item (List ℕ))) (item : Item (List ℕ)) → goods_of (its ++ item ∷ []) ≡ goods_of its + goods_of (item ∷ [])
goods-more its item = sum_by-append _ its (item ∷ [])

bads-more : (its : List (Item (List ℕ))) (item : Item (List ℕ)) → bads_of (its ++ item ∷ []) ≡ bads_of its + bads_of (item ∷ [])
bads-more its item = sum_by-append _ its (item ∷ [])

goods-with : (a : Asked) (item : Item (List ℕ)) (counts : Counts) → Asks item a → counts.goods < 2 ^ 62 → (counts_with a counts).goods ≡ counts.goods + goods_of (item ∷ [])
goods-with Nothing (Good carried) counts asks small = absurd asks
goods-with Repeat (Good carried) counts asks small = absurd asks
goods-with Refused (Good carried) counts asks small = absurd asks
goods-with Noted (Good carried) counts asks small = next-small counts.goods small
goods-with (Named message) (Good carried) counts asks small = next-small counts.goods small
goods-with (Sent message) (Good carried) counts asks small = next-small counts.goods small
goods-with Nothing Ack counts asks small = omega arith
goods-with Repeat Nak counts asks small = omega arith
goods-with Refused Bad counts asks small = omega arith
goods-with Nothing Bad counts asks small = cc
goods-with Nothing Nak counts asks small = cc
goods-with Repeat Bad counts asks small = cc
goods-with Repeat Ack counts asks small = cc
goods-with Refused Ack counts asks small = cc
goods-with Refused Nak counts asks small = cc
goods-with Noted Bad counts asks small = cc
goods-with (Named message) Bad counts asks small = cc
goods-with Noted Ack counts asks small = cc
goods-with (Named message) Ack counts asks small = cc
goods-with Noted Nak counts asks small = cc
goods-with (Named message) Nak counts asks small = cc
goods-with (Sent message) Bad counts asks small = cc
goods-with (Sent message) Ack counts asks small = cc
goods-with (Sent message) Nak counts asks small = cc

bads-with : (a : Asked) (item : Item (List ℕ)) (counts : Counts) → Asks item a → counts.bads < 2 ^ 62 → (counts_with a counts).bads ≡ counts.bads + bads_of (item ∷ [])
bads-with Nothing (Good carried) counts asks small = absurd asks
bads-with Repeat (Good carried) counts asks small = absurd asks
bads-with Refused (Good carried) counts asks small = absurd asks
bads-with Noted (Good carried) counts asks small = omega arith
bads-with (Named message) (Good carried) counts asks small = omega arith
bads-with (Sent message) (Good carried) counts asks small = omega arith
bads-with Nothing Ack counts asks small = omega arith
bads-with Repeat Nak counts asks small = omega arith
bads-with Refused Bad counts asks small = next-small counts.bads small
bads-with Nothing Bad counts asks small = cc
bads-with Nothing Nak counts asks small = cc
bads-with Repeat Bad counts asks small = cc
bads-with Repeat Ack counts asks small = cc
bads-with Refused Ack counts asks small = cc
bads-with Refused Nak counts asks small = cc
bads-with Noted Bad counts asks small = cc
bads-with (Named message) Bad counts asks small = cc
bads-with Noted Ack counts asks small = cc
bads-with (Named message) Ack counts asks small = cc
bads-with Noted Nak counts asks small = cc
bads-with (Named message) Nak counts asks small = cc
bads-with (Sent message) Bad counts asks small = cc
bads-with (Sent message) Ack counts asks small = cc
bads-with (Sent message) Nak counts asks small = cc

turns-with : (a : Asked) (counts : Counts) → (counts_with a counts).turns ≡ counts.turns
turns-with Nothing counts = refl
turns-with Repeat counts = refl
turns-with Refused counts = refl
turns-with Noted counts = refl
turns-with (Named message) counts = refl
turns-with (Sent message) counts = refl

pub phase-is : (a : Asked) (phase : Phase) → phase ≡ Read → phase_with a phase ≡ taken_phase a
phase-is Nothing phase read = read
phase-is Repeat phase read = read
phase-is Refused phase read = read
phase-is Noted phase read = read
phase-is (Named message) phase read = read
phase-is (Sent message) phase read = refl

-- what is kept, by its parts
pub kept_same : (panel polls : ℕ) (output : Output) (phase phase_then : Phase) (count count_then turns turns_then : ℕ) → phase ≡ phase_then → count ≡ count_then → turns ≡ turns_then
    → let kept : Phase → ℕ → ℕ → Kept = λ phase count turns. record { panel = panel; phase = phase; items = count; turns = turns; polls = polls; output = output } in
    kept phase count turns ≡ kept phase_then count_then turns_then
kept_same panel polls output phase phase_then count count_then turns turns_then same_phase same_count same_turns =
    let kept : Phase → ℕ → ℕ → Kept = λ phase count turns. record { panel = panel; phase = phase; items = count; turns = turns; polls = polls; output = output } in
    ap (λ (phase : Phase). kept phase count turns) same_phase
    ∙ ap (λ (count : ℕ). kept phase_then count turns) same_count
    ∙ ap (λ (turns : ℕ). kept phase_then count_then turns) same_turns

-- a session at a phase
pub at_phase : (session : Session) (phase : Phase) → session.phase ≡ phase
    → kept_of session ≡ record { panel = session.panel; phase = phase; items = session.items; turns = session.counts.turns; polls = session.polls; output = session.sender.output }
at_phase session phase at = ap (λ (phase : Phase). record (kept_of session) { phase = phase }) at

-- no pages of names are left at what an item makes of a session
pub taken_plain : (a : Asked) → NamesNone (taken_phase a)
taken_plain Nothing = tt
taken_plain Repeat = tt
taken_plain Refused = tt
taken_plain Noted = tt
taken_plain (Named message) = tt
taken_plain (Sent message) = tt

-- An item was read.
pub stands_item : (plant : PlantData) (panel : ℕ) (session : Session) (past : Progress) (bytes : List ℕ) (item : Item (List ℕ)) (a : Asked) (framer_then : Framer) → Stands plant panel session past
    → session.phase ≡ Read → items (read_so_far past ++ bytes) ≡ items (read_so_far past) ++ item ∷ [] → Asks item a
    → framer.StandsFor framer_then (read_so_far past ++ bytes) → length (items (read_so_far past ++ bytes)) < 2 ^ 62
    → Stands plant panel (took plant a (record session { framer = framer_then })) (with_sent (sent_by plant a session.sender.output) (with_bytes bytes past))
stands_item plant panel session past bytes item a framer_then stands read adds asks fed small =
    let its = items (read_so_far past) in
    let later = with_bytes bytes past in
    let counted : length (items (read_so_far past ++ bytes)) ≡ length its + 1 = ap (length {A = Item (List ℕ)}) adds ∙ length-append its (item ∷ []) in
    let KeepsOf : Kept → Type 0 = λ kept. Keeps plant kept past in
    let k : Keeps plant (reading session.panel session.items session.counts.turns session.polls session.sender.output) past = subst KeepsOf (at_phase session Read read) stands.keeps in
    let KeepsThen : Kept → Type 0 = λ kept. Keeps plant kept (with_sent (sent_by plant a session.sender.output) later) in
    let FedOf : List ℕ → Type 0 = λ text. framer.StandsFor framer_then text in
    let all : items (read_so_far later) ≡ its ++ item ∷ [] = ap items (sym (read-more past bytes)) ∙ adds in
    let items_are : session.items ≡ length its = k.items_are in
    let goods_small : session.counts.goods < 2 ^ 62 = omega (arith, stands.goods, count_by-le-length is_good_item its) in
    let bads_small : session.counts.bads < 2 ^ 62 = omega (arith, stands.bads, count_by-le-length is_bad_item its) in
    record {
      plant_is = stands.plant_is;
      names_are = stands.names_are;
      panel_is = stands.panel_is;
      has_panel = stands.has_panel;
      framer = subst FedOf (read-more past bytes) fed;
      keeps = subst KeepsThen
          (sym (kept_same session.panel session.polls (taken_output plant a session.sender.output) (phase_with a session.phase) (taken_phase a) (next session.items) (session.items + 1)
          (counts_with a session.counts).turns session.counts.turns (phase-is a session.phase read) (next-small session.items (omega arith)) (turns-with a session.counts)))
          (keeps_item plant a item session.panel session.items session.counts.turns session.polls session.sender.output past bytes k adds asks);
      goods = goods-with a item session.counts asks goods_small ∙ ap (λ (n : ℕ). n + goods_of (item ∷ [])) stands.goods ∙ sym (goods-more its item) ∙ ap goods_of (sym all);
      bads = bads-with a item session.counts asks bads_small ∙ ap (λ (n : ℕ). n + bads_of (item ∷ [])) stands.bads ∙ sym (bads-more its item) ∙ ap bads_of (sym all);
      places = stands.places;
    }

-- Bytes in which no item ends were read.
pub stands_none : (plant : PlantData) (panel : ℕ) (session : Session) (past : Progress) (bytes : List ℕ) (framer_then : Framer) → Stands plant panel session past
    → session.phase ≡ Read → items (read_so_far past ++ bytes) ≡ items (read_so_far past)
    → framer.StandsFor framer_then (read_so_far past ++ bytes) → Stands plant panel (record session { framer = framer_then }) (with_bytes bytes past)
stands_none plant panel session past bytes framer_then stands read adds fed =
    let later = with_bytes bytes past in
    let KeepsOf : Kept → Type 0 = λ kept. Keeps plant kept past in
    let k : Keeps plant (reading session.panel session.items session.counts.turns session.polls session.sender.output) past = subst KeepsOf (at_phase session Read read) stands.keeps in
    let KeepsThen : Kept → Type 0 = λ kept. Keeps plant kept later in
    let FedOf : List ℕ → Type 0 = λ text. framer.StandsFor framer_then text in
    let all : items (read_so_far later) ≡ items (read_so_far past) = ap items (sym (read-more past bytes)) ∙ adds in
    record {
      plant_is = stands.plant_is;
      names_are = stands.names_are;
      panel_is = stands.panel_is;
      has_panel = stands.has_panel;
      framer = subst FedOf (read-more past bytes) fed;
      keeps = subst KeepsThen (sym (at_phase session Read read)) (keeps_none plant session.panel session.items session.counts.turns session.polls session.sender.output past bytes k adds);
      goods = stands.goods ∙ ap goods_of (sym all);
      bads = stands.bads ∙ ap bads_of (sym all);
      places = stands.places;
    }

-- Other parts of a session that keep the same past.
pub stands_with : (plant : PlantData) (panel : ℕ) (session after : Session) (past later : Progress) → Stands plant panel session past → read_so_far later ≡ read_so_far past → after.plant ≡ session.plant → after.sender.names ≡ session.sender.names → after.framer ≡ session.framer
    → after.counts.goods ≡ session.counts.goods → after.counts.bads ≡ session.counts.bads → after.outbox.places ≡ session.outbox.places → after.panel ≡ session.panel
    → Keeps plant (kept_of after) later → Stands plant panel after later
stands_with plant panel session after past later stands read same_plant same_names same_framer same_goods same_bads same_places same_panel keeps =
    let FedBy : Framer → Type 0 = λ one. framer.StandsFor one (read_so_far past) in
    let FedOf : List ℕ → Type 0 = λ text. framer.StandsFor after.framer text in
    record {
      plant_is = ap (λ (plant : _). plant.now) same_plant ∙ stands.plant_is;
      names_are = same_names ∙ stands.names_are;
      panel_is = same_panel ∙ stands.panel_is;
      has_panel = stands.has_panel;
      framer = subst FedOf (sym read) (subst FedBy (sym same_framer) stands.framer);
      keeps = keeps;
      goods = same_goods ∙ stands.goods ∙ ap (λ (text : List ℕ). goods_of (items text)) (sym read);
      bads = same_bads ∙ stands.bads ∙ ap (λ (text : List ℕ). bads_of (items text)) (sym read);
      places = same_places ∙ stands.places;
    }

-- The piece is used up, and polls come.
pub stands_to_poll : (plant : PlantData) (panel : ℕ) (session : Session) (past : Progress) → Stands plant panel session past → session.phase ≡ Read → Stands plant panel (record session { phase = PollStage }) past
stands_to_poll plant panel session past stands read =
    let KeepsOf : Kept → Type 0 = λ kept. Keeps plant kept past in
    let k : Keeps plant (reading session.panel session.items session.counts.turns session.polls session.sender.output) past = subst KeepsOf (at_phase session Read read) stands.keeps in
    stands_with plant panel session (record session { phase = PollStage }) past past stands refl refl refl refl refl refl refl refl
    (keeps_to_poll plant session.panel session.items session.counts.turns session.polls session.sender.output past k)

-- The plant answered what an item sent to it, and the frames of the answers are sent.
pub stands_told : (plant : PlantData) (panel seat : ℕ) (session : Session) (past : Progress) (message : Message) (answers : List Answer) → Stands plant panel session past → session.phase ≡ Tell message
    → Stands plant panel (took_answers answers (record session { phase = Read }))
    (with_answered session.sender.output (record { seat = seat; request = Told session.panel (session.items - 1) message; answers = answers }) past)
stands_told plant panel seat session past message answers stands tell =
    let KeepsOf : Kept → Type 0 = λ kept. Keeps plant kept past in
    let k = subst KeepsOf (at_phase session (Tell message) tell) stands.keeps in
    let entry : PlantEntry = record { seat = seat; request = Told session.panel (session.items - 1) message; answers = answers } in
    stands_with plant panel session (took_answers answers (record session { phase = Read })) past
    (with_answered session.sender.output entry past) stands refl refl refl refl refl refl refl refl
    (keeps_told plant session.panel session.items session.counts.turns session.polls seat message session.sender.output past answers k)
