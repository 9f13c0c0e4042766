-- Polls one after another, and panels that have left.
use Rattle.std.proofs.Common.{◌≡◌, ℕ, ◌<◌, ◌≤◌, Bool, true, false, cond, List, [], ◌∷◌, length, map, take, drop, slice_get, set, Option, Some, None, zero, suc, inl, inr, refl, sym, ap, subst, ◌∙◌, arith, length-drop}
use Rattle.std.proofs.lemmas.Bool.{cases_eq, cases_lt, both_ways}
use Rattle.std.proofs.lemmas.List.{get_or_past}
use Rattle.swp08_messages.specs.declared.point.Point.{Point}
use Rattle.swp08_messages.specs.declared.message.Message.{Message}
use Rattle.swp08_messages.specs.declared.message.Message.TheVariants.{Interrogate, Connect, Connected, ExtConnect, ExtTally, ExtConnected, ProtectConnect, ProtectDisconnect, ProtectTally, ProtectConnected, ProtectDisconnected, Store, Go}
use Rattle.plant_config.specs.declared.records.Change.{Change}
use Rattle.plant_config.specs.Plant.{destinations_of}
use Rattle.crosspoint_state.specs.Crosspoints.{is_idle}
use Rattle.protects.specs.Owners.{allows, may_lift, taken as taken_owner, lifted}
use Rattle.salvo_groups.specs.Groups.{group_of}
use Rattle.change_boards.specs.declared.sort.Sort.{Sort}
use Rattle.change_boards.specs.declared.sort.Sort.TheVariants.{Source, Protect}
use Rattle.std.specs.FinMap as finite
use Rattle.change_boards.specs.Board.{Board, IsEmpty, blank, abandoned, next, without, without_next}
use Rattle.change_boards.specs.Notices.{board_of, has_left, with_leave}
use Rattle.change_boards.specs.Laws.{Leaves, RemovalsInOrder, notices_below}
use Rattle.change_boards.proofs.OneNotice.{board_same, board_other, same_left}
use Rattle.change_boards.proofs.InOrder.{takes_in_order}
use Rattle.history_lock.specs.Step.{Stepped}
use Rattle.plant_core.specs.declared.request.Request.{Request}
use Rattle.plant_core.specs.declared.request.Request.TheVariants.{Told, Poll, Leave, DisplayPoll}
use Rattle.plant_core.specs.declared.answer.Answer.{Answer}
use Rattle.plant_core.specs.State.{State, IsValid, device_of, is_master, standing}
use Rattle.plant_core.specs.Wide.{tally_of}
use Rattle.plant_core.specs.Noticed.{marked_for_others}
use Rattle.plant_core.specs.Connects.{says, change_of, connected}
use Rattle.plant_core.specs.Protecting.{owner_told, has_same_owner, with_owners, protected, unprotected}
use Rattle.plant_core.specs.Salvos.{moved, gone}
use Rattle.plant_core.specs.Step.{step, dest_of, notice_of}
use Rattle.plant_core.specs.Laws.{after}
use Rattle.plant_core.specs.NoticeLaws.{answers_of, notices_of, polls_of}
use Rattle.plant_core.proofs.Outcomes.{by_made, by_gone}
use Rattle.plant_core.proofs.Noticed.{others-IsHeard, marked_stays_left}
use Rattle.plant_core.proofs.QuietLemmas.{store-quiet}
use Rattle.plant_core.proofs.Shows.{display_polled-is}
use Rattle.plant_core.proofs.StepValidity.{IsValid-step}
use Rattle.plant_core.proofs.TellLemmas.{empty_has, poll-nothing}

-- what so many takes of a panel's notices leave
in_order : (state : State) (panel takes : ℕ) → IsValid state → RemovalsInOrder (board_of state.boards panel) (destinations_of state.plant) takes
in_order state panel takes valid = takes_in_order takes (board_of state.boards panel) (destinations_of state.plant) (valid.boards.below panel)

-- a poll takes the first notice
poll-left : (state : State) (panel item turn : ℕ) → IsValid state → panel < length state.plant.panels → notices_of (step state (Poll panel item turn)).state panel ≡ drop 1 (notices_of state panel)
poll-left state panel item turn valid within =
    ap (notices_below (destinations_of state.plant)) (board_same state.boards panel (without_next (board_of state.boards panel)) (omega (arith, within, valid.boards.count)))
    ∙ (in_order state panel 1 valid).left

drop-suc : (n : ℕ) (notices : List (ℕ × Sort)) → drop n (drop 1 notices) ≡ drop (suc n) notices
drop-suc zero [] = refl
drop-suc (suc n) [] = refl
drop-suc n (notice ∷ notices) = refl

pub polls-left : (numbers : List (ℕ × ℕ)) (state : State) (panel : ℕ) → IsValid state → panel < length state.plant.panels → notices_of (after state (polls_of panel numbers)) panel ≡ drop (length numbers) (notices_of state panel)
polls-left [] state panel valid within = refl
polls-left (number ∷ numbers) state panel valid within =
    polls-left numbers (step state (Poll panel number.0 number.1)).state panel (IsValid-step state (Poll panel number.0 number.1) valid) within
    ∙ ap (drop (length numbers)) (poll-left state panel number.0 number.1 valid within)
    ∙ drop-suc (length numbers) (notices_of state panel)

-- a poll, and the polls behind it
first_answers : (state : State) (panel item turn : ℕ) (later : List (List Answer)) (count : ℕ) (notices : List (ℕ × Sort)) → IsValid state → notices_of state panel ≡ notices → suc count ≤ length notices →
    later ≡ map (λ notice. notice_of state (Some notice)) (take count (drop 1 (notices_of state panel))) →
    (step state (Poll panel item turn)).answers ∷ later ≡ map (λ notice. notice_of state (Some notice)) (take (suc count) notices)
first_answers state panel item turn later count [] valid h few rest = absurd (omega arith)
first_answers state panel item turn later count (notice ∷ notices) valid h few rest =
    let first : next (board_of state.boards panel) ≡ Some notice = (in_order state panel 0 valid).next ∙ ap (λ ns. slice_get ns 0) h in
    let left = rest ∙ ap (λ ns. map (λ notice. notice_of state (Some notice)) (take count (drop 1 ns))) h in
    λ i. notice_of state (first i) ∷ left i

pub polls-answers : (numbers : List (ℕ × ℕ)) (state : State) (panel : ℕ) → IsValid state → panel < length state.plant.panels → length numbers ≤ length (notices_of state panel) →
    answers_of state (polls_of panel numbers) ≡ map (λ notice. notice_of state (Some notice)) (take (length numbers) (notices_of state panel))
polls-answers [] state panel valid within few = refl
polls-answers (number ∷ numbers) state panel valid within few =
    let behind : State = (step state (Poll panel number.0 number.1)).state in
    let left = poll-left state panel number.0 number.1 valid within in
    let rest = polls-answers numbers behind panel (IsValid-step state (Poll panel number.0 number.1) valid) within (omega (arith, ap length left, length-drop 1 (notices_of state panel))) in
    first_answers state panel number.0 number.1 (answers_of behind (polls_of panel numbers)) (length numbers) (notices_of state panel) valid refl few
    (rest ∙ ap (λ ns. map (λ notice. notice_of state (Some notice)) (take (length numbers) ns)) left)

pub leave-Leaves : (boards : List Board) (panel : ℕ) → panel < length boards → Leaves boards (with_leave boards panel) panel
leave-Leaves boards panel within =
    let same = board_same boards panel abandoned within in
    record {
      left = ap (λ (b : Board). b.left) same;
      nothing = subst IsEmpty (sym same) (record { source = refl; protect = refl });
      others = λ p other. board_other boards panel p abandoned other;
    }

-- a panel that has left has, whichever board is changed
left_set : (boards : List Board) (p panel : ℕ) (board : Board) → (panel ≡ p → board.left ≡ true) → has_left boards panel ≡ true → has_left (set boards p board) panel ≡ true
left_set boards p panel board new left = elim (cases_eq panel p) [
  | inl here ↦ elim (cases_lt panel (length boards)) [
    | inl within ↦ ap (λ n. has_left (set boards p board) n) here ∙ ap (λ (b : Board). b.left) (board_same boards p board (omega (arith, here))) ∙ new here
    | inr past ↦ absurd (both_ways (has_left boards panel) (ap (λ (b : Board). b.left) (get_or_past boards panel blank past)) left)
  ]
  | inr other ↦ ap (λ (b : Board). b.left) (board_other boards p panel board other) ∙ left
]

taken_left : (board : Board) → (without_next board).left ≡ board.left
taken_left board = go (next board)
  where
    go : (notice : Option (ℕ × Sort)) → (without board notice).left ≡ board.left
    go None = refl
    go (Some (dest, sort)) = same_left board sort _

module _ (state : State) (panel : ℕ) (left : has_left state.boards panel ≡ true) where
  connect_left : (p : ℕ) (made refused : Message) (change : Option Change) → has_left (connected state p made refused change).state.boards panel ≡ true
  connect_left p made refused None = left
  connect_left p made refused (Some change) =
      by_made (λ (stepped : Stepped State Answer). has_left stepped.state.boards panel ≡ true) state p made refused change
      (λ may.
      elim (is_idle state.crosspoints change) as (λ b. has_left (cond b state.boards (marked_for_others state.boards p change.dest Source)) panel ≡ true) [
        | true ↦ left
        | false ↦ (others-IsHeard state.boards p change.dest Source).left panel ∙ left
      ]) left

  owners_left : (p d : ℕ) (b : Bool) → has_left (cond b state.boards (marked_for_others state.boards p d Protect)) panel ≡ true
  owners_left p d true = left
  owners_left p d false = (others-IsHeard state.boards p d Protect).left panel ∙ left

  protect_left : (p : ℕ) (at : Point) (named : Option ℕ) → has_left (protected state p at named).state.boards panel ≡ true
  protect_left p at None = left
  protect_left p at (Some d) =
      let device : ℕ = device_of state.plant p in
      elim (allows state.owners device d) as (λ b. has_left (cond b (says (with_owners state p d (taken_owner state.owners device d)) (owner_told ProtectConnected at (Some device))) (says state (owner_told ProtectTally at (finite.get state.owners d)))).state.boards panel ≡ true) [
        | true ↦ owners_left p d (has_same_owner state.owners (taken_owner state.owners device d) d)
        | false ↦ left
      ]

  lift_left : (p : ℕ) (at : Point) (named : Option ℕ) → has_left (unprotected state p at named).state.boards panel ≡ true
  lift_left p at None = left
  lift_left p at (Some d) =
      let device : ℕ = device_of state.plant p in
      let master : Bool = is_master state.plant p in
      elim (may_lift state.owners device master d) as (λ b. has_left (cond b (says (with_owners state p d (lifted state.owners device master d)) (owner_told ProtectDisconnected at None)) (says state (owner_told ProtectTally at (finite.get state.owners d)))).state.boards panel ≡ true) [
        | true ↦ owners_left p d (has_same_owner state.owners (lifted state.owners device master d) d)
        | false ↦ left
      ]

  go_left : (p : ℕ) (clear : Bool) (salvo : ℕ) → has_left (gone state p clear salvo).state.boards panel ≡ true
  go_left p clear salvo =
      by_gone (λ (stepped : Stepped State Answer). has_left stepped.state.boards panel ≡ true) state p clear salvo
      (λ may. marked_stays_left (moved state.crosspoints (group_of state.groups salvo)) state.boards panel ∙ left) (λ cleared. left) (λ status. left)

  told_left : (p item : ℕ) (message : Message) → has_left (step state (Told p item message)).state.boards panel ≡ true
  told_left p item (Interrogate at) = left
  told_left p item (Connect at source) = connect_left p (Connected at source) (tally_of at (standing state at)) (change_of state.plant at source)
  told_left p item (ExtConnect at source) = connect_left p (ExtConnected at source) (ExtTally at (standing state at)) (change_of state.plant at source)
  told_left p item (ProtectConnect at device) = protect_left p at (dest_of state at)
  told_left p item (ProtectDisconnect at device) = lift_left p at (dest_of state at)
  told_left p item (Store at source salvo) = ap (λ (b : List Board). has_left b panel) (store-quiet state at source salvo (change_of state.plant at source)) ∙ left
  told_left p item (Go clear salvo) = go_left p clear salvo
  told_left p item message = left

left-step : (state : State) (panel : ℕ) (request : Request) → has_left state.boards panel ≡ true → has_left (step state request).state.boards panel ≡ true
left-step state panel (Told p item message) left = told_left state panel left p item message
left-step state panel (Poll p item turn) left =
    left_set state.boards p panel (without_next (board_of state.boards p)) (λ here. taken_left (board_of state.boards p) ∙ ap (has_left state.boards) (sym here) ∙ left) left
left-step state panel (Leave p) left = left_set state.boards p panel abandoned (λ here. refl) left
left-step state panel (DisplayPoll screen refresh) left = ap (λ (state : State). has_left state.boards panel) (display_polled-is state screen refresh) ∙ left

pub stays_left : (later : List Request) (state : State) (panel : ℕ) → has_left state.boards panel ≡ true → has_left (after state later).boards panel ≡ true
stays_left [] state panel left = left
stays_left (request ∷ later) state panel left = stays_left later (step state request).state panel (left-step state panel request left)

pub left-nothing : (state : State) (panel item turn : ℕ) → IsValid state → has_left state.boards panel ≡ true → step state (Poll panel item turn) ≡ record { state = state; answers = [] }
left-nothing state panel item turn valid left =
    poll-nothing state panel item turn valid (λ dest sort. empty_has (board_of state.boards panel) dest sort (valid.boards.left panel left))
