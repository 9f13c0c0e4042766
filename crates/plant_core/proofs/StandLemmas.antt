-- How long notices stand.
use Rattle.std.proofs.Common.{◌≡◌, ◌≢◌, ◌⊎◌, ℕ, Bool, true, false, cond, List, [], ◌∷◌, All, Option, Some, None, suc, inl, inr, refl, sym, ap, subst, ◌∙◌, arith}
use Rattle.std.proofs.lemmas.Bool.{cases_eq}
use Rattle.std.specs.FinMap as finite
use Rattle.swp08_messages.specs.declared.point.Point.{Point}
use Rattle.swp08_messages.specs.declared.message.Message.{Message}
use Rattle.swp08_messages.specs.declared.message.Message.TheVariants.{Interrogate, Connect, Connected, ExtConnect, ExtTally, ExtConnected, ProtectConnect, ProtectDisconnect, ProtectTally, ProtectConnected, ProtectDisconnected, Store, Go}
use Rattle.plant_config.specs.declared.records.Change.{Change}
use Rattle.crosspoint_state.specs.Crosspoints.{is_idle}
use Rattle.protects.specs.Owners.{allows, may_lift, taken, lifted}
use Rattle.salvo_groups.specs.Groups.{group_of}
use Rattle.change_boards.specs.declared.sort.Sort.{Sort}
use Rattle.change_boards.specs.declared.sort.Sort.TheVariants.{Source, Protect}
use Rattle.change_boards.specs.Board.{Board, abandoned, has_notice, without_next as taken_board}
use Rattle.change_boards.specs.Notices.{board_of, has}
use Rattle.change_boards.proofs.OneNotice.{board_other}
use Rattle.history_lock.specs.Step.{Stepped}
use Rattle.plant_core.specs.declared.request.Request.{Request}
use Rattle.plant_core.specs.declared.request.Request.TheVariants.{Told, Poll, Leave, DisplayPoll}
use Rattle.plant_core.specs.declared.answer.Answer.{Answer}
use Rattle.plant_core.specs.State.{State, IsValid, device_of, is_master, standing}
use Rattle.plant_core.specs.Wide.{tally_of}
use Rattle.plant_core.specs.Noticed.{marked_for_others}
use Rattle.plant_core.specs.Connects.{says, change_of, connected}
use Rattle.plant_core.specs.Protecting.{owner_told, has_same_owner, with_owners, protected, unprotected}
use Rattle.plant_core.specs.Salvos.{moved, gone}
use Rattle.plant_core.specs.Step.{step, dest_of}
use Rattle.plant_core.specs.Laws.{after}
use Rattle.plant_core.specs.NoticeLaws.{PollTells, IsToldAmong, IsNoPollOrLeave}
use Rattle.plant_core.proofs.Noticed.{others_keep, marked_keeps, same_notice}
use Rattle.plant_core.proofs.TellLemmas.{poll-IsTold}
use Rattle.plant_core.proofs.Outcomes.{by_made, by_gone}
use Rattle.plant_core.proofs.Shows.{display_polled-is}
use Rattle.plant_core.proofs.StepValidity.{IsValid-step}
use Rattle.plant_core.proofs.QuietLemmas.{store-quiet}

-- a notice stands behind each request that isn't a poll or a leave of its panel
module _ (state : State) (panel dest : ℕ) (sort : Sort) (stands : has state.boards panel dest sort ≡ true) where
  connect_keeps : (p : ℕ) (made refused : Message) (change : Option Change) → has (connected state p made refused change).state.boards panel dest sort ≡ true
  connect_keeps p made refused None = stands
  connect_keeps p made refused (Some change) =
      by_made (λ (stepped : Stepped State Answer). has stepped.state.boards panel dest sort ≡ true) state p made refused change
      (λ may.
      elim (is_idle state.crosspoints change) as (λ b. has (cond b state.boards (marked_for_others state.boards p change.dest Source)) panel dest sort ≡ true) [
        | true ↦ stands
        | false ↦ others_keep state.boards p change.dest Source panel dest sort stands
      ]) stands

  owners_keep : (p d : ℕ) (b : Bool) → has (cond b state.boards (marked_for_others state.boards p d Protect)) panel dest sort ≡ true
  owners_keep p d true = stands
  owners_keep p d false = others_keep state.boards p d Protect panel dest sort stands

  protect_keeps : (p : ℕ) (at : Point) (named : Option ℕ) → has (protected state p at named).state.boards panel dest sort ≡ true
  protect_keeps p at None = stands
  protect_keeps p at (Some d) =
      let device : ℕ = device_of state.plant p in
      elim (allows state.owners device d) as (λ b. has (cond b (says (with_owners state p d (taken state.owners device d)) (owner_told ProtectConnected at (Some device))) (says state (owner_told ProtectTally at (finite.get state.owners d)))).state.boards panel dest sort ≡ true) [
        | true ↦ owners_keep p d (has_same_owner state.owners (taken state.owners device d) d)
        | false ↦ stands
      ]

  lift_keeps : (p : ℕ) (at : Point) (named : Option ℕ) → has (unprotected state p at named).state.boards panel dest sort ≡ true
  lift_keeps p at None = stands
  lift_keeps p at (Some d) =
      let device : ℕ = device_of state.plant p in
      let master : Bool = is_master state.plant p in
      elim (may_lift state.owners device master d) as (λ b. has (cond b (says (with_owners state p d (lifted state.owners device master d)) (owner_told ProtectDisconnected at None)) (says state (owner_told ProtectTally at (finite.get state.owners d)))).state.boards panel dest sort ≡ true) [
        | true ↦ owners_keep p d (has_same_owner state.owners (lifted state.owners device master d) d)
        | false ↦ stands
      ]

  go_keeps : (p : ℕ) (clear : Bool) (salvo : ℕ) → has (gone state p clear salvo).state.boards panel dest sort ≡ true
  go_keeps p clear salvo =
      by_gone (λ (stepped : Stepped State Answer). has stepped.state.boards panel dest sort ≡ true) state p clear salvo
      (λ may. marked_keeps (moved state.crosspoints (group_of state.groups salvo)) state.boards panel dest sort stands) (λ cleared. stands) (λ status. stands)

  told_keeps : (p item : ℕ) (message : Message) → has (step state (Told p item message)).state.boards panel dest sort ≡ true
  told_keeps p item (Interrogate at) = stands
  told_keeps p item (Connect at source) = connect_keeps p (Connected at source) (tally_of at (standing state at)) (change_of state.plant at source)
  told_keeps p item (ExtConnect at source) = connect_keeps p (ExtConnected at source) (ExtTally at (standing state at)) (change_of state.plant at source)
  told_keeps p item (ProtectConnect at device) = protect_keeps p at (dest_of state at)
  told_keeps p item (ProtectDisconnect at device) = lift_keeps p at (dest_of state at)
  told_keeps p item (Store at source salvo) = ap (λ (b : List Board). has b panel dest sort) (store-quiet state at source salvo (change_of state.plant at source)) ∙ stands
  told_keeps p item (Go clear salvo) = go_keeps p clear salvo
  told_keeps p item message = stands

  pub keeps_notice : (request : Request) → IsNoPollOrLeave panel request → has (step state request).state.boards panel dest sort ≡ true
  keeps_notice (Told p item message) of = told_keeps p item message
  keeps_notice (Poll p item turn) of =
      let other : panel ≢ p = λ same. of.0 item turn (ap (λ n. Poll n item turn) (sym same)) in
      ap (λ b. has_notice b dest sort) (board_other state.boards p panel (taken_board (board_of state.boards p)) other) ∙ stands
  keeps_notice (Leave p) of =
      let other : panel ≢ p = λ same. of.1 (ap Leave (sym same)) in
      ap (λ b. has_notice b dest sort) (board_other state.boards p panel abandoned other) ∙ stands
  keeps_notice (DisplayPoll screen refresh) of = ap (λ (state : State). has state.boards panel dest sort) (display_polled-is state screen refresh) ∙ stands

-- a request is of others, or it is a poll of the panel
whose : (panel : ℕ) (request : Request) → ¬ (request ≡ Leave panel) → IsNoPollOrLeave panel request ⊎ ((item : ℕ) × (turn : ℕ) × (request ≡ Poll panel item turn))
whose panel (Told p item message) stays = inl (λ i t e. absurd cc, stays)
whose panel (Poll p item turn) stays = elim (cases_eq p panel) [
  | inl here ↦ inr (item, turn, ap (λ n. Poll n item turn) here)
  | inr other ↦ inl (λ i t e. other cc, stays)
]
whose panel (Leave p) stays = inl (λ i t e. absurd cc, stays)
whose panel (DisplayPoll screen refresh) stays = inl (λ i t e. absurd cc, stays)

later_told : (state : State) (panel dest : ℕ) (sort : Sort) (request : Request) (later : List Request) → IsToldAmong (step state request).state panel dest sort later → IsToldAmong state panel dest sort (request ∷ later)
later_told state panel dest sort request later told = record {
  before = request ∷ told.before;
  behind = told.behind;
  item = told.item;
  turn = told.turn;
  among = ap (λ (rs : List Request). request ∷ rs) told.among;
  told = told.told;
}

-- what holds behind a request holds of it and the later ones
stands_behind : (state : State) (panel dest : ℕ) (sort : Sort) (request : Request) (later : List Request) →
    (has (after (step state request).state later).boards panel dest sort ≡ true) ⊎ IsToldAmong (step state request).state panel dest sort later →
    (has (after state (request ∷ later)).boards panel dest sort ≡ true) ⊎ IsToldAmong state panel dest sort (request ∷ later)
stands_behind state panel dest sort request later (inl still) = inl still
stands_behind state panel dest sort request later (inr told) = inr (later_told state panel dest sort request later told)

-- a poll of the panel tells of the destination, or of another and leaves the notice
polled : (state : State) (panel dest : ℕ) (sort : Sort) (item turn : ℕ) (later : List Request) → IsValid state → has state.boards panel dest sort ≡ true →
    IsToldAmong state panel dest sort (Poll panel item turn ∷ later) ⊎ (has (step state (Poll panel item turn)).state.boards panel dest sort ≡ true)
polled state panel dest sort item turn later valid h =
    let first = poll-IsTold state panel dest item turn sort valid h in
    elim (same_notice dest first.0 sort first.1) [
      | inl same ↦ inl (record {
        before = [];
        behind = later;
        item = item;
        turn = turn;
        among = refl;
        told = subst (λ (n : ℕ × Sort). PollTells state panel item turn n.0 n.1) (λ i. (sym same.0 i, sym same.1 i)) first.2;
      })
      | inr other ↦ inr (first.2.taken.rest.others panel dest sort (λ e. other (λ i. ((e i).1, (e i).2))) ∙ h)
    ]

-- a notice is still there behind a request, or the panel is told of the destination
one_request : (state : State) (panel dest : ℕ) (sort : Sort) (request : Request) (later : List Request) → IsValid state → has state.boards panel dest sort ≡ true → ¬ (request ≡ Leave panel) →
    IsToldAmong state panel dest sort (request ∷ later) ⊎ (has (step state request).state.boards panel dest sort ≡ true)
one_request state panel dest sort request later valid h stays = elim (whose panel request stays) [
  | inl of ↦ inr (keeps_notice state panel dest sort h request of)
  | inr poll ↦
      subst (λ (r : Request). IsToldAmong state panel dest sort (r ∷ later) ⊎ (has (step state r).state.boards panel dest sort ≡ true)) (sym poll.2)
      (polled state panel dest sort poll.0 poll.1 later valid h)
]

pub stands_until_told : (state : State) (panel dest : ℕ) (sort : Sort) (later : List Request) → IsValid state → has state.boards panel dest sort ≡ true → All (λ request. ¬ (request ≡ Leave panel)) later →
    (has (after state later).boards panel dest sort ≡ true) ⊎ IsToldAmong state panel dest sort later
stands_until_told state panel dest sort [] valid h stays = inl h
stands_until_told state panel dest sort (request ∷ later) valid h stays = elim (one_request state panel dest sort request later valid h (stays 0 request (omega arith))) [
  | inl told ↦ inr told
  | inr still ↦
      stands_behind state panel dest sort request later (stands_until_told (step state request).state panel dest sort later (IsValid-step state request valid) still (λ k r below. stays (suc k) r (omega arith)))
]
