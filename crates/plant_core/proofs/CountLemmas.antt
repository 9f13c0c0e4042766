-- How many answers there are.
use Rattle.std.proofs.Common.{◌≡◌, ℕ, ◌≤◌, nat_lt, Bool, true, false, cond, List, [], ◌∷◌, length, Option, Some, None, max, inl, inr, refl, sym, ◌∙◌, arith}
use Rattle.std.specs.Prelude.{◌==◌, ◌&&◌, find}
use Rattle.std.specs.List.{fold}
use Rattle.std.specs.Option.{option_map_or}
use Rattle.std.proofs.lemmas.List.FromFn.{length-map-range_with_len}
use Rattle.std.proofs.lemmas.Bool.{cases_lt, false≢true, lt-ltb, or_parts}
use Rattle.swp08_messages.specs.declared.point.Point.{Point}
use Rattle.swp08_messages.specs.declared.message.Message.{Message}
use Rattle.swp08_messages.specs.declared.message.Message.TheVariants.{Interrogate, Connect, Connected, ExtConnect, ExtTally, ExtConnected, ExtInterrogate, ProtectAsk, ProtectConnect, ProtectDisconnect, ProtectTally, ProtectConnected, ProtectDisconnected, DumpAsk, Store, Stored, Go, EntryAsk}
use Rattle.std.specs.FinMap as finite
use Rattle.protects.specs.Owners.{allows, may_lift, taken, lifted}
use Rattle.salvo_groups.specs.Groups.{group_of, may_store, with_store}
use Rattle.plant_config.specs.declared.records.Change.{Change}
use Rattle.plant_config.specs.declared.records.Level.{Level}
use Rattle.plant_config.specs.Plant.{PlantData}
use Rattle.plant_config.specs.IsPlant.{IsPlant}
use Rattle.change_boards.specs.declared.sort.Sort.{Sort}
use Rattle.change_boards.specs.Board.{next}
use Rattle.change_boards.specs.Notices.{board_of}
use Rattle.history_lock.specs.Step.{Stepped}
use Rattle.plant_core.specs.declared.request.Request.{Request}
use Rattle.plant_core.specs.declared.request.Request.TheVariants.{Told, Poll, Leave, DisplayPoll}
use Rattle.plant_core.specs.declared.answer.Answer.{Answer}
use Rattle.plant_core.specs.State.{State, Fits, device_of, is_master, standing}
use Rattle.plant_core.specs.Wide.{is_wide, tally_of}
use Rattle.plant_core.specs.Connects.{says, says_nothing, change_of, connected}
use Rattle.plant_core.specs.Protecting.{owner_told, with_owners, protected, unprotected}
use Rattle.plant_core.specs.Salvos.{stored_in, gone}
use Rattle.plant_core.specs.Step.{step, dest_of, dest_count, dumped_at, notice_of}
use Rattle.plant_core.specs.Answer.{IsAnswerCount, with_room, room_of}
use Rattle.plant_core.proofs.Shows.{display_polled-few}
use Rattle.plant_core.proofs.Outcomes.{by_made, by_gone}

-- a level that isn't wide has no more destinations than can be told
pub narrow-few : (level : Level) → is_wide level ≡ false → level.destinations ≤ 1024
narrow-few level narrow =
    let few : nat_lt 1024 level.destinations ≡ false = (or_parts (nat_lt 1024 level.destinations) (nat_lt 1023 level.sources) narrow).0 in
    elim (cases_lt 1024 level.destinations) [
      | inl more ↦ absurd (false≢true (sym few ∙ lt-ltb 1024 level.destinations more))
      | inr most ↦ most
    ]

room_small : (most : ℕ) (level : Level) → most ≤ 1024 → with_room most level ≤ 1024
room_small most level within = by (is_wide level) refl
  where
    by : (b : Bool) → is_wide level ≡ b → cond b most (max most level.destinations) ≤ 1024
    by true wide = within
    by false narrow = omega (arith, within, narrow-few level narrow)

room_grows : (most : ℕ) (level : Level) → most ≤ with_room most level
room_grows most level = elim (is_wide level) as (λ b. most ≤ cond b most (max most level.destinations)) [ true ↦ omega arith | false ↦ omega arith ]

room_counts : (most : ℕ) (level : Level) → cond (is_wide level) 0 level.destinations ≤ with_room most level
room_counts most level = elim (is_wide level) as (λ b. cond b 0 level.destinations ≤ cond b most (max most level.destinations)) [ true ↦ omega arith | false ↦ omega arith ]

-- no level that isn't wide has more destinations
pub room_within : (plant : PlantData) → IsPlant plant → room_of plant ≤ 1024
room_within plant is = go plant.levels 64 (omega arith)
  where
    go : (levels : List Level) (most : ℕ) → most ≤ 1024 → fold with_room most levels ≤ 1024
    go [] most within = within
    go (level ∷ levels) most within = go levels (with_room most level) (room_small most level within)

-- and there is room for as many answers as one has, and for 64
grows : (levels : List Level) (most : ℕ) → most ≤ fold with_room most levels
grows [] most = omega arith
grows (level ∷ levels) most = omega (arith, room_grows most level, grows levels (with_room most level))

pub room_some : (plant : PlantData) → 64 ≤ room_of plant
room_some plant = grows plant.levels 64

pub dest_count_within : (plant : PlantData) (matrix level : ℕ) → dest_count plant matrix level ≤ room_of plant
dest_count_within plant matrix level = go plant.levels 64
  where
    is_it : Level → Bool
    is_it at = at.matrix == matrix && at.level == level

    go : (levels : List Level) (most : ℕ) → option_map_or (λ (at : Level). cond (is_wide at) 0 at.destinations) (find is_it levels) 0 ≤ fold with_room most levels
    go [] most = omega arith
    go (first ∷ levels) most =
        elim (is_it first) as (λ b. option_map_or (λ (at : Level). cond (is_wide at) 0 at.destinations) (cond b (Some first) (find is_it levels)) 0 ≤ fold with_room (with_room most first) levels) [
          | true ↦ omega (arith, room_counts most first, grows levels (with_room most first))
          | false ↦ go levels (with_room most first)
        ]

-- a message has one answer, or as many as its kind may have
connected-one : (state : State) (panel : ℕ) (made refused : Message) (change : Option Change) → length (connected state panel made refused change).answers ≡ 1
connected-one state panel made refused None = refl
connected-one state panel made refused (Some change) =
    by_made (λ (stepped : Stepped State Answer). length stepped.answers ≡ 1) state panel made refused change (λ may. refl) refl

protected-one : (state : State) (panel : ℕ) (at : Point) (dest : Option ℕ) → length (protected state panel at dest).answers ≡ 1
protected-one state panel at None = refl
protected-one state panel at (Some dest) =
    let device : ℕ = device_of state.plant panel in
    elim (allows state.owners device dest) as (λ b. length (cond b (says (with_owners state panel dest (taken state.owners device dest)) (owner_told ProtectConnected at (Some device))) (says state (owner_told ProtectTally at (finite.get state.owners dest)))).answers ≡ 1) [ true ↦ refl | false ↦ refl ]

unprotected-one : (state : State) (panel : ℕ) (at : Point) (dest : Option ℕ) → length (unprotected state panel at dest).answers ≡ 1
unprotected-one state panel at None = refl
unprotected-one state panel at (Some dest) =
    let device : ℕ = device_of state.plant panel in
    let master : Bool = is_master state.plant panel in
    elim (may_lift state.owners device master dest) as (λ b. length (cond b (says (with_owners state panel dest (lifted state.owners device master dest)) (owner_told ProtectDisconnected at None)) (says state (owner_told ProtectTally at (finite.get state.owners dest)))).answers ≡ 1) [ true ↦ refl | false ↦ refl ]

stored-few : (state : State) (at : Point) (source : Option ℕ) (salvo : ℕ) (change : Option Change) → length (stored_in state at source salvo change).answers ≤ 1
stored-few state at source salvo None = omega arith
stored-few state at source salvo (Some change) =
    elim (may_store (group_of state.groups salvo) change) as (λ b. length (cond b (says (record state { groups = with_store state.groups salvo change }) (Stored at source salvo)) (says_nothing state)).answers ≤ 1) [ true ↦ omega arith | false ↦ omega arith ]

gone-one : (state : State) (panel : ℕ) (clear : Bool) (salvo : ℕ) → length (gone state panel clear salvo).answers ≡ 1
gone-one state panel clear salvo =
    by_gone (λ (stepped : Stepped State Answer). length stepped.answers ≡ 1) state panel clear salvo (λ may. refl) (λ cleared. refl) (λ status. refl)

few-notices : (state : State) (notice : Option (ℕ × Sort)) → length (notice_of state notice) ≤ 1
few-notices state None = omega arith
few-notices state (Some (dest, sort)) = omega arith

pub answer_count : (state : State) (request : Request) → Fits state request → IsAnswerCount state.plant request (length (step state request).answers)
answer_count state (Told panel item (Interrogate at)) fits = refl
answer_count state (Told panel item (ExtInterrogate at)) fits = refl
answer_count state (Told panel item (Connect at source)) fits = connected-one state panel (Connected at source) (tally_of at (standing state at)) (change_of state.plant at source)
answer_count state (Told panel item (ExtConnect at source)) fits = connected-one state panel (ExtConnected at source) (ExtTally at (standing state at)) (change_of state.plant at source)
answer_count state (Told panel item (ProtectAsk at)) fits = refl
answer_count state (Told panel item (ProtectConnect at device)) fits = protected-one state panel at (dest_of state at)
answer_count state (Told panel item (ProtectDisconnect at device)) fits = unprotected-one state panel at (dest_of state at)
answer_count state (Told panel item (DumpAsk matrix level)) fits =
    length-map-range_with_len (λ dest. dumped_at state (record { matrix = matrix; level = level; dest = dest })) 0 (dest_count state.plant matrix level)
answer_count state (Told panel item (Store at source salvo)) fits = stored-few state at source salvo (change_of state.plant at source)
answer_count state (Told panel item (Go clear salvo)) fits = gone-one state panel clear salvo
answer_count state (Told panel item (EntryAsk salvo index)) fits = refl
answer_count state (Told panel item message) fits = let not = fits.1.0 in absurd cc
answer_count state (Poll panel item turn) fits = few-notices state (next (board_of state.boards panel))
answer_count state (Leave panel) fits = refl
answer_count state (DisplayPoll screen refresh) fits = display_polled-few state screen refresh

-- there is room for the answers to any event
pub answers_within : (plant : PlantData) (request : Request) (count : ℕ) → IsAnswerCount plant request count → count ≤ room_of plant
answers_within plant (Told panel item (DumpAsk matrix level)) count is = omega (arith, is, dest_count_within plant matrix level)
answers_within plant (Told panel item (Store at source salvo)) count is = omega (arith, is, room_some plant)
answers_within plant (Told panel item message) count is = omega (arith, is, room_some plant)
answers_within plant (Poll panel item turn) count is = omega (arith, is, room_some plant)
answers_within plant (Leave panel) count is = omega arith
answers_within plant (DisplayPoll screen refresh) count is = omega (arith, is, room_some plant)
