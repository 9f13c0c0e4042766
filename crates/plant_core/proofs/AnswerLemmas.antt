-- What is answered can be spelled.
use Rattle.std.proofs.Common.{◌≡◌, ℕ, ◌<◌, ◌≤◌, Bool, true, false, cond, ◌&&◌, [], ◌∷◌, length, All, Option, Some, None, IfSome, inl, inr, refl, sym, subst, arith, ltb-true}
use Rattle.std.proofs.lemmas.Bool.{cases_lt, and_parts}
use Rattle.std.proofs.lemmas.Option.{slice_get_past, slice_get-get_or}
use Rattle.std.specs.Prelude.{slice_get}
use Rattle.std.specs.List.{AllByRecursion}
use Rattle.std.specs.Option.{option_map, option_and_then, unwrap_or}
use Rattle.std.proofs.lemmas.List.FromFn.{length-map-range_with_len, get_or-map-range_with_len}
use Rattle.std.proofs.lemmas.List.Elements.{All-nil, All-push}
use Rattle.swp08_messages.specs.declared.point.Point.{Point}
use Rattle.swp08_messages.specs.declared.message.Message.{Message}
use Rattle.swp08_messages.specs.declared.message.Message.TheVariants.{Interrogate, Connect, Tally, Connected, ExtInterrogate, ExtConnect, ExtTally, ExtConnected, ProtectAsk, ProtectConnect, ProtectDisconnect, ProtectTally, ProtectConnected, ProtectDisconnected, DumpAsk, Store, Stored, Go, GoDone, EntryAsk}
use Rattle.swp08_messages.specs.declared.go_status.GoStatus.{GoStatus}
use Rattle.swp08_messages.specs.declared.go_status.GoStatus.TheVariants.{Made, Cleared}
use Rattle.swp08_messages.specs.Field.{devices, salvos, indexes, HasRoom}
use Rattle.swp08_messages.specs.Row.{protect_told}
use Rattle.swp08_messages.specs.Text.{IsPoint, IsExtPoint, IsSource, IsExtSource, InRange}
use Rattle.std.specs.FinMap as finite
use Rattle.plant_config.specs.Limits.{last_device}
use Rattle.protects.specs.Owners.{allows, may_lift, taken, lifted}
use Rattle.crosspoint_state.specs.Crosspoints.{source_of}
use Rattle.salvo_groups.specs.Groups.{Group, group_of, may_store, with_store}
use Rattle.plant_config.specs.declared.records.Point as places
use Rattle.plant_config.specs.declared.records.Change.{Change}
use Rattle.plant_config.specs.Plant.{PlantData, dest_numbers, source_numbers}
use Rattle.plant_config.specs.IsPlant.{IsPlant}
use Rattle.plant_config.specs.Sites.{Site, site_of, dest_at, point_of, source_number_of}
use Rattle.plant_config.proofs.SiteLemmas.{dests_are, sources_are, site_of-IsSite}
use Rattle.change_boards.specs.declared.sort.Sort.{Sort}
use Rattle.change_boards.specs.declared.sort.Sort.TheVariants.{Source, Protect}
use Rattle.change_boards.specs.Board.{next}
use Rattle.change_boards.specs.Notices.{board_of, has}
use Rattle.change_boards.proofs.OneNotice.{next-IsNext}
use Rattle.history_lock.specs.Step.{Stepped}
use Rattle.plant_core.specs.declared.request.Request.{Request}
use Rattle.plant_core.specs.declared.request.Request.TheVariants.{Told, Poll, Leave, DisplayPoll}
use Rattle.plant_core.specs.declared.answer.Answer.{Answer}
use Rattle.plant_core.specs.declared.answer.Answer.TheVariants.{Say}
use Rattle.plant_core.specs.State.{State, IsValid, Fits, standing, owner_at, device_of, is_master}
use Rattle.plant_core.specs.Wide.{is_short_dest, is_short_source, tally_of, connected_of}
use Rattle.plant_core.specs.Short.{IsShortDest, IsShortSource, IsShortChange, StaysShort}
use Rattle.plant_core.specs.Connects.{says, says_nothing, change_of, connected}
use Rattle.plant_core.specs.Protecting.{owner_told, with_owners, protected, unprotected}
use Rattle.plant_core.specs.Salvos.{stored_in, gone, message_place, no_place, dest_place, entry_told, entry_answer}
use Rattle.plant_core.specs.Step.{step, dest_of, dest_count, dumped_at, told_source, told_owner, notice_of}
use Rattle.plant_core.proofs.Validity.{device-within}
use Rattle.plant_core.proofs.DumpedLemmas.{dumped-IsSource, dumped-narrow}
use Rattle.plant_core.proofs.CountLemmas.{room_within, dest_count_within}
use Rattle.plant_core.specs.Answer.{IsSayable}
use Rattle.plant_core.proofs.Shows.{display_polled-sayable}
use Rattle.plant_core.proofs.Outcomes.{by_made, by_gone}

-- a source has a number in its level that an extended command can spell, and so has each destination's place
number-IsExtSource : (plant : PlantData) (source : Option ℕ) → IsPlant plant → IsExtSource (option_and_then (source_number_of plant) source)
number-IsExtSource plant None is = tt
number-IsExtSource plant (Some source) is = of_site (site_of source_numbers plant source) refl
  where
    of_site : (site : Option Site) → site_of source_numbers plant source ≡ site → IsExtSource (option_map (λ (at : Site). at.number) site)
    of_site None h = tt
    of_site (Some site) h = (site_of-IsSite source_numbers plant (sources_are plant is) source site h).number

standing-IsExtSource : (state : State) (at : Point) → IsPlant state.plant → IsExtSource (standing state at)
standing-IsExtSource state at is = of_dest (dest_at state.plant at.matrix at.level at.dest)
  where
    of_dest : (dest : Option ℕ) → IsExtSource (option_and_then (λ (dest : ℕ). option_and_then (source_number_of state.plant) (source_of state.crosspoints dest)) dest)
    of_dest None = tt
    of_dest (Some dest) = number-IsExtSource state.plant (source_of state.crosspoints dest) is

dest_place-IsExtPoint : (plant : PlantData) (dest : ℕ) → IsPlant plant → IsExtPoint (dest_place plant dest)
dest_place-IsExtPoint plant dest is = of_site (site_of dest_numbers plant dest) refl
  where
    point : Site → places.Point
    point site = record { matrix = site.matrix; level = site.level; dest = site.number }

    of_site : (site : Option Site) → site_of dest_numbers plant dest ≡ site → IsExtPoint (unwrap_or (option_map message_place (option_map point site)) no_place)
    of_site None h = record { matrix = omega arith; level = omega arith; dest = omega arith }
    of_site (Some site) h =
        let within = site_of-IsSite dest_numbers plant (dests_are plant is) dest site h in
        record { matrix = within.matrix; level = within.level; dest = within.number }

-- any other command can spell what is short
short-IsSource : (plant : PlantData) (source : Option ℕ) → IsShortSource plant source → IsSource (option_and_then (source_number_of plant) source)
short-IsSource plant source short = by (option_and_then (source_number_of plant) source) short
  where
    by : (number : Option ℕ) → IfSome number (λ number. number < 1023) → IsSource number
    by None short = tt
    by (Some number) short = short

short-IsPoint : (plant : PlantData) (dest : ℕ) → IsPlant plant → IsShortDest plant dest → IsPoint (dest_place plant dest)
short-IsPoint plant dest is short = by (point_of plant dest) short (dest_place-IsExtPoint plant dest is)
  where
    by : (place : Option places.Point) → IfSome place (λ place. place.dest < 1024) → IsExtPoint (unwrap_or (option_map message_place place) no_place) → IsPoint (unwrap_or (option_map message_place place) no_place)
    by None short within = record { matrix = omega arith; level = omega arith; dest = omega arith }
    by (Some place) short within = record { matrix = within.matrix; level = within.level; dest = short }

tested-IsSource : (source : Option ℕ) → is_short_source source ≡ true → IsSource source
tested-IsSource None short = tt
tested-IsSource (Some number) short = ltb-true number 1023 short

point-IsExtPoint : (at : Point) → IsPoint at → IsExtPoint at
point-IsExtPoint at is = let low = is.dest in record { matrix = is.matrix; level = is.level; dest = omega (arith, low) }

-- what is said of a crosspoint, and of an owner, is in its ranges
InRange-crosspoint : (at : Point) (source : Option ℕ) → IsPoint at → IsSource source → InRange (Connected at source)
InRange-crosspoint at source is of = ((is.matrix, is.level), ((is.dest, of), (is.dest, (of, tt))))

InRange-ext : (at : Point) (source : Option ℕ) → IsExtPoint at → IsExtSource source → InRange (ExtConnected at source)
InRange-ext at source is of = (is.matrix, (is.level, (is.dest, (is.dest, (of, (of, tt))))))

InRange-tally_of : (at : Point) (source : Option ℕ) → IsPoint at → IsExtSource source → InRange (tally_of at source)
InRange-tally_of at source is of = by (is_short_source source) refl
  where
    by : (b : Bool) → is_short_source source ≡ b → InRange (cond b (Tally at source) (ExtTally at source))
    by true short = InRange-crosspoint at source is (tested-IsSource source short)
    by false long = InRange-ext at source (point-IsExtPoint at is) of

InRange-connected_of : (at : Point) (source : Option ℕ) → IsExtPoint at → IsExtSource source → InRange (connected_of at source)
InRange-connected_of at source is of = by (is_short_dest at.dest && is_short_source source) refl
  where
    by : (b : Bool) → (is_short_dest at.dest && is_short_source source) ≡ b → InRange (cond b (Connected at source) (ExtConnected at source))
    by true short =
        let parts = and_parts (is_short_dest at.dest) (is_short_source source) short in
        InRange-crosspoint at source (record { matrix = is.matrix; level = is.level; dest = ltb-true at.dest 1024 parts.0 }) (tested-IsSource source parts.1)
    by false long = InRange-ext at source is of

InRange-told : (at : Point) (owned : Bool) (device : ℕ) → IsPoint at → device < devices → AllByRecursion HasRoom (protect_told at owned device)
InRange-told at owned device is few = ((is.matrix, is.level), (tt, ((is.dest, few), (is.dest, (few, tt)))))

abbrev IsOwner : Option ℕ → Type 0
IsOwner owner = IfSome owner (λ device. device ≤ last_device)

InRange-owner : (at : Point) (owner : Option ℕ) → IsPoint at → IsOwner owner → InRange (owner_told ProtectTally at owner)
InRange-owner at None is of = InRange-told at false 0 is (omega arith)
InRange-owner at (Some device) is of = InRange-told at true device is (omega (arith, of))

sayable-owner : (at : Point) (owner : Option ℕ) → IsPoint at → IsOwner owner → IsSayable (told_owner at owner)
sayable-owner at None is of = InRange-told at false 0 is (omega arith)
sayable-owner at (Some device) is of = InRange-told at true device is (omega (arith, of))

-- a destination's owner is a device that panels may have
owner-of : (state : State) (dest : ℕ) → IsValid state → IsOwner (finite.get state.owners dest)
owner-of state dest valid = go (finite.get state.owners dest) refl
  where
    go : (o : Option ℕ) → finite.get state.owners dest ≡ o → IsOwner o
    go None h = tt
    go (Some device) h = (valid.owners dest device h).1

owner-at : (state : State) (at : Point) → IsValid state → IsOwner (owner_at state at)
owner-at state at valid = go (dest_at state.plant at.matrix at.level at.dest)
  where
    go : (dest : Option ℕ) → IsOwner (option_and_then (finite.get state.owners) dest)
    go None = tt
    go (Some dest) = owner-of state dest valid

All-one : (answer : Answer) → IsSayable answer → All IsSayable (answer ∷ [])
All-one answer is = All-push IsSayable [] answer (All-nil IsSayable) is

sayable-notice : (state : State) (panel : ℕ) (notice : Option (ℕ × Sort)) → next (board_of state.boards panel) ≡ notice → IsValid state → StaysShort state → All IsSayable (notice_of state notice)
sayable-notice state panel None is valid short = All-nil IsSayable
sayable-notice state panel (Some (dest, Source)) is valid short =
    let at : Point = dest_place state.plant dest in
    All-one (told_source state at) (InRange-connected_of at (standing state at) (dest_place-IsExtPoint state.plant dest valid.is_plant) (standing-IsExtSource state at valid.is_plant))
sayable-notice state panel (Some (dest, Protect)) is valid short =
    let stands : has state.boards panel dest Protect ≡ true = (next-IsNext (board_of state.boards panel) dest Protect is).stood in
    All-one (told_owner (dest_place state.plant dest) (finite.get state.owners dest))
    (sayable-owner (dest_place state.plant dest) (finite.get state.owners dest) (short-IsPoint state.plant dest valid.is_plant (short.notices panel dest stands)) (owner-of state dest valid))

sayable-connected : (state : State) (panel : ℕ) (made refused : Message) (change : Option Change) → InRange made → InRange refused → All IsSayable (connected state panel made refused change).answers
sayable-connected state panel made refused None told kept = All-one (Say refused) kept
sayable-connected state panel made refused (Some change) told kept =
    by_made (λ (stepped : Stepped State Answer). All IsSayable stepped.answers) state panel made refused change (λ may. All-one (Say made) told) (All-one (Say refused) kept)

sayable-protected : (state : State) (panel : ℕ) (at : Point) (dest : Option ℕ) → IsValid state → IsPoint at → All IsSayable (protected state panel at dest).answers
sayable-protected state panel at None valid is = All-one (Say (owner_told ProtectTally at None)) (InRange-owner at None is tt)
sayable-protected state panel at (Some dest) valid is =
    let device : ℕ = device_of state.plant panel in
    elim (allows state.owners device dest) as (λ b. All IsSayable (cond b (says (with_owners state panel dest (taken state.owners device dest)) (owner_told ProtectConnected at (Some device))) (says state (owner_told ProtectTally at (finite.get state.owners dest)))).answers) [
      | true ↦ All-one (Say (owner_told ProtectConnected at (Some device))) (InRange-owner at (Some device) is (device-within state.plant panel valid.is_plant))
      | false ↦ All-one (Say (owner_told ProtectTally at (finite.get state.owners dest))) (InRange-owner at (finite.get state.owners dest) is (owner-of state dest valid))
    ]

sayable-unprotected : (state : State) (panel : ℕ) (at : Point) (dest : Option ℕ) → IsValid state → IsPoint at → All IsSayable (unprotected state panel at dest).answers
sayable-unprotected state panel at None valid is = All-one (Say (owner_told ProtectTally at None)) (InRange-owner at None is tt)
sayable-unprotected state panel at (Some dest) valid is =
    let device : ℕ = device_of state.plant panel in
    let master : Bool = is_master state.plant panel in
    elim (may_lift state.owners device master dest) as (λ b. All IsSayable (cond b (says (with_owners state panel dest (lifted state.owners device master dest)) (owner_told ProtectDisconnected at None)) (says state (owner_told ProtectTally at (finite.get state.owners dest)))).answers) [
      | true ↦ All-one (Say (owner_told ProtectDisconnected at None)) (InRange-owner at None is tt)
      | false ↦ All-one (Say (owner_told ProtectTally at (finite.get state.owners dest))) (InRange-owner at (finite.get state.owners dest) is (owner-of state dest valid))
    ]

sayable-stored : (state : State) (at : Point) (source : Option ℕ) (salvo : ℕ) (change : Option Change) → InRange (Stored at source salvo) → All IsSayable (stored_in state at source salvo change).answers
sayable-stored state at source salvo None fits = All-nil IsSayable
sayable-stored state at source salvo (Some change) fits =
    elim (may_store (group_of state.groups salvo) change) as (λ b. All IsSayable (cond b (says (record state { groups = with_store state.groups salvo change }) (Stored at source salvo)) (says_nothing state)).answers) [
      | true ↦ All-one (Say (Stored at source salvo)) fits
      | false ↦ All-nil IsSayable
    ]

sayable-gone : (state : State) (panel : ℕ) (clear : Bool) (salvo : ℕ) → salvo < salvos → All IsSayable (gone state panel clear salvo).answers
sayable-gone state panel clear salvo few =
    by_gone (λ (stepped : Stepped State Answer). All IsSayable stepped.answers) state panel clear salvo (λ may. told Made) (λ cleared. told Cleared) told
  where
    told : (status : GoStatus) → All IsSayable (Say (GoDone status salvo) ∷ [])
    told status = All-one (Say (GoDone status salvo)) (tt, (few, tt))

sayable-entry : (plant : PlantData) (group : Group) (salvo index : ℕ) (entry : Option Change) → IsPlant plant → IfSome entry (IsShortChange plant) → salvo < salvos → index < indexes → InRange (entry_told plant group salvo index entry)
sayable-entry plant group salvo index None is short few within =
    ((omega arith, omega arith), ((omega arith, omega arith), (omega arith, (omega arith, (few, (within, (tt, tt)))))))
sayable-entry plant group salvo index (Some entry) is short few within =
    let at = short-IsPoint plant entry.dest is short.dest in
    let source = short-IsSource plant entry.source short.source in
    ((at.matrix, at.level), ((at.dest, source), (at.dest, (source, (few, (within, (tt, tt)))))))

-- an entry of a group is short
entry-short : (state : State) (salvo index : ℕ) → StaysShort state → IfSome (slice_get (group_of state.groups salvo) index) (IsShortChange state.plant)
entry-short state salvo index short = elim (cases_lt index (length (group_of state.groups salvo))) [
  | inl within ↦
      let some : Change = record { dest = 0; source = None } in
      subst (λ found. IfSome found (IsShortChange state.plant)) (sym (slice_get-get_or (group_of state.groups salvo) index some within)) (short.changes salvo index some within)
  | inr past ↦ subst (λ found. IfSome found (IsShortChange state.plant)) (sym (slice_get_past (group_of state.groups salvo) index past)) tt
]

point_in : (at : Point) → InRange (Interrogate at) → IsPoint at
point_in at fits = record { matrix = fits.0.0; level = fits.0.1; dest = fits.1.0 }

ext_point_in : (at : Point) → InRange (ExtInterrogate at) → IsExtPoint at
ext_point_in at fits = record { matrix = fits.0; level = fits.1.0; dest = fits.1.1.0 }

connect_point : (at : Point) (source : Option ℕ) → InRange (Connect at source) → IsPoint at
connect_point at source fits = record { matrix = fits.0.0; level = fits.0.1; dest = fits.1.0.0 }

ext_connect_point : (at : Point) (source : Option ℕ) → InRange (ExtConnect at source) → IsExtPoint at
ext_connect_point at source fits = record { matrix = fits.0; level = fits.1.0; dest = fits.1.1.0 }

pub All-sayable : (state : State) (request : Request) → IsValid state → StaysShort state → Fits state request → All IsSayable (step state request).answers
All-sayable state (Told panel item (Interrogate at)) valid short fits =
    All-one (Say (tally_of at (standing state at))) (InRange-tally_of at (standing state at) (point_in at fits.1.1) (standing-IsExtSource state at valid.is_plant))
All-sayable state (Told panel item (ExtInterrogate at)) valid short fits =
    All-one (Say (ExtTally at (standing state at))) (InRange-ext at (standing state at) (ext_point_in at fits.1.1) (standing-IsExtSource state at valid.is_plant))
All-sayable state (Told panel item (Connect at source)) valid short fits =
    sayable-connected state panel (Connected at source) (tally_of at (standing state at)) (change_of state.plant at source) fits.1.1
    (InRange-tally_of at (standing state at) (connect_point at source fits.1.1) (standing-IsExtSource state at valid.is_plant))
All-sayable state (Told panel item (ExtConnect at source)) valid short fits =
    sayable-connected state panel (ExtConnected at source) (ExtTally at (standing state at)) (change_of state.plant at source) fits.1.1
    (InRange-ext at (standing state at) (ext_connect_point at source fits.1.1) (standing-IsExtSource state at valid.is_plant))
All-sayable state (Told panel item (ProtectAsk at)) valid short fits =
    let point : IsPoint at = record { matrix = fits.1.1.0.0; level = fits.1.1.0.1; dest = fits.1.1.1.0 } in
    All-one (Say (owner_told ProtectTally at (owner_at state at))) (InRange-owner at (owner_at state at) point (owner-at state at valid))
All-sayable state (Told panel item (ProtectConnect at device)) valid short fits =
    sayable-protected state panel at (dest_of state at) valid (record { matrix = fits.1.1.0.0; level = fits.1.1.0.1; dest = fits.1.1.1.0.0 })
All-sayable state (Told panel item (ProtectDisconnect at device)) valid short fits =
    sayable-unprotected state panel at (dest_of state at) valid (record { matrix = fits.1.1.0.0; level = fits.1.1.0.1; dest = fits.1.1.1.0.0 })
All-sayable state (Told panel item (DumpAsk matrix level)) valid short fits =
    let told : ℕ → Answer = λ dest. dumped_at state (record { matrix = matrix; level = level; dest = dest }) in
    λ k other below.
    let at : Point = record { matrix = matrix; level = level; dest = k } in
    let within : k < dest_count state.plant matrix level = omega (arith, below, length-map-range_with_len told 0 (dest_count state.plant matrix level)) in
    let dest : k < 1024 = omega (arith, within, dest_count_within state.plant matrix level, room_within state.plant valid.is_plant) in
    let point : IsPoint at = record { matrix = fits.1.1.0.0; level = fits.1.1.0.1; dest = dest } in
    subst IsSayable (sym (get_or-map-range_with_len told 0 (dest_count state.plant matrix level) k k other within (omega arith)))
    (point, dumped-IsSource state at valid (dumped-narrow state.plant matrix level k within))
All-sayable state (Told panel item (Store at source salvo)) valid short fits = sayable-stored state at source salvo (change_of state.plant at source) fits.1.1
All-sayable state (Told panel item (Go clear salvo)) valid short fits = sayable-gone state panel clear salvo fits.1.1.1.0
All-sayable state (Told panel item (EntryAsk salvo index)) valid short fits =
    All-one (Say (entry_answer state salvo index)) (sayable-entry state.plant (group_of state.groups salvo) salvo index (slice_get (group_of state.groups salvo) index) valid.is_plant (entry-short state salvo index short) fits.1.1.0 fits.1.1.1.0)
All-sayable state (Told panel item message) valid short fits = All-nil IsSayable
All-sayable state (Poll panel item turn) valid short fits = sayable-notice state panel (next (board_of state.boards panel)) refl valid short
All-sayable state (Leave panel) valid short fits = All-nil IsSayable
All-sayable state (DisplayPoll screen refresh) valid short fits = display_polled-sayable state screen refresh
