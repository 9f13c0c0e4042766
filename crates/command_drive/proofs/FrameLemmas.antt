-- What the bench plant makes of a connect.
use Rattle.std.proofs.Common.{◌≡◌, ℕ, ◌<◌, subst₂, nat_eq, cond, true, [], ◌∷◌, length, Option, Some, None, inl, inr, refl, sym, ap, subst, ◌∙◌, arith, lt-ltb, zero-add, eq-eqb, ne_eqb}
use Rattle.std.specs.Option.{option_map, option_map_or}
use Rattle.std.specs.FinMap as finite
use Rattle.std.proofs.lemmas.Bool.{cases_eq, and_from}
use Rattle.swp08_messages.specs.declared.message.Message.{Message}
use Rattle.swp08_messages.specs.declared.message.Message.TheVariants.{Connect, Connected}
use Rattle.swp08_messages.specs.Text.{InRange, kind_of}
use Rattle.plant_config.specs.Bench.{bench}
use Rattle.plant_config.specs.Plant.{PlantData}
use Rattle.plant_config.specs.declared.records.Change.{Change}
use Rattle.crosspoint_state.specs.declared.spot.Spot.{Spot}
use Rattle.crosspoint_state.specs.Crosspoints.{Crosspoints, source_of}
use Rattle.crosspoint_state.specs.Applied.{applied}
use Rattle.tie_pools.proofs.AllTiesLemmas.{enough_for_without_pools}
use Rattle.history_lock.specs.Step.{Stepped}
use Rattle.plant_core.specs.declared.request.Request.TheVariants.{Told}
use Rattle.plant_core.specs.declared.answer.Answer.{Answer}
use Rattle.plant_core.specs.declared.answer.Answer.TheVariants.{Say}
use Rattle.plant_core.specs.State.{State, Fits, device_of, is_master, standing}
use Rattle.plant_core.specs.Connects.{says, change_of, changed, may_make}
use Rattle.plant_core.specs.Wide.{tally_of}
use Rattle.plant_core.specs.Step.{step}
use Rattle.plant_core.proofs.Changes.{permitted-one, source_of-one, get-one_other}
use Rattle.plant_core.proofs.Steps.{connected-made}
use Rattle.matrix_driver.specs.Messages.{point}
use Rattle.matrix_driver.specs.World.{Carried, made_by, told_by}
use Rattle.command_drive.specs.Drive.{bench_level}
use Rattle.command_drive.specs.DriveInside.{IsConnect}

-- the change that a connect of the bench level asks for
abbrev pub change_to : ℕ → ℕ → Change
change_to dest source = record { dest = dest; source = Some source }

change_bench : (dest source : ℕ) → dest < 32 → source < 32 → change_of bench (point bench_level dest) (Some source) ≡ Some (change_to dest source)
unfolding bench
change_bench dest source d s = rw (lt-ltb dest 32 d, lt-ltb source 32 s, zero-add dest, zero-add source) refl

no_pools : length bench.pools ≡ 0
unfolding bench
no_pools = refl

-- it may be made where nobody protects the destination
may_bench : (state : State) (change : Change) → state.plant ≡ bench → finite.get state.owners change.dest ≡ None → may_make state 0 change ≡ true
may_bench state change plant free =
    and_from _ _
    (permitted-one state.owners (device_of state.plant 0) change ∙ ap (λ (owner : Option ℕ). option_map_or (λ (owner : ℕ). nat_eq owner (device_of state.plant 0)) owner true) free)
    (enough_for_without_pools state.plant state.crosspoints (is_master state.plant 0) (change ∷ []) (ap (λ (plant : PlantData). length plant.pools) plant ∙ no_pools))

-- So it is made, and told.
connect_made : (state : State) (dest source : ℕ) → state.plant ≡ bench → ((dest : ℕ) → finite.get state.owners dest ≡ None) → dest < 32 → source < 32
    → step state (Told 0 0 (Connect (point bench_level dest) (Some source))) ≡ says (changed state 0 (change_to dest source)) (Connected (point bench_level dest) (Some source))
connect_made state dest source plant free d s =
    connected-made state 0 (point bench_level dest) (Some source) (Connected (point bench_level dest) (Some source)) (tally_of (point bench_level dest) (standing state (point bench_level dest))) (change_to dest source)
    (ap (λ plant. change_of plant (point bench_level dest) (Some source)) plant ∙ change_bench dest source d s)
    (may_bench state (change_to dest source) plant (free dest))

-- what a message that asks for a connect does
step_made : (state : State) (panel : ℕ) (message : Message) (asks : IsConnect message) → state.plant ≡ bench → ((dest : ℕ) → finite.get state.owners dest ≡ None) → panel ≡ 0
    → step state (Told panel 0 message) ≡ says (changed state 0 (change_to asks.dest asks.source)) (Connected (point bench_level asks.dest) (Some asks.source))
step_made state panel message asks plant free first =
    (λ i. step state (Told (first i) 0 (asks.asks i))) ∙ connect_made state asks.dest asks.source plant free asks.dest_few asks.source_few

-- what the destinations carry then
carried_then : (plant : PlantData) (crosspoints : Crosspoints) (dest source : ℕ) (carried : Carried) → ((other : ℕ) → other < 32 → source_of crosspoints other ≡ carried other)
    → (other : ℕ) → other < 32 → source_of (applied plant crosspoints (change_to dest source ∷ [])) other ≡ cond (nat_eq other dest) (Some source) (carried other)
carried_then plant crosspoints dest source carried had other few = elim (cases_eq other dest) [
  | inl same ↦
      ap (source_of (applied plant crosspoints (change_to dest source ∷ []))) same ∙ source_of-one plant crosspoints (change_to dest source)
      ∙ sym (ap (λ b. cond b (Some source) (carried other)) (eq-eqb other dest same))
  | inr apart ↦
      ap (option_map (λ (spot : Spot). spot.source)) (get-one_other plant crosspoints (change_to dest source) other apart) ∙ had other few
      ∙ sym (ap (λ b. cond b (Some source) (carried other)) (ne_eqb other dest apart))
]

-- The frame's destinations carry what the connect makes of them.
pub sources_then : (old new : State) (panel : ℕ) (message : Message) (asks : IsConnect message) → old.plant ≡ bench → ((dest : ℕ) → finite.get old.owners dest ≡ None) → panel ≡ 0 → new ≡ (step old (Told panel 0 message)).state
    → (carried : Carried) → ((other : ℕ) → other < 32 → source_of old.crosspoints other ≡ carried other)
    → (other : ℕ) → other < 32 → source_of new.crosspoints other ≡ made_by carried message other
sources_then old new panel message asks plant free first is carried had other few =
    ap (λ (state : State). source_of state.crosspoints other) (is ∙ ap (λ (stepped : Stepped State Answer). stepped.state) (step_made old panel message asks plant free first))
    ∙ carried_then old.plant old.crosspoints asks.dest asks.source carried had other few ∙ sym (ap (λ (message : Message). made_by carried message other) asks.asks)

-- and nobody protects any of them
pub free_then : (old new : State) (panel : ℕ) (message : Message) (asks : IsConnect message) → old.plant ≡ bench → ((dest : ℕ) → finite.get old.owners dest ≡ None) → panel ≡ 0 → new ≡ (step old (Told panel 0 message)).state
    → (dest : ℕ) → finite.get new.owners dest ≡ None
free_then old new panel message asks plant free first is dest =
    ap (λ (state : State). finite.get state.owners dest) (is ∙ ap (λ (stepped : Stepped State Answer). stepped.state) (step_made old panel message asks plant free first)) ∙ free dest

-- The message may be told to the frame by panel 0.
connect_in_range : (dest source : ℕ) → dest < 32 → source < 32 → InRange (Connect (point bench_level dest) (Some source))
connect_in_range dest source d s = ((omega arith, omega arith), ((omega (arith, d), omega (arith, s)), (omega (arith, d), (omega (arith, s), tt))))

one_panel : 0 < length bench.panels
unfolding bench
one_panel = omega arith

pub fits_bench : (state : State) (panel : ℕ) (message : Message) → IsConnect message → state.plant ≡ bench → panel ≡ 0 → Fits state (Told panel 0 message)
fits_bench state panel message asks plant first = (
  subst₂ (λ (n : ℕ) (p : PlantData). n < length p.panels) (sym first) (sym plant) one_panel,
  (
    ap kind_of asks.asks,
    subst InRange (sym asks.asks) (connect_in_range asks.dest asks.source asks.dest_few asks.source_few),
  ),
)

-- the answers that it then has
pub answers_then : (state : State) (panel : ℕ) (message : Message) (asks : IsConnect message) → state.plant ≡ bench → ((dest : ℕ) → finite.get state.owners dest ≡ None) → panel ≡ 0
    → (step state (Told panel 0 message)).answers ≡ Say (Connected (point bench_level asks.dest) (Some asks.source)) ∷ []
answers_then state panel message asks plant free first =
    ap (λ (stepped : Stepped State Answer). stepped.answers) (step_made state panel message asks plant free first)

pub told_then : (message : Message) (asks : IsConnect message) → Connected (point bench_level asks.dest) (Some asks.source) ∷ [] ≡ told_by message
told_then message asks = sym (ap told_by asks.asks)
