-- What is true of live destinations and of the sources that are seen, said without rounds.
use Rattle.std.specs.Prelude.{◌≡◌, ◌≢◌, ℕ, Bool, true, false, List, slice_get, Some, MatchOption}
use Rattle.plant_config.specs.declared.records.Bus.{Bus}
use Rattle.plant_config.specs.Plant.{PlantData}
use Rattle.plant_config.specs.Sites.{source_number_of}
use Rattle.plant_config.specs.Sources.{origin_of}
use Rattle.crosspoint_state.specs.Crosspoints.{Crosspoints, source_of}
use Rattle.mixer_effects.specs.Buses.{is_bus_on}
use Rattle.mixer_effects.specs.Live.{carries, is_fed_by, is_live, is_seen}

-- The roots are among these destinations.
abbrev pub HasRoots : List ℕ → (ℕ → Bool) → Type 0
HasRoots roots is_among =
    (place root : ℕ) → slice_get roots place ≡ Some root → is_among root ≡ true

-- Where a device feeds one of these destinations, its buses that are on are among them.
abbrev pub HasBusesBehind : PlantData → Crosspoints → (ℕ → Bool) → Type 0
HasBusesBehind plant crosspoints is_among = (place dest : ℕ) (bus : Bus)
    → slice_get plant.buses place ≡ Some bus → is_bus_on plant crosspoints bus ≡ true
    → is_among dest ≡ true → is_fed_by plant crosspoints bus.device dest ≡ true
    → is_among bus.dest ≡ true

-- Destinations are closed where the roots are among them, and with a destination the buses that are on of the device that
-- feeds it.
pub record AreClosed (plant : PlantData) (crosspoints : Crosspoints) (roots : List ℕ)
    (is_among : ℕ → Bool) : Type 0 where
  pub has_roots : HasRoots roots is_among
  pub has_buses : HasBusesBehind plant crosspoints is_among

-- The live destinations are among all that are closed.
abbrev pub IsAmongAllClosed : PlantData → Crosspoints → List ℕ → Type 0
IsAmongAllClosed plant crosspoints roots =
    (is_among : ℕ → Bool) → AreClosed plant crosspoints roots is_among
    → (dest : ℕ) → is_live plant crosspoints roots dest ≡ true → is_among dest ≡ true

-- The live destinations are the least that are closed: the roots, what feeds them, what feeds that, and nothing else.
pub record LiveIsLeast (plant : PlantData) (crosspoints : Crosspoints) (roots : List ℕ)
    : Type 0 where
  pub closed : AreClosed plant crosspoints roots (is_live plant crosspoints roots)
  pub least : IsAmongAllClosed plant crosspoints roots

-- The source that a root carries is seen.
abbrev pub RootsAreSeen : PlantData → Crosspoints → List ℕ → Type 0
RootsAreSeen plant crosspoints roots = (place root source origin : ℕ)
    → slice_get roots place ≡ Some root → source_of crosspoints root ≡ Some source
    → origin_of plant source ≡ Some origin → is_seen plant crosspoints roots source ≡ true

-- None of these destinations carries the picture of this source.
abbrev pub NoneCarries : PlantData → Crosspoints → (ℕ → Bool) → ℕ → Type 0
NoneCarries plant crosspoints is_among source = (dest origin : ℕ)
    → is_among dest ≡ true → origin_of plant source ≡ Some origin
    → carries plant crosspoints origin dest ≡ false

-- A source that no closed destinations carry is dark, whatever loops there are outside of these.
abbrev pub CutIsDark : PlantData → Crosspoints → List ℕ → Type 0
CutIsDark plant crosspoints roots = (is_among : ℕ → Bool) (source : ℕ)
    → AreClosed plant crosspoints roots is_among → NoneCarries plant crosspoints is_among source
    → is_seen plant crosspoints roots source ≡ false

-- A switch is cut where it is parked or carries source 0 of its level.
abbrev pub IsSwitchCut : PlantData → Crosspoints → ℕ → Type 0
IsSwitchCut plant crosspoints switch =
    MatchOption (source_of crosspoints switch) Unit
    (λ source. source_number_of plant source ≡ Some 0)

-- A destination is none of the roots.
abbrev pub IsNoRoot : List ℕ → ℕ → Type 0
IsNoRoot roots dest = (place : ℕ) → slice_get roots place ≢ Some dest

-- A bus whose switch is cut isn't live, unless it is a root itself.
abbrev pub SwitchesCut : PlantData → Crosspoints → List ℕ → Type 0
SwitchesCut plant crosspoints roots = (place switch : ℕ) (bus : Bus)
    → slice_get plant.buses place ≡ Some bus → bus.switch ≡ Some switch
    → IsSwitchCut plant crosspoints switch → IsNoRoot roots bus.dest
    → is_live plant crosspoints roots bus.dest ≡ false
