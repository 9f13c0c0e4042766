-- What is true of the data of every plant.
use Rattle.std.specs.Prelude.{◌≡◌, ◌≢◌, ℕ, ◌+◌, ◌*◌, ◌<◌, ◌≤◌, ◌==◌, nat_eq, bytes_eq, Bool, true, false, List, [], ◌∷◌, All, map, filter, take, drop, length, slice_get, Option, IfSome, MatchOption, is_none}
use Rattle.std.specs.Option.{option_map_or}
use Rattle.std.specs.List.{IsDistinct}
use Rattle.std.specs.List.Sorted.{IsStrictlyIncreasing}
use Rattle.plant_file.specs.Ranges.{IsFrom, IsWords, IsName, IsAtLevel, IsServer, AreEntries}
use Rattle.plant_rules.specs.Links.{main_level}
use Rattle.plant_config.specs.declared.records.Level.{Level}
use Rattle.plant_config.specs.declared.records.Source.{Source}
use Rattle.plant_config.specs.declared.records.Pool.{Pool}
use Rattle.plant_config.specs.declared.records.Device.{Device}
use Rattle.plant_config.specs.declared.records.Bus.{Bus}
use Rattle.plant_config.specs.declared.records.Display.{Display}
use Rattle.plant_config.specs.declared.records.Panel.{Panel}
use Rattle.plant_config.specs.Limits.{matrix_limit, level_limit, all_levels_limit, all_sources_limit, all_destinations_limit, pool_limit, tie_limit, device_limit, bus_limit, root_limit, display_limit, last_screen, last_index, panel_limit, last_device, first_port, longest_title}
use Rattle.plant_config.specs.Plant.{PlantData, Numbering, dest_numbers, source_numbers, destinations_of, sources_of, AreNumberedFrom}
use Rattle.plant_config.specs.Sites.{level_of}
use Rattle.plant_config.specs.NamesOfLevel.{source_names, dest_names}

-- A level has at least one of them, and no more than the limit.
pub record HasSome (numbers : Numbering) (at : Level) : Type 0 where
  pub some : 1 ≤ numbers.count at
  pub most : numbers.count at ≤ numbers.limit

-- A level is within its limits.
pub record IsLevel (at : Level) : Type 0 where
  pub matrix : at.matrix < matrix_limit
  pub level : at.level < level_limit
  pub destinations : HasSome dest_numbers at
  pub sources : HasSome source_numbers at

-- A panel is within its limits.
pub record IsPanel (panel : Panel) : Type 0 where
  pub device : panel.device ≤ last_device
  pub port : first_port ≤ panel.port

-- the order of the levels: matrix, level
abbrev pub rank : Level → ℕ
rank level = level.matrix * level_limit + level.level

-- There is something, and it is so.
abbrev pub IsSomeSo : {X : Type 0} → Option X → (X → Type 0) → Type 0
IsSomeSo found IsSo = MatchOption found ⊥ IsSo

-- Every element of a list is so, at its place.
abbrev pub AllPlaced : {X : Type 0} → (ℕ → X → Type 0) → List X → Type 0
AllPlaced IsSo list = (place : ℕ) → IfSome (slice_get list place) (IsSo place)

-- a source is local: it is of a router's own
abbrev pub is_local : PlantData → ℕ → Bool
is_local plant source =
    option_map_or (λ (found : Source). is_none found.pool) (slice_get plant.sources source) false

-- A number is that of a source, or of a destination, of this matrix and level.
abbrev pub IsOf : Numbering → PlantData → ℕ → ℕ → ℕ → Type 0
IsOf numbers plant matrix level number =
    IsSomeSo (level_of numbers plant number) (λ at. (at.matrix ≡ matrix) × (at.level ≡ level))

-- A pool of the plant leads from where a source is to where another one is.
pub record Leads (plant : PlantData) (origin source : ℕ) (pool : Pool) : Type 0 where
  pub from : IsOf source_numbers plant pool.from pool.level origin
  pub to : IsOf source_numbers plant pool.to pool.level source

-- A source stands for a local source, and this pool of the plant leads from that one to it.
pub record IsRemote (plant : PlantData) (origin source pool : ℕ) : Type 0 where
  pub local : is_local plant origin ≡ true
  pub tied : IsSomeSo (slice_get plant.pools pool) (Leads plant origin source)

-- A local source is its own origin, and a remote one stands for its origin.
abbrev pub ComesFromOrigin : PlantData → ℕ → Source → Type 0
ComesFromOrigin plant number source =
    MatchOption source.pool (source.origin ≡ number) (IsRemote plant source.origin number)

-- A source has a name and an origin.
pub record IsSource (plant : PlantData) (number : ℕ) (source : Source) : Type 0 where
  pub name : IsName source.name
  pub origin : ComesFromOrigin plant number source

-- A pool is within its limits, and leads from one matrix to another.
pub record IsPool (pool : Pool) : Type 0 where
  pub from : IsAtLevel pool.from pool.level
  pub to : IsAtLevel pool.to pool.level
  pub other : pool.from ≢ pool.to
  pub ties : IsFrom 1 tie_limit pool.ties
  pub reserve : pool.reserve ≤ pool.ties

-- the buses of a device
abbrev pub buses_of : PlantData → Device → List Bus
buses_of plant device = take device.buses (drop device.first_bus plant.buses)

-- A number is that of a source of level 0.
abbrev pub IsMainSource : PlantData → ℕ → Type 0
IsMainSource plant source =
    IsSomeSo (level_of source_numbers plant source) (λ at. at.level ≡ main_level)

-- A device's output is a local source of level 0, and its buses are those that say so.
pub record IsDevice (plant : PlantData) (number : ℕ) (device : Device) : Type 0 where
  pub output : is_local plant device.output ≡ true
  pub main : IsMainSource plant device.output
  pub buses : buses_of plant device ≡ filter (λ bus. bus.device == number) plant.buses

-- A number is that of a destination, of one of level 0, and of one of another level.
abbrev pub IsDest : PlantData → ℕ → Type 0
IsDest plant dest = dest < destinations_of plant

abbrev pub IsMainDest : PlantData → ℕ → Type 0
IsMainDest plant dest = IsSomeSo (level_of dest_numbers plant dest) (λ at. at.level ≡ main_level)

abbrev pub IsOtherDest : PlantData → ℕ → Type 0
IsOtherDest plant dest = IsSomeSo (level_of dest_numbers plant dest) (λ at. main_level < at.level)

-- A switch is a destination, of another level than 0.
pub record IsSwitch (plant : PlantData) (switch : ℕ) : Type 0 where
  pub dest : IsDest plant switch
  pub other : IsOtherDest plant switch

-- A bus is a destination of level 0, and has a switch or is always on.
pub record IsBus (plant : PlantData) (bus : Bus) : Type 0 where
  pub device : bus.device < length plant.devices
  pub dest : IsMainDest plant bus.dest
  pub switch : MatchOption bus.switch Unit (IsSwitch plant)

-- A display watches a destination of level 0.
pub record IsDisplay (plant : PlantData) (display : Display) : Type 0 where
  pub screen : IsFrom 0 last_screen display.screen
  pub index : IsFrom 0 last_index display.index
  pub watch : IsMainDest plant display.watch

-- Of a level, no two sources have the same name, and no two destinations.
pub record AreTold (plant : PlantData) (at : Level) : Type 0 where
  pub sources : IsDistinct bytes_eq (source_names plant at)
  pub dests : IsDistinct bytes_eq (dest_names plant at)

-- The sources and the destinations have their names, which tell those of one level apart.
pub record AreNamed (plant : PlantData) : Type 0 where
  pub sources : length plant.sources ≡ sources_of plant
  pub each_source : AllPlaced (IsSource plant) plant.sources
  pub dests : length plant.dest_names ≡ destinations_of plant
  pub each_dest : All IsName plant.dest_names
  pub told : All (AreTold plant) plant.levels

-- what tells pools apart: from where to where one leads, and its level
abbrev pub route : Pool → List ℕ
route pool = pool.from ∷ pool.to ∷ pool.level ∷ []

-- what tells displays apart: the screen, and the place on it
abbrev pub screen_place : Display → List ℕ
screen_place display = display.screen ∷ display.index ∷ []

-- Pools, mixers and displays are within their limits, and name what the plant has.
pub record AreLinked (plant : PlantData) : Type 0 where
  pub pools : AreEntries IsPool 0 pool_limit plant.pools
  pub pools_differ : IsDistinct bytes_eq (map route plant.pools)
  pub each_device : AllPlaced (IsDevice plant) plant.devices
  pub devices : length plant.devices ≤ device_limit
  pub outputs_differ : IsDistinct nat_eq (map (λ device. device.output) plant.devices)
  pub buses : AreEntries (IsBus plant) 0 bus_limit plant.buses
  pub buses_differ : IsDistinct nat_eq (map (λ bus. bus.dest) plant.buses)
  pub air : AreEntries (IsMainDest plant) 0 root_limit plant.air
  pub air_differs : IsDistinct nat_eq plant.air
  pub preview : AreEntries (IsMainDest plant) 0 root_limit plant.preview
  pub preview_differs : IsDistinct nat_eq plant.preview
  pub displays : AreEntries (IsDisplay plant) 0 display_limit plant.displays
  pub displays_differ : IsDistinct bytes_eq (map screen_place plant.displays)

-- A plant is within its limits, its levels are in order, each once, and their destinations and sources are numbered
-- from 0. Each has its name, and what names another thing names one that the plant has.
pub record IsPlant (plant : PlantData) : Type 0 where
  pub each_level : All IsLevel plant.levels
  pub in_order : IsStrictlyIncreasing (map rank plant.levels)
  pub dests_numbered : AreNumberedFrom dest_numbers 0 plant.levels
  pub sources_numbered : AreNumberedFrom source_numbers 0 plant.levels
  pub some_level : 1 ≤ length plant.levels
  pub levels : length plant.levels ≤ all_levels_limit
  pub sources : sources_of plant ≤ all_sources_limit
  pub destinations : destinations_of plant ≤ all_destinations_limit
  pub each_panel : All IsPanel plant.panels
  pub some_panel : 1 ≤ length plant.panels
  pub panels : length plant.panels ≤ panel_limit
  pub ports_differ : IsDistinct nat_eq (map (λ panel. panel.port) plant.panels)
  pub title : IsWords 1 longest_title plant.title
  pub server : IsServer plant.server
  pub named : AreNamed plant
  pub linked : AreLinked plant
