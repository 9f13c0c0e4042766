-- The definitions computed by hand, on two mixers of which each has a bus that carries the other's output. Source 0 is a
-- camera and source 1 a replay; 2 and 3 are the mixers' outputs, and 4 and 5 the sources of level 1. The first mixer has the
-- destinations 1 and 2, the second one 3 and 4, and destination 5 switches bus 1. Destination 0 is the root.
use Rattle.std.proofs.Common.{◌≡◌, ℕ, ◌==◌, cond, [], ◌∷◌, codes, true, false, Option, Some, None, refl}
use Rattle.std.specs.Ordering.{nat_cmp}
use Rattle.std.specs.FinMap as finite
use Rattle.std.specs.FinMap.{empty}
use Rattle.number_tables.specs.Table.{put}
use Rattle.number_tables.proofs.PutLemmas.{get-put}
use Rattle.plant_config.specs.Plant.{PlantData}
use Rattle.plant_config.specs.Bench.{bench}
use Rattle.crosspoint_state.specs.declared.spot.Spot.{Spot}
use Rattle.crosspoint_state.specs.Crosspoints.{Crosspoints}
use Rattle.crosspoint_state.specs.Applied.{untied}
use Rattle.mixer_effects.specs.Buses.{bus_at, is_on, device_at, fed_device, buses_at, switched_at}
use Rattle.mixer_effects.specs.Live.{live, is_live, is_seen}

abbrev two_mixers : PlantData
two_mixers = record bench {
  levels =
      record { matrix = 0; level = 0; first_source = 0; sources = 4; first_dest = 0; destinations = 5 }
      ∷ record { matrix = 0; level = 1; first_source = 4; sources = 2; first_dest = 5; destinations = 1 }
      ∷ [];
  sources =
      record { name = codes "C"; origin = 0; pool = None }
      ∷ record { name = codes "R"; origin = 1; pool = None }
      ∷ record { name = codes "A"; origin = 2; pool = None }
      ∷ record { name = codes "B"; origin = 3; pool = None }
      ∷ record { name = codes "OFF"; origin = 4; pool = None }
      ∷ record { name = codes "ON"; origin = 5; pool = None }
      ∷ [];
  devices =
      record { output = 2; first_bus = 0; buses = 2 }
      ∷ record { output = 3; first_bus = 2; buses = 2 }
      ∷ [];
  buses =
      record { device = 0; dest = 1; switch = Some 5 }
      ∷ record { device = 0; dest = 2; switch = None }
      ∷ record { device = 1; dest = 3; switch = None }
      ∷ record { device = 1; dest = 4; switch = None }
      ∷ [];
}

buses_of_second : buses_at two_mixers 1 ≡ 3 ∷ 4 ∷ []
buses_of_second = refl

switched : switched_at two_mixers 5 ≡ 1 ∷ []
switched = refl

second_is_fed : fed_device two_mixers 3 ≡ Some 1
second_is_fed = refl

camera_is_no_output : fed_device two_mixers 0 ≡ None
camera_is_no_output = refl

bus_of_second : device_at two_mixers 4 ≡ Some 1
bus_of_second = refl

root_is_no_bus : bus_at two_mixers 0 ≡ None
root_is_no_bus = refl

-- the root and the switch carry these, and the buses the camera, the second mixer, the first mixer and the replay
abbrev carried : Option ℕ → Option ℕ → Crosspoints
carried root switch =
    put (put (put (put (put (put empty 0 (untied root)) 1 (untied (Some 0))) 2 (untied (Some 3))) 3 (untied (Some 2))) 4 (untied (Some 1))) 5 (untied switch)

abbrev spot : Option ℕ → Option ℕ → ℕ → Option Spot
spot root switch dest =
    cond (dest == 5) (untied switch) (cond (dest == 4) (untied (Some 1)) (cond (dest == 3) (untied (Some 2)) (cond (dest == 2) (untied (Some 3)) (cond (dest == 1) (untied (Some 0)) (cond (dest == 0) (untied root) None)))))

at : (root switch : Option ℕ) (dest : ℕ) → finite.get (carried root switch) dest ≡ spot root switch dest
at root switch dest = simp (get-put, finite.get-empty {X = Spot} nat_cmp dest)

-- with the first mixer at the root and source 1 of level 1 at the switch
around : live two_mixers (carried (Some 2) (Some 5)) (0 ∷ []) ≡ 0 ∷ 1 ∷ 2 ∷ 1 ∷ 2 ∷ 3 ∷ 4 ∷ []
around = simp (at (Some 2) (Some 5))

camera_is_seen : is_seen two_mixers (carried (Some 2) (Some 5)) (0 ∷ []) 0 ≡ true
camera_is_seen = simp (at (Some 2) (Some 5))

replay_is_seen : is_seen two_mixers (carried (Some 2) (Some 5)) (0 ∷ []) 1 ≡ true
replay_is_seen = simp (at (Some 2) (Some 5))

switch_is_not_live : is_live two_mixers (carried (Some 2) (Some 5)) (0 ∷ []) 5 ≡ false
switch_is_not_live = simp (at (Some 2) (Some 5))

-- with source 0 of level 1 at the switch the camera's bus is off, and so it is where the switch is parked
off : is_on two_mixers (carried (Some 2) (Some 4)) 1 ≡ false
off = simp (at (Some 2) (Some 4))

camera_is_cut : is_seen two_mixers (carried (Some 2) (Some 4)) (0 ∷ []) 0 ≡ false
camera_is_cut = simp (at (Some 2) (Some 4))

replay_is_seen_still : is_seen two_mixers (carried (Some 2) (Some 4)) (0 ∷ []) 1 ≡ true
replay_is_seen_still = simp (at (Some 2) (Some 4))

camera_is_cut_too : is_seen two_mixers (carried (Some 2) None) (0 ∷ []) 0 ≡ false
camera_is_cut_too = simp (at (Some 2) None)

-- with nothing at the root all is dark, although the loop is closed
alone : live two_mixers (carried None (Some 5)) (0 ∷ []) ≡ 0 ∷ []
alone = simp (at None (Some 5))

all_is_dark : is_seen two_mixers (carried None (Some 5)) (0 ∷ []) 2 ≡ false
all_is_dark = simp (at None (Some 5))
