-- The text's definition on small values that are worked by hand.
use Rattle.std.specs.Prelude.{◌≡◌, true, false, [], ◌∷◌, replicate, None, Some, refl}
use Rattle.plant_config.specs.Bench.{bench}
use Rattle.plant_core.specs.StateText.{counts_text, spot_text, entry_text, display_text, two_or_none, state_size}

-- the bench: 32 sources and destinations, two panels, no displays
bench_size : state_size bench ≡ 262802
unfolding bench
bench_size = refl

bench_counts : counts_text bench ≡ 32 ∷ 0 ∷ 0 ∷ 0 ∷ 32 ∷ 0 ∷ 0 ∷ 0 ∷ 2 ∷ 0 ∷ 0 ∷ 0 ∷ 0 ∷ 0 ∷ 0 ∷ 0 ∷ []
unfolding bench
bench_counts = refl

-- parked, source 300 without a tie, source 3 by tie 2
parked_spot : spot_text None ≡ replicate 8 255
parked_spot = refl

local_spot : spot_text (Some (record { source = 300; tie = None })) ≡ 44 ∷ 1 ∷ 0 ∷ 0 ∷ 255 ∷ 255 ∷ 255 ∷ 255 ∷ []
local_spot = refl

remote_spot : spot_text (Some (record { source = 3; tie = Some 2 })) ≡ 3 ∷ 0 ∷ 0 ∷ 0 ∷ 2 ∷ 0 ∷ 0 ∷ 0 ∷ []
remote_spot = refl

-- device 1023 protects, and none does
last_device : two_or_none (Some 1023) ≡ 255 ∷ 3 ∷ []
last_device = refl

no_device : two_or_none None ≡ 255 ∷ 255 ∷ []
no_device = refl

-- a change that parks, and a place without one
parking : entry_text (Some (record { dest = 5; source = None })) ≡ 5 ∷ 0 ∷ 0 ∷ 0 ∷ 255 ∷ 255 ∷ 255 ∷ 255 ∷ []
parking = refl

unused : entry_text None ≡ replicate 8 0
unused = refl

-- a display that was never shown anything, one that is parked, and one that is on preview
never : display_text None ≡ replicate 7 0
never = refl

dark : display_text (Some (record { source = None; air = false; preview = false })) ≡ 1 ∷ 255 ∷ 255 ∷ 255 ∷ 255 ∷ 0 ∷ 0 ∷ []
dark = refl

lit : display_text (Some (record { source = Some 1; air = false; preview = true })) ≡ 1 ∷ 1 ∷ 0 ∷ 0 ∷ 0 ∷ 0 ∷ 1 ∷ []
lit = refl
