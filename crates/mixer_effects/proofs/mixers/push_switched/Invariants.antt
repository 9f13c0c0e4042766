use Rattle.std.proofs.Common.{◌≡◌, ◌++◌, take}
use Rattle.mixer_effects.specs.WiringInside.{switched_among}
use Rattle.mixer_effects.proofs.mixers.push_switched.Given as goal

abbrev pub invariant-loop-bus : goal.invariant-loop-bus
invariant-loop-bus l =
    l.out.items ≡ l.fn.out.items ++ switched_among l.switch (take l.bus-index l.buses)
