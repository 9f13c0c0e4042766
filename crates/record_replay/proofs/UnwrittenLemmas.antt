-- The work of a line, with its output line in memory.
use Rattle.std.proofs.Common.{◌≡◌, ℕ, List, [], ◌++◌, Option, Some, sym, ◌∙◌, ap, subst}
use Rattle.ctl_io.specs.Sink.{appended}
use Rattle.plant_config.specs.Plant.{PlantData}
use Rattle.record_replay.specs.declared.output.Output.{Output}
use Rattle.record_replay.specs.declared.replayer.Replayer.{Replayer}
use Rattle.record_replay.specs.OutputInside.{HasNothing, Puts, IsAllGiven}
use Rattle.record_replay.specs.ReplayerInside.{DoesLine}

-- All that was put was given, and so it is what was given.
pub given_whole : {K : Type 0} (written : K → Option (List ℕ)) (faults : K → ℕ) (sink now : K) (old new : Output K) (its : List ℕ) → HasNothing written faults sink old → Puts written faults its old new
    → IsAllGiven written faults new now → written now ≡ appended (written sink) its
given_whole written faults sink now old new its nothing puts given = (given (written sink) (faults sink) 0 its (puts.puts (written sink) (faults sink) 0 [] nothing)).0

pub text_given : (text cleared its : List ℕ) → cleared ≡ [] → Some text ≡ appended (Some cleared) its → text ≡ its
text_given text cleared its none is =
    let all : text ≡ cleared ++ its = cc in
    all ∙ ap (λ (front : List ℕ). front ++ its) none

-- The work of the line was done, as the plant and the line's text are called here.
pub does_here : (plant its : PlantData) (line : List ℕ) (replayer then : Replayer) (text put : List ℕ) → its ≡ plant → text ≡ put → DoesLine its line replayer then (λ all packets. put ≡ all)
    → DoesLine plant line replayer then (λ all packets. text ≡ all)
does_here plant its line replayer then text put plant_is same does =
    subst (λ (p : PlantData). DoesLine p line replayer then (λ all packets. text ≡ all)) plant_is
    (subst (λ (t : List ℕ). DoesLine its line replayer then (λ all packets. t ≡ all)) (sym same) does)
