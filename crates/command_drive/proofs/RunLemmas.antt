-- A drive is a run of the world.
use Rattle.std.proofs.Common.{◌≡◌, ℕ, ◌+◌, ◌%◌, ◌<◌, Bool, true, false, if◌then◌else◌, List, [], ◌∷◌, ◌++◌, zero, suc, Option, Some, None, refl, sym, ap, subst, arith, append-nil}
use Rattle.std.specs.Option.{option_to_list}
use Rattle.swp08_messages.specs.declared.message.Message.{Message}
use Rattle.swp08_messages.specs.declared.message.Message.TheVariants.{Connect, ExtConnect}
use Rattle.matrix_driver.specs.declared.event.DriverEvent.{DriverEvent}
use Rattle.matrix_driver.specs.declared.event.DriverEvent.TheVariants.{Heard, Timeout}
use Rattle.matrix_driver.specs.Levels.{IsOf}
use Rattle.matrix_driver.specs.Progress.{crosspoint_of}
use Rattle.matrix_driver.specs.Driver.{answer}
use Rattle.matrix_driver.specs.World as worlds
use Rattle.matrix_driver.specs.World.{World, Step, Wanted, Overdue, LostForth, LostBack, Taken, Told, with_forth, with_back, told_by, Leads, Runs}
use Rattle.command_drive.specs.Drive.{Drive, bench_level, lost_to_frame, lost_to_driver, is_lost, put, start, comes, takes, turned, turn, turns, want, wanted}
use Rattle.command_drive.specs.DriveInside.{IsRegular}
use Rattle.command_drive.specs.DriveLaws.{DrivesAreRuns}
use Rattle.command_drive.proofs.RegularLemmas.{regular_wanted}

-- steps lead from one world to another
record Reaches (old new : World) : Type 0 where
  steps : List Step
  run : Runs old steps new

joins : (old mid new : World) (steps more : List Step) → Runs old steps mid → Runs mid more new → Runs old (steps ++ more) new
joins old mid new [] more same run = subst (λ w. Runs w more new) (sym same) run
joins old mid new (step ∷ steps) more h run = (h.0, h.1, joins h.0 mid new steps more h.2 run)

on : (old mid new : World) → Reaches old mid → Reaches mid new → Reaches old new
on old mid new one other = record { steps = one.steps ++ other.steps; run = joins old mid new one.steps other.steps one.run other.run }

step_to : (old : World) (step : Step) (new : World) → Leads old step new → Reaches old new
step_to old step new leads = record { steps = step ∷ []; run = (new, leads, refl) }

stays : (old new : World) → old ≡ new → Reaches old new
stays old new same = record { steps = []; run = same }

-- What was put may have been lost at once: the world in which it is there comes to the one that the rule leaves.
lost_forth : (w : World) (way : List Message) (message : Message) (b : Bool) → Reaches (with_forth w (way ++ message ∷ [])) (with_forth w (if b then way else way ++ message ∷ []))
lost_forth w way message true =
    step_to (with_forth w (way ++ message ∷ [])) LostForth (with_forth w way)
    (record { one = record { before = way; lost = message; behind = []; was = refl; is = sym (append-nil way) }; others = refl })
lost_forth w way message false = stays (with_forth w (way ++ message ∷ [])) (with_forth w (way ++ message ∷ [])) refl

lost_back : (w : World) (way : List Message) (message : Message) (b : Bool) → Reaches (with_back w (way ++ message ∷ [])) (with_back w (if b then way else way ++ message ∷ []))
lost_back w way message true =
    step_to (with_back w (way ++ message ∷ [])) LostBack (with_back w way)
    (record { one = record { before = way; lost = message; behind = []; was = refl; is = sym (append-nil way) }; others = refl })
lost_back w way message false = stays (with_back w (way ++ message ∷ [])) (with_back w (way ++ message ∷ [])) refl

put_forth : (w : World) (before : ℕ) (way : List Message) (message : Option Message) → Reaches (with_forth w (way ++ option_to_list message)) (with_forth w (put lost_to_frame before way (option_to_list message)))
put_forth w before way None = stays (with_forth w (way ++ [])) (with_forth w way) (ap (with_forth w) (append-nil way))
put_forth w before way (Some message) = lost_forth w way message (is_lost lost_to_frame (suc before))

put_told : (w : World) (before : ℕ) (way : List Message) (message : Message) → Reaches (with_back w (way ++ told_by message)) (with_back w (put lost_to_driver before way (told_by message)))
put_told w before way (Connect at source) = lost_back w way _ (is_lost lost_to_driver (suc before))
put_told w before way (ExtConnect at source) = lost_back w way _ (is_lost lost_to_driver (suc before))
put_told w before way message = stays (with_back w (way ++ [])) (with_back w way) (ap (with_back w) (append-nil way))

-- an event
comes_on : (drive : Drive) (event : DriverEvent) (old : World) → Reaches old (worlds.comes drive.world event) → Reaches old (comes drive event).world
comes_on drive event old before =
    on old (worlds.comes drive.world event) (comes drive event).world before
    (put_forth (worlds.comes drive.world event) drive.sent drive.world.to_frame (answer drive.world.driver event))

-- a want
of_bench : (dest source : ℕ) → dest < 32 → source < 32 → IsOf bench_level (crosspoint_of dest (Some source))
of_bench dest source d s = record { dest = d; source = omega (arith, s) }

wants_on : (drive : Drive) (number place : ℕ) → IsRegular drive → Reaches drive.world (comes drive (want number place)).world
wants_on drive number place is =
    comes_on drive (want number place) drive.world
    (step_to drive.world (Wanted (place % 32) (Some ((number + place) % 32))) (worlds.comes drive.world (want number place))
    (record {
      may = subst (λ level. IsOf level (crosspoint_of (place % 32) (Some ((number + place) % 32)))) (sym is.is_driver.level) (of_bench (place % 32) ((number + place) % 32) (omega arith) (omega arith));
      is = refl;
    }))

-- a turn
turned_on : (drive : Drive) (back forth : List Message) → drive.world.to_driver ≡ back → drive.world.to_frame ≡ forth → Reaches drive.world (turned drive back forth).world
turned_on drive (first ∷ rest) forth e h =
    comes_on (record drive { world = record drive.world { to_driver = rest } }) (Heard first) drive.world
    (step_to drive.world Told (worlds.hears_of drive.world first rest) (record { first = first; rest = rest; way = e; is = refl }))
turned_on drive [] (first ∷ rest) e h =
    on drive.world (worlds.takes drive.world first rest) (takes drive first rest).world
    (step_to drive.world Taken (worlds.takes drive.world first rest) (record { first = first; rest = rest; way = h; is = refl }))
    (put_told (worlds.takes drive.world first rest) drive.told drive.world.to_driver first)
turned_on drive [] [] e h =
    comes_on drive Timeout drive.world
    (step_to drive.world Overdue (worlds.comes drive.world Timeout) (record { may = tt; is = refl }))

turns_on : (count : ℕ) (drive : Drive) → Reaches drive.world (turns count drive).world
turns_on zero drive = stays drive.world drive.world refl
turns_on (suc count) drive =
    on drive.world (turn drive).world (turns count (turn drive)).world (turned_on drive drive.world.to_driver drive.world.to_frame refl refl) (turns_on count (turn drive))

wanted_on : (number wants : ℕ) → Reaches start.world (wanted number wants).world
wanted_on number zero = stays start.world start.world refl
wanted_on number (suc place) =
    on start.world (wanted number place).world (wanted number (suc place)).world (wanted_on number place) (wants_on (wanted number place) number place (regular_wanted number place))

pub drives_are : DrivesAreRuns
drives_are number wants count =
    let it = on start.world (wanted number wants).world (turns count (wanted number wants)).world (wanted_on number wants) (turns_on count (wanted number wants)) in
    record { steps = it.steps; run = it.run }
