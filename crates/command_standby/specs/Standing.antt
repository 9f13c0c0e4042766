-- What is said of a standby at the end: its numbers, and what each destination carries.
use Rattle.std.specs.Prelude.{ℕ, List, [], ◌++◌, count_by, is_some, codes, Option}
use Rattle.std.specs.Fmt.{decimal}
use Rattle.std.specs.List.{flat_map, range_with_len}
use Rattle.std.specs.Option.{option_map_or, option_and_then}
use Rattle.plant_config.specs.declared.records.Point.{Point}
use Rattle.plant_config.specs.Plant.{destinations_of}
use Rattle.plant_config.specs.Sites.{point_of, source_number_of}
use Rattle.crosspoint_state.specs.Crosspoints.{source_of}
use Rattle.plant_core.specs.State.{State}
use Rattle.command_rows.specs.Lines.{line}
use Rattle.standby.specs.Standby.{Data}
use Rattle.command_standby.specs.declared.follow.Passed.{Passed}

-- the source of a destination, by its number in its level
abbrev pub carried_by : State → ℕ → Option ℕ
carried_by state dest =
    option_and_then (source_number_of state.plant) (source_of state.crosspoints dest)

-- the line of a destination that carries a source: its matrix, level and number, and the source's number
abbrev pub at_line : Point → ℕ → List ℕ
at_line at source =
    line (codes "at " ++ decimal at.matrix ++ codes " " ++ decimal at.level ++ codes " "
    ++ decimal at.dest ++ codes " " ++ decimal source)

-- the same, and nothing of one that is parked
abbrev pub dest_text : State → ℕ → List ℕ
dest_text state dest =
    option_map_or (λ at. option_map_or (at_line at) (carried_by state dest) [])
    (point_of state.plant dest) []

-- the lines of all destinations, in the order matrix, level, number
abbrev pub crosspoints_text : State → List ℕ
crosspoints_text state =
    flat_map (dest_text state) (range_with_len 0 (destinations_of state.plant))

-- how many requests are applied and kept, how many came that were old or beyond the window, and what is carried
abbrev pub standing_text : Data → Passed → List ℕ
standing_text standby passed =
    line (codes "applied " ++ decimal standby.applied)
    ++ line (codes "kept " ++ decimal (count_by is_some standby.window))
    ++ line (codes "old " ++ decimal passed.old_count)
    ++ line (codes "beyond " ++ decimal passed.beyond_count)
    ++ crosspoints_text standby.state
