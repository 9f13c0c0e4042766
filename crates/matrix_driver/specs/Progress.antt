-- What is wanted of each destination of a level, and at what it is settled.
use Rattle.std.specs.Prelude.{ℕ, nat_eq, Bool, false, not, Option, find, refl}
use Rattle.std.specs.List.{range_with_len}
use Rattle.std.specs.Option.{option_map, option_map_or, option_and_then, option_eq}
use Rattle.std.specs.FinMap.{empty, get, insert, remove, code as map_code}
use Rattle.std.specs.Coded.{Coded, code_by, coded×, coded_ℕ, coded_option}
use Rattle.number_tables.specs.Table.{Entries}
use Rattle.matrix_driver.specs.declared.crosspoint.Crosspoint.{Crosspoint}

-- For each destination, the source that was wanted last and the source at which it is settled: none for a destination of
-- which nothing was wanted, and for one that isn't settled. `Some None` is a destination that is to be parked, or is parked.
-- `room` is the number of destinations.
pub record Progress : Type 0 where
  pub wants : Entries (Option ℕ)
  pub settled : Entries (Option ℕ)
  pub room : ℕ

-- sources by destination, and the progress, as they are stored
abbrev pub sources_code : Coded (Entries (Option ℕ))
sources_code = map_code coded_ℕ (coded_option coded_ℕ)

abbrev pub progress_code : Coded Progress
progress_code =
    code_by (Entries (Option ℕ) × (Entries (Option ℕ) × ℕ))
    (coded× sources_code (coded× sources_code coded_ℕ))
    (λ progress. (progress.wants, (progress.settled, progress.room)))
    (λ tuple. record { wants = tuple.0; settled = tuple.1.0; room = tuple.1.1 }) (λ _. refl)

-- nothing was wanted yet
abbrev pub blank : ℕ → Progress
blank room = record { wants = empty; settled = empty; room = room }

-- a destination with a source
abbrev pub crosspoint_of : ℕ → Option ℕ → Crosspoint
crosspoint_of dest source = record { dest = dest; source = source }

-- whether these give a crosspoint's destination its source
abbrev pub has : Entries (Option ℕ) → Crosspoint → Bool
has sources crosspoint =
    option_map_or (λ source. option_eq nat_eq source crosspoint.source)
    (get sources crosspoint.dest) false

-- whether a crosspoint's destination is settled at its source
abbrev pub is_settled : Progress → Crosspoint → Bool
is_settled progress crosspoint = has progress.settled crosspoint

-- whether a destination is wanted and isn't settled at its wanted source
abbrev pub is_due : Progress → ℕ → Bool
is_due progress dest =
    option_map_or (λ source. not (is_settled progress (crosspoint_of dest source)))
    (get progress.wants dest) false

-- the lowest destination that is wanted and not settled at its wanted source, with that source
abbrev pub next : Progress → Option Crosspoint
next progress =
    option_and_then (λ dest. option_map (crosspoint_of dest) (get progress.wants dest))
    (find (is_due progress) (range_with_len 0 progress.room))

-- a source is wanted of a destination
abbrev pub noted : Progress → Crosspoint → Progress
noted progress crosspoint =
    record progress { wants = insert progress.wants crosspoint.dest crosspoint.source }

-- a destination is settled at a source
abbrev pub settled_at : Progress → Crosspoint → Progress
settled_at progress crosspoint =
    record progress { settled = insert progress.settled crosspoint.dest crosspoint.source }

-- a destination isn't settled
abbrev pub opened : Progress → ℕ → Progress
opened progress dest = record progress { settled = remove progress.settled dest }
