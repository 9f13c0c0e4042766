-- How a table is held: a list that has at each index the value of that number.
use Rattle.std.specs.Prelude.{ℕ, ◌+◌, List, [], ◌∷◌, length, Option}
use Rattle.std.specs.FinMap.{empty}
use Rattle.number_tables.specs.Table.{Entries, Table, put}

-- the entries of a list whose first place is this number's
abbrev pub entries_from : {V : Type 0} → ℕ → List (Option V) → Entries V
entries_from number [] = empty
entries_from number (value ∷ values) = put (entries_from (number + 1) values) number value

-- the table that a list stands for
abbrev pub table_of : {V : Type 0} → List (Option V) → Table V
table_of values = record { entries = entries_from 0 values; room = length values }
