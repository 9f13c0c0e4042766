-- Small documents of plant files, for the examples.
use Rattle.std.proofs.Common.{ℕ, pos, List, [], ◌∷◌, ◌++◌, map, true, codes}
use Rattle.std.specs.Bool.{⊤}
use Rattle.std.specs.Fmt.{digits}
use Rattle.toml.specs.Data.{Data, string, integer, boolean, array, table, Items, no_items, item, Members, no_members, member}
use Rattle.plant_file.specs.KeyFaults.{section_faults}
use Rattle.plant_file.specs.Reading.{data_of}
use Rattle.plant_rules.specs.Rules.{sum_faults, twice_faults}
use Rattle.plant_rules.specs.Links.{unknown_faults, not_local_faults, no_pool_faults}
use Rattle.plant_rules.specs.PlantFile.{file_of}

-- what a proof unfolds to compute the plant of a document
unfoldable pub file_on_literals : ⊤
unfolding digits section_faults data_of sum_faults twice_faults unknown_faults not_local_faults no_pool_faults file_of
file_on_literals = tt

-- a table of these keys, an array of these values, an array of these tables, and a number
abbrev pub keys : List (List ℕ × Data) → Members
keys [] = no_members
keys (m ∷ ms) = member m.0 m.1 (keys ms)

abbrev pub items : List Data → Items
items [] = no_items
items (d ∷ ds) = item d (items ds)

abbrev pub tables : List (List (List ℕ × Data)) → Data
tables entries = array (items (map (λ entry. table (keys entry)) entries))

abbrev pub n : ℕ → Data
n number = integer (pos number)

abbrev pub level : ℕ → ℕ → ℕ → List (List ℕ × Data)
level matrix number count =
    (codes "matrix", n matrix) ∷ (codes "level", n number) ∷ (codes "sources", n count) ∷ (codes "destinations", n count) ∷ []

abbrev pub remote : ℕ → ℕ → ℕ → ℕ → List (List ℕ × Data)
remote matrix source from from_source =
    (codes "matrix", n matrix) ∷ (codes "level", n 0) ∷ (codes "source", n source) ∷ (codes "from", n from) ∷ (codes "from_source", n from_source) ∷ []

abbrev pub pool : ℕ → ℕ → List (List ℕ × Data)
pool from to = (codes "from", n from) ∷ (codes "to", n to) ∷ (codes "level", n 0) ∷ (codes "ties", n 1) ∷ []

-- the same with so many ties kept
abbrev pub keeping : ℕ → List (List ℕ × Data)
keeping reserve = (codes "reserve", n reserve) ∷ pool 0 1

abbrev pub device : List ℕ → ℕ → List (List ℕ × Data)
device name source = (codes "name", string name) ∷ (codes "matrix", n 0) ∷ (codes "source", n source) ∷ []

abbrev pub root : ℕ → ℕ → List (List ℕ × Data)
root matrix destination = (codes "matrix", n matrix) ∷ (codes "destination", n destination) ∷ []

abbrev pub panel : ℕ → ℕ → List (List ℕ × Data)
panel number port = (codes "device", n number) ∷ (codes "port", n port) ∷ []

abbrev pub title : List ℕ × Data
title = (codes "title", string (codes "Bench"))

abbrev pub panels : List ℕ × Data
panels = (codes "panel", tables (panel 1 9001 ∷ (panel 2 9002 ++ (codes "master", boolean true) ∷ []) ∷ []))

-- the bench plant, and a house of two matrices with these sections more
abbrev pub bench : Members
bench = keys (title ∷ (codes "level", tables (level 0 0 32 ∷ [])) ∷ panels ∷ [])

abbrev pub house : List (List ℕ × Data) → Members
house more = keys (title ∷ (codes "level", tables (level 0 0 3 ∷ level 1 0 3 ∷ [])) ∷ panels ∷ more)

-- a house with a bus that has these keys more
abbrev pub bus_with : List (List ℕ × Data) → Members
bus_with more = house ((codes "device", tables (device (codes "ME1") 0 ∷ [])) ∷ (codes "bus", tables ((((codes "device", string (codes "ME1")) ∷ root 0 1) ++ more) ∷ [])) ∷ [])

-- a plant of one level of two sources, which has these names
abbrev pub level_with_names : List Data → Members
level_with_names names = keys (title ∷ (codes "level", tables ((level 0 0 2 ++ (codes "source_names", array (items names)) ∷ []) ∷ [])) ∷ panels ∷ [])
