-- The plant of a document, computed: the bench, and what is given for absent keys.
use Rattle.std.proofs.Common.{◌≡◌, [], ◌∷◌, true, false, Ok, Err, refl, codes}
use Rattle.std.specs.Str.{chars, is_utf8}
use Rattle.toml.specs.Data.{boolean, array, table, no_items, Members, no_members}
use Rattle.toml.proofs.OnLiterals.{toml_on_literals}
use Rattle.plant_file.specs.declared.fault.PlantFault.TheVariants.{NotToml}
use Rattle.plant_file.specs.FileData.{FileData}
use Rattle.plant_file.specs.declared.entries.Server.{Server}
use Rattle.plant_file.specs.DataOfText.{document_answer}
use Rattle.plant_file.specs.Reading.{names_of, source_letter, destination_letter}
use Rattle.plant_rules.specs.PlantFile.{file_of, file_of_text}
use Rattle.plant_rules.proofs.FileSamples.{file_on_literals, tables, n, remote, pool, bench, house, bus_with}

abbrev default_server : Server
default_server = record {
  listen = codes "127.0.0.1";
  display = codes "127.0.0.1:8901";
  idle_ms = 100;
  idle_limit = 1000000;
  turns = 1099511627776;
  sessions = 1000000;
  refresh_every = 0;
  brightness = 3;
}

-- The bench's data. Its server's keys, its names and the first panel's `master` are those that are given.
abbrev bench_data : FileData
bench_data = record {
  title = codes "Bench";
  server = default_server;
  levels = record { matrix = 0; level = 0; sources = 32; destinations = 32; source_names = names_of source_letter 32 []; destination_names = names_of destination_letter 32 [] } ∷ [];
  remotes = [];
  pools = [];
  devices = [];
  buses = [];
  air = [];
  preview = [];
  displays = [];
  panels = record { device = 1; port = 9001; master = false } ∷ record { device = 2; port = 9002; master = true } ∷ [];
}

-- The bench has no fault.
bench_is : file_of bench ≡ Ok bench_data
unfolding file_on_literals
bench_is = refl

-- A document has no fault.
abbrev IsGood : Members → Type 0
IsGood document = (file : FileData) × (file_of document ≡ Ok file)

-- an empty server, empty roots, and a key that no section has
empty_sections : IsGood (house ((codes "server", table no_members) ∷ (codes "air", array no_items) ∷ (codes "colour", n 1) ∷ []))
unfolding file_on_literals
empty_sections = (_, refl)

-- without a switch's matrix its other keys aren't looked at, not even for their type
no_switch : IsGood (bus_with ((codes "switch_level", boolean true) ∷ []))
unfolding file_on_literals
no_switch = (_, refl)

-- a remote with its pool
remote_with_pool : IsGood (house ((codes "remote", tables (remote 1 2 0 1 ∷ [])) ∷ (codes "pool", tables (pool 0 1 ∷ [])) ∷ []))
unfolding file_on_literals
remote_with_pool = (_, refl)

-- Bytes that are no UTF-8, and a text that is no document.
no_utf8 : file_of_text (255 ∷ []) ≡ Err NotToml
unfolding file_on_literals is_utf8 chars document_answer file_of_text
no_utf8 = refl

no_document : file_of_text (codes "title") ≡ Err NotToml
unfolding file_on_literals is_utf8 chars toml_on_literals document_answer file_of_text
no_document = refl
