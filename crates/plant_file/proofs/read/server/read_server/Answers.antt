use Rattle.std.proofs.Common.{◌≡◌, inl, sym, ap}
use Rattle.toml.specs.Data.{no_members}
use Rattle.toml.specs.View.{table_view, members_view}
use Rattle.plant_file.proofs.OnlyAnswer.{server-absent, server-table, server-other}
use Rattle.plant_file.proofs.read.server.read_server.Goals as goal

pub returns-in_default : goal.returns-in_default
returns-in_default c =
    let empty : table_view c.new-empty.result ≡ no_members = ap members_view c.new-empty.ensures.empty in
    rw (server-absent (table_view c.args.document.now) (rw c.key.ensures at c.in_default.ensures)) (rw empty at c.read_server_keys.ensures)

pub returns-in-Some-as_table : goal.returns-in-Some-as_table
returns-in-Some-as_table c =
    rw (server-table (table_view c.args.document.now) _ _ (rw c.key.ensures at c.in-Some.ensures) c.in-Some-as_table.ensures) c.read_server_keys-in-Some-as_table.ensures

pub returns-in-None : goal.returns-in-None
returns-in-None c = inl (sym (server-other (table_view c.args.document.now) _ (rw c.key.ensures at c.in-Some.ensures) c.in-None.ensures))
