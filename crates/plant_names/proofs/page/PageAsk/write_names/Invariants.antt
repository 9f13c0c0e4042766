use Rattle.std.proofs.Common.{◌≡◌, ◌+◌, ◌*◌, ◌++◌, take, vec_len, vec_capacity}
use Rattle.std.specs.List.{flat_map}
use Rattle.plant_names.specs.Pages.{bytes_of_size, fitted}
use Rattle.plant_names.proofs.page.PageAsk.write_names.Given as goal

-- The names so far were appended.
abbrev pub invariant-loop-name : goal.invariant-loop-name
invariant-loop-name l = record {
  text : l.out.items ≡ l.initial.out.items ++ flat_map (fitted (bytes_of_size l.self.size)) (take l.name-index l.names);
  len : vec_len l.out ≡ vec_len l.initial.out + bytes_of_size l.self.size * l.name-index;
  capacity : vec_capacity l.out ≡ vec_capacity l.initial.out;
}
