use Rattle.std.proofs.Common.{◌≡◌, ◌++◌, take, drop, find}
use Rattle.std.specs.Str.{bytes_eq}
use Rattle.ctl_io.specs.Named.{without_first}
use Rattle.ctl_io.proofs.memory.named.take_first.Given as goal

abbrev pub invariant-loop-i : goal.invariant-loop-i
invariant-loop-i g l = record {
  same : l.entries.items ≡ l.initial.entries.items;
  found : find (λ entry. bytes_eq (g.T.Named.name_of entry) l.name) (drop l.i l.entries.items) ≡ find (λ entry. bytes_eq (g.T.Named.name_of entry) l.name) l.entries.items;
  rest : take l.i l.entries.items ++ without_first (λ entry. bytes_eq (g.T.Named.name_of entry) l.name) (drop l.i l.entries.items) ≡ without_first (λ entry. bytes_eq (g.T.Named.name_of entry) l.name) l.entries.items;
}
