use Rattle.std.proofs.Common.{◌≡◌, [], ◌∷◌, length}
use Rattle.plant_file.specs.Reading.{names_of}
use Rattle.plant_file.proofs.read.names.with_defaults.Given as goal

abbrev pub invariant-loop-number : goal.invariant-loop-number
invariant-loop-number l = record {
  counted : length l.names.items ≡ l.number;
  same : names_of (l.letter ∷ []) l.count l.names.items ≡ names_of (l.letter ∷ []) l.count l.fn.names.items;
}
