-- Sets of destinations, by the numbers that these have in the whole plant, in the order matrix, level, number.
use Rattle.number_tables.specs.Numbers.{Numbers}
pub use Rattle.number_tables.specs.Numbers.{lowest, word_limit, HasBitsOf}

-- a set of destinations. It is the list of its members in order, each once, so that equal sets are one value.
abbrev pub Destinations : Type 0
Destinations = Numbers
