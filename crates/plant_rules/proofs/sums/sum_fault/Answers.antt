use Rattle.plant_rules.specs.Rules.{sum_faults}
use Rattle.plant_file.proofs.FirstFault.{first_fault-append}
use Rattle.plant_rules.proofs.RangesLemmas.{sum_by-sources, sum_by-destinations}
use Rattle.plant_rules.proofs.sums.sum_fault.Goals as goal

pub sources_of-requires : goal.sources_of-requires
sources_of-requires c = rw c.levels-levels.ensures (sum_by-sources c.args.file.now.levels c.requires.levels)

pub destinations_of-requires : goal.destinations_of-requires
destinations_of-requires c = rw c.levels-levels.ensures (sum_by-destinations c.args.file.now.levels c.requires.levels)

pub returns : goal.returns
unfolding sum_faults
returns c = rw first_fault-append (cc)
