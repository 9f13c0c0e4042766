use Rattle.std.proofs.Common.{◌≡◌, true}
use Rattle.plant_config.specs.declared.records.Change.{Change}
use Rattle.salvo_groups.proofs.AllEntries.{All-start, All-with_store, All-with_clear}
use Rattle.salvo_groups.proofs.laws.groups_have_only_what_was_stored.Goals as goal

pub returns-clause-start : goal.returns-clause-start
returns-clause-start c test = All-start (λ (entry : Change). test entry ≡ true)

pub returns-clause-stay : goal.returns-clause-stay
returns-clause-stay c test groups all = record {
  store = λ number change. All-with_store (λ (entry : Change). test entry ≡ true) groups number change all;
  clear = λ number. All-with_clear (λ (entry : Change). test entry ≡ true) groups number all;
}
