use Rattle.std.proofs.Common.{◌≡◌, List, sym, subst, ◌∙◌}
use Rattle.std.specs.Prelude.{not, All}
use Rattle.std.proofs.lemmas.List.Elements.{All-filter}
use Rattle.plant_config.specs.declared.records.Change.{Change}
use Rattle.plant_config.specs.IsPlant.{IsDest}
use Rattle.crosspoint_state.specs.Crosspoints.{Crosspoints, is_idle}
use Rattle.tally.specs.Update.{AreMoves}
use Rattle.plant_core.specs.StateInside.{busy_of}
use Rattle.plant_core.specs.DueInside.{HaveTurned}
use Rattle.plant_core.proofs.BusyLemmas.{busy_moves}
use Rattle.plant_core.proofs.tables.Tables.make_group.Goals as goal

pub take-requires : goal.take-requires
take-requires c = c.requires.group.few

pub commit-requires : goal.commit-requires
commit-requires c = record {
  dests = λ k d below. (c.requires.changes k d below).dest;
  kept = c.requires.kept;
  once = c.requires.group.distinct;
  counts = c.requires.tables.counted;
  valid = c.requires.ties;
  enough = c.requires.enough;
}

pub follow-requires : goal.follow-requires
follow-requires c =
    let plant = c.args.plant.now in
    let old : Crosspoints = c.args.points.now.entries in
    let busy : List Change = busy_of old c.args.entries.now in
    let listed : c.as_slice.result.now ≡ busy = c.as_slice.ensures ∙ c.take.ensures in
    record {
      wired = c.requires.tables.wired;
      tapped = c.commit.ensures.kept.tapped;
      dests =
          subst (λ (list : List Change). All (λ (change : Change). IsDest plant change.dest) list) (sym listed)
          (All-filter (λ change. not (is_idle old change)) (λ (change : Change). IsDest plant change.dest) c.args.entries.now (λ k d below. (c.requires.changes k d below).dest));
      before = record {
        old = old;
        before = c.requires.tables.tallied;
        moved =
            subst (λ (list : List Change). AreMoves old c.commit.new.points.entries list) (sym listed)
            (busy_moves plant old _ c.args.entries.now c.requires.group.distinct c.commit.ensures.made);
      };
    }

pub returns-clause-tables : goal.returns-clause-tables
returns-clause-tables c = record {
  counted = c.commit.ensures.counts;
  wired = c.requires.tables.wired;
  tallied = c.follow.ensures.kept;
  screened = c.requires.tables.screened;
}

pub returns-clause-turned : goal.returns-clause-turned
returns-clause-turned c =
    let plant = c.args.plant.now in
    let old : Crosspoints = c.args.points.now.entries in
    let busy : List Change = busy_of old c.args.entries.now in
    let listed : c.as_slice.result.now ≡ busy = c.as_slice.ensures ∙ c.take.ensures in
    let moved : AreMoves old c.commit.new.points.entries c.as_slice.result.now =
    subst (λ (list : List Change). AreMoves old c.commit.new.points.entries list) (sym listed)
    (busy_moves plant old _ c.args.entries.now c.requires.group.distinct c.commit.ensures.made) in
    subst (λ (list : List Change). HaveTurned plant old c.commit.new.points.entries list c.follow.new.self) c.as_slice.ensures
    (c.follow.ensures.turned old c.requires.tables.tallied moved)
