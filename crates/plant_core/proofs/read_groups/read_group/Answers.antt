use Rattle.std.proofs.Common.{◌≡◌, ℕ, ◌<◌, ◌+◌, List, refl, ap, sym, subst, ◌∙◌, arith}
use Rattle.salvo_groups.specs.Groups.{Group, group_of, with_store, AreGroups}
use Rattle.salvo_groups.specs.Laws.{SameGroupsBut}
use Rattle.plant_core.specs.StateFault.{count_in}
use Rattle.plant_core.specs.ReadParts.{change_in, changes_in}
use Rattle.plant_core.proofs.HoldLemmas.{count_held}
use Rattle.plant_core.proofs.GroupPartLemmas.{changes_none, store_more, others_stored, are_stored}
use Rattle.plant_core.proofs.read_groups.read_group.Goals as goal

pub change_in-requires-clause-index : goal.change_in-requires-clause-index
change_in-requires-clause-index c = omega (arith, count_held c.args.plant.now c.args.bytes.now c.args.group c.requires.group c.requires.whole)

pub loop-index-init : goal.loop-index-init
loop-index-init c = record {
  changes = c.requires.empty ∙ sym (changes_none c.args.plant.now c.args.bytes.now c.args.group);
  others = λ number other. refl;
  groups = c.requires.groups;
}

pub loop-index-preserved : goal.loop-index-preserved
loop-index-preserved c =
    let plant = c.args.plant.now in
    let bytes = c.args.bytes.now in
    let groups : List Group = c.loop-index.groups in
    let index : ℕ = c.loop-index.index in
    let group : ℕ = c.args.group in
    let inside : index < count_in plant bytes group = omega arith in
    let stored : with_store groups group (change_in plant bytes group index) ≡ c.store.new.self = sym (c.store.ensures.groups ∙ ap (with_store groups group) c.change_in.ensures) in
    record {
      changes = subst (λ (new : List Group). group_of new group ≡ changes_in plant bytes group (index + 1)) stored (store_more plant bytes groups group index c.requires.whole c.loop-index.invariant.groups c.requires.group inside c.loop-index.invariant.changes);
      others = subst (λ (new : List Group). SameGroupsBut c.args.groups.now new group) stored (others_stored c.args.groups.now groups group (change_in plant bytes group index) c.loop-index.invariant.others);
      groups = subst AreGroups stored (are_stored groups group (change_in plant bytes group index) c.loop-index.invariant.groups);
    }

pub returns-clause-changes : goal.returns-clause-changes
returns-clause-changes c =
    let all : c.loop-index.index ≡ count_in c.args.plant.now c.args.bytes.now c.args.group = omega arith in
    c.loop-index.invariant.changes ∙ ap (changes_in c.args.plant.now c.args.bytes.now c.args.group) all
