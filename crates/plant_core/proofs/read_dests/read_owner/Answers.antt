use Rattle.std.proofs.Common.{ap, ◌∙◌, sym}
use Rattle.crosspoint_state.specs.Table.{put}
use Rattle.plant_core.proofs.DestsRead.{put_none}
use Rattle.plant_core.proofs.DestsCan.{taken_free}
use Rattle.plant_core.proofs.read_dests.read_owner.Goals as goal

pub returns-in-Some-clause-owner : goal.returns-in-Some-clause-owner
returns-in-Some-clause-owner c =
    c.protect-allowed.ensures.owners
    ∙ taken_free c.args.protects.now.entries c.in-Some.device c.args.dest c.requires.free
    ∙ ap (put c.args.protects.now.entries c.args.dest) (sym c.in-Some.is ∙ c.owner_in.ensures)

pub returns-in-None-clause-owner : goal.returns-in-None-clause-owner
returns-in-None-clause-owner c = put_none c.args.protects.now.entries c.args.dest c.requires.free ∙ ap (put c.args.protects.now.entries c.args.dest) (sym c.in-None.is ∙ c.owner_in.ensures)
