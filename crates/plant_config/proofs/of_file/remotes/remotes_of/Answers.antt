use Rattle.std.proofs.Common.{get_or, ap, sym, ◌∙◌}
use Rattle.plant_file.specs.declared.entries.RemoteEntry.{RemoteEntry}
use Rattle.plant_config.specs.OfFileInside.{added, place_of}
use Rattle.plant_config.proofs.OfFileLemmas.{remote_among-more}
use Rattle.plant_config.proofs.of_file.remotes.remotes_of.Goals as goal

pub loop-remote-preserved : goal.loop-remote-preserved
loop-remote-preserved c = λ at.
    let none : RemoteEntry = record { matrix = 0; level = 0; source = 0; from = 0; from_source = 0 } in
    let remote = get_or c.args.remotes.now c.loop-remote.remote-index none in
    c.in_ok-add_remote.ensures at ∙ ap (λ before. added before (place_of remote) remote at) (c.loop-remote.invariant at)
    ∙ sym (remote_among-more c.args.remotes.now c.loop-remote.remote-index none at c.loop-remote-test.true)
