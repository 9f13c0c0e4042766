use Rattle.std.proofs.Common.{◌≡◌, sym, subst, ap, ◌∙◌}
use Rattle.std.specs.Option.{option_and_then}
use Rattle.number_tables.specs.Table.{put}
use Rattle.plant_config.specs.Sources.{origin_of}
use Rattle.crosspoint_state.specs.Crosspoints.{Crosspoints}
use Rattle.crosspoint_state.specs.Taps.{origin_at, AreTapsOf}
use Rattle.crosspoint_state.specs.TapsInside.{Moves}
use Rattle.crosspoint_state.proofs.TapsLemmas.{taps_put}
use Rattle.crosspoint_state.proofs.crosspoints.Crosspoints.set.Goals as goal

pub returns-clause-kept : goal.returns-clause-kept
returns-clause-kept c =
    let kept = rw (← c.self.view_is) at c.requires.kept in
    let plant = c.args.plant.now in
    let old = c.self.inside.spots.entries in
    let new = c.move_to.new.taps in
    let entries : c.set.new.self.entries ≡ put old c.args.dest c.args.spot = c.set.ensures.entries ∙ ap (λ dest. put old dest c.args.spot) c.get.ensures in
    let origin : c.origin_of-origin.result ≡ origin_at plant (put old c.args.dest c.args.spot) c.args.dest =
    c.origin_of-origin.ensures.origin ∙ ap (option_and_then (origin_of plant)) c.source_in.ensures ∙ ap (λ (points : Crosspoints). origin_at plant points c.args.dest) entries in
    let moves : Moves c.self.inside.taps new c.args.dest c.origin_of-origin.result = rw c.get-2.ensures at c.move_to.ensures in
    record {
      room = c.set.ensures.room ∙ kept.room;
      tapped =
          subst (λ (points : Crosspoints). AreTapsOf plant points new) (sym entries)
          (taps_put plant old c.self.inside.taps new c.args.dest c.args.spot kept.tapped (subst (Moves c.self.inside.taps new c.args.dest) origin moves));
    }

pub move_to-requires-clause-head : goal.move_to-requires-clause-head
move_to-requires-clause-head c =
    let kept = rw (← c.self.view_is) at c.requires.kept in
    rw kept.tapped.heads c.origin_of-origin.ensures.below
