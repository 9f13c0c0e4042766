use Rattle.std.proofs.Common.{◌≡◌, [], ◌∷◌, map, sym, append_assoc, arith}
use Rattle.std.specs.List.{range_with_len}
use Rattle.std.proofs.lemmas.List.{append-nil}
use Rattle.plant_config.specs.DrillPlant.{remote_source, remote_sources}
use Rattle.plant_config.proofs.DrillParts.{remote_more}
use Rattle.plant_config.proofs.drill.add_remote.Goals as goal

pub loop-origin-init : goal.loop-origin-init
loop-origin-init c = sym (append-nil c.args.sources.now.items)

pub loop-origin-preserved : goal.loop-origin-preserved
loop-origin-preserved c =
    let origin = c.loop-origin.origin in
    rw (c.in_ok-push.ensures.items, c.loop-origin.invariant, c.numbered.ensures, c.of.ensures, c.from.ensures, c.of-in-loop-origin.ensures, remote_more origin)
    (append_assoc c.args.sources.now.items (map remote_source (range_with_len 0 origin)) (remote_source origin ∷ []))

pub returns : goal.returns
unfolding remote_sources
returns c = let all : c.loop-origin.origin ≡ 64 = omega arith in rw (c.loop-origin.invariant, all)
