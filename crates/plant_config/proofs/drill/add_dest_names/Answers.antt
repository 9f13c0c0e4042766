use Rattle.std.proofs.Common.{◌≡◌, [], ◌∷◌, map, sym, append_assoc, arith}
use Rattle.std.specs.List.{range_with_len}
use Rattle.std.proofs.lemmas.List.{append-nil}
use Rattle.plant_file.specs.Reading.{default_name, destination_letter}
use Rattle.plant_config.specs.DrillPlant.{matrix_dest_names}
use Rattle.plant_config.proofs.DrillParts.{names_more}
use Rattle.plant_config.proofs.drill.add_dest_names.Goals as goal

pub loop-number-init : goal.loop-number-init
loop-number-init c = sym (append-nil c.args.names.now.items)

pub loop-number-preserved : goal.loop-number-preserved
loop-number-preserved c =
    let number = c.loop-number.number in
    rw (c.in_ok-push.ensures.items, c.loop-number.invariant, c.numbered.ensures, names_more number)
    (append_assoc c.args.names.now.items (map (default_name destination_letter) (range_with_len 0 number)) (default_name destination_letter number ∷ []))

pub returns : goal.returns
unfolding matrix_dest_names
returns c = let all : c.loop-number.number ≡ 256 = omega arith in rw (c.loop-number.invariant, all)
