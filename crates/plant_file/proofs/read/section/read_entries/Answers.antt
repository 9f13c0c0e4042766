use Rattle.std.proofs.Common.{◌≡◌, length, drop, [], ◌∷◌, ◌++◌, ◌+◌, ◌∙◌, Err, sym, arith, rules}
use Rattle.std.proofs.lemmas.List.{length_push}
use Rattle.plant_file.proofs.ReadingInside.{going-Ok, going-fails, going-None, entry_here, answered}
use Rattle.plant_file.proofs.read.section.read_entries.Goals as goal
use Rattle.plant_file.proofs.read.section.read_entries.Goals.{in-Some+in_ok-read+in_ok-push, in_default}

pub returns-in_err-read : goal.returns-in_err-read
returns-in_err-read g c =
    let is : c.from_residual.result ≡ Err c.in_err-read.field-0.0 = search rules in
    let here = entry_here c.args.items.now _ _ c.item-item.is c.loop-item-test.true in
    let counted : c.len.result ≡ length c.loop-item.entries.items = search rules in
    let fails = going-fails (g.T.ReadEntry.said c.args.section) (g.T.ReadEntry.keys c.args.section) c.loop-item.entries.items c.item-item.result (drop (c.loop-item.item-index + 1) c.args.items.now) _ c.in_err-read.field-0.0 (sym c.in-Some.ensures) (rw counted at c.in_err-read.ensures) in
    rw (is, c.loop-item.invariant.going, here) fails

pub loop-item-preserved : goal.loop-item-preserved
loop-item-preserved g c =
    let here = entry_here c.args.items.now _ _ c.item-item.is c.loop-item-test.true in
    let went = rw here at c.loop-item.invariant.going in
    elim c.match-as_table.branch [
      | in-Some+in_ok-read+in_ok-push w ↦
          let counted : w.len.result ≡ length c.loop-item.entries.items = search rules in
          let going = going-Ok (g.T.ReadEntry.said c.args.section) (g.T.ReadEntry.keys c.args.section) c.loop-item.entries.items c.item-item.result (drop (c.loop-item.item-index + 1) c.args.items.now) _ w.in_ok-read.field-0 (sym w.in-Some.ensures) (answered _ _ (rw counted at w.in_ok-read.ensures)) in
          let items : c.match-as_table.entries.items ≡ c.loop-item.entries.items ++ w.in_ok-read.field-0 ∷ [] = rw w.entries-is w.in_ok-push.ensures.items in
          record {
            counted = rw (items, length_push c.loop-item.entries.items w.in_ok-read.field-0) (omega arith);
            going = rw items (went ∙ going);
          }
      | in_default w ↦
          let going = going-None (g.T.ReadEntry.said c.args.section) (g.T.ReadEntry.keys c.args.section) c.loop-item.entries.items c.item-item.result (drop (c.loop-item.item-index + 1) c.args.items.now) (sym w.in_default.ensures) in
          record {
            counted = rw w.entries-is (omega arith);
            going = rw w.entries-is (went ∙ going);
          }
    ]
