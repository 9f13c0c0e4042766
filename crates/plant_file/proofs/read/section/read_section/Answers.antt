use Rattle.std.proofs.Common.{◌≡◌, Err, inl, refl, sym, rules}
use Rattle.toml.specs.View.{table_view}
use Rattle.plant_file.specs.ReadingInside.{counted}
use Rattle.plant_file.proofs.FormAnswer.{section-Ok, section-Err}
use Rattle.plant_file.proofs.read.section.read_section.Goals as goal

pub returns-in_err-items : goal.returns-in_err-items
returns-in_err-items g c =
    let is : c.from_residual.result ≡ Err c.in_err-items.field-0.0 = search rules in
    rw is (inl (sym (section-Err (g.T.ReadEntry.said c.args.section) (counted c.args.least c.args.most (g.T.ReadEntry.keys c.args.section)) c.args.section c.args.least c.args.most (table_view c.args.document.now) _ (g.met.T.ReadEntry.named c.args.section) refl c.in_err-items.ensures.answer)))

pub returns : goal.returns
returns g c =
    rw (section-Ok (g.T.ReadEntry.said c.args.section) (counted c.args.least c.args.most (g.T.ReadEntry.keys c.args.section)) c.args.section c.args.least c.args.most (table_view c.args.document.now) _ (g.met.T.ReadEntry.named c.args.section) refl c.in_ok-items.ensures.answer) c.read_entries.ensures
