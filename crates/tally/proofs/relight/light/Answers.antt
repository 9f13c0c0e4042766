use Rattle.std.proofs.Common.{◌==◌, ◌||◌, ap, ◌∙◌}
use Rattle.std.specs.FinSet.{contains}
use Rattle.number_tables.proofs.Members.{contains_inserted}
use Rattle.tally.proofs.LightLemmas.{light_fed, light_news}
use Rattle.tally.proofs.relight.light.Goals as goal

pub returns-in_default-clause-one : goal.returns-in_default-clause-one
returns-in_default-clause-one g c = λ other.
    ap (λ set. contains set other) c.put.ensures.live
    ∙ contains_inserted c.args.marks.now.live c.get-dest.result other
    ∙ ap (λ d. (other == d) || contains c.args.marks.now.live other) c.get-dest.ensures

pub returns-clause-one : goal.returns-clause-one
returns-clause-one g c = λ other.
    ap (λ set. contains set other) c.put.ensures.live
    ∙ contains_inserted c.args.marks.now.live c.get-dest.result other
    ∙ ap (λ d. (other == d) || contains c.args.marks.now.live other) c.get-dest.ensures

pub returns-clause-fed : goal.returns-clause-fed
returns-clause-fed g c =
    light_fed c.args.graph.now.plant c.requires.wired.is_plant c.args.marks.now.fed c.put.new.self.fed c.args.waiting.now c.insert.new.self c.get.result c.in-Some.device c.in-Some.ensures.fed c.in-Some.ensures.device c.insert.ensures c.get.ensures

pub returns-clause-news : goal.returns-clause-news
returns-clause-news g c =
    light_news c.args.graph.now.plant c.requires.wired.is_plant c.args.marks.now.fed c.put.new.self.fed c.args.waiting.now c.insert.new.self c.get.result c.in-Some.device c.in-Some.ensures.fed c.in-Some.ensures.device c.insert.ensures c.get.ensures
