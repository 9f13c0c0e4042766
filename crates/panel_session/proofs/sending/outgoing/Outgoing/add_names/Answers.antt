use Rattle.std.proofs.Common.{◌≡◌, ◌≢◌, None, Some, sym, ◌∙◌, subst}
use Rattle.plant_names.specs.declared.paged.Paged.TheVariants.{Nothing, Last, More}
use Rattle.panel_session.specs.NamePagesInside.{AddsNames, end_of}
use Rattle.panel_session.specs.declared.sending.name_page.NamePage.{NamePage}
use Rattle.panel_session.specs.Text.{Output}
use Rattle.panel_session.proofs.NamePageLemmas.{adds_nothing, adds_last, adds_more}
use Rattle.panel_session.proofs.sending.outgoing.Outgoing.add_names.Goals as goal

pub returns-in-Nothing-clause-adds : goal.returns-in-Nothing-clause-adds
returns-in-Nothing-clause-adds c =
    let At : Output → Type 0 = λ after. AddsNames c.args.names.now c.args.page c.args.self.now.output None after in
    subst At (sym (c.send_names.ensures.none c.in-Nothing.is)) (adds_nothing c.args.names.now c.args.page c.args.self.now.output (sym c.in-Nothing.is ∙ c.send_names.ensures.end))

pub returns-in-Last-clause-adds : goal.returns-in-Last-clause-adds
returns-in-Last-clause-adds c =
    let some : c.send_names.result ≢ Nothing = λ none. let both : Last ≡ Nothing = sym c.in-Last.is ∙ none in cc in
    adds_last c.args.names.now c.args.page c.args.self.now.output c.send_names.new.self.output (sym c.in-Last.is ∙ c.send_names.ensures.end) (c.send_names.ensures.sent some)

pub returns-in-More-clause-adds : goal.returns-in-More-clause-adds
returns-in-More-clause-adds c =
    let is : More c.in-More.first ≡ end_of c.args.names.now c.args.page = sym c.in-More.is ∙ c.send_names.ensures.end in
    let some : c.send_names.result ≢ Nothing = λ none. let both : More c.in-More.first ≡ Nothing = sym c.in-More.is ∙ none in cc in
    let Adds : NamePage → Type 0 = λ next. AddsNames c.args.names.now c.args.page c.args.self.now.output (Some next) c.send_names.new.self.output in
    subst Adds (sym c.at.ensures) (adds_more c.args.names.now c.args.page c.args.self.now.output c.in-More.first c.send_names.new.self.output is c.send_names.ensures.numbers c.requires.size (c.send_names.ensures.sent some))
