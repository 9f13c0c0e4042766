use Rattle.std.proofs.Common.{sym, ap, ◌∙◌}
use Rattle.plant_names.specs.Pages.{names_of_sources, names_of_dests, source_page_command, dest_page_command}
use Rattle.panel_session.specs.NamePages.{name_pages}
use Rattle.panel_session.proofs.NamePageLemmas.{pages_all}
use Rattle.panel_session.proofs.sending.name_page.NamePage.asked_by.Goals as goal

pub returns-in-SourceNamesAsk-clause-pages : goal.returns-in-SourceNamesAsk-clause-pages
returns-in-SourceNamesAsk-clause-pages c = λ plant.
    pages_all source_page_command c.in-SourceNamesAsk.matrix c.in-SourceNamesAsk.level c.in-SourceNamesAsk.size (names_of_sources plant c.in-SourceNamesAsk.matrix c.in-SourceNamesAsk.level)
    ∙ sym (ap (name_pages plant) c.in-SourceNamesAsk.is)

pub returns-in-DestNamesAsk-clause-pages : goal.returns-in-DestNamesAsk-clause-pages
returns-in-DestNamesAsk-clause-pages c = λ plant.
    pages_all dest_page_command c.in-DestNamesAsk.matrix 0 c.in-DestNamesAsk.size (names_of_dests plant c.in-DestNamesAsk.matrix) ∙ sym (ap (name_pages plant) c.in-DestNamesAsk.is)
