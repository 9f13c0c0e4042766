-- How a page that is being filled is kept.
use Rattle.swp08_messages.specs.Dump.{Page}
use Rattle.panel_session.specs.declared.sending.dump_page.DumpPage.TheInside.{Inside}

abbrev pub kept_page : Inside → Page
kept_page page =
    record {
      matrix = page.matrix;
      level = page.level;
      first = page.first;
      sources = page.sources.items;
    }
