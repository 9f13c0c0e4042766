-- What a session sends next.
use Rattle.std.specs.Prelude.{◌≡◌, ◌+◌, ◌<◌, ◌≤◌, List, [], ◌∷◌, length, All}
use Rattle.swp08_messages.specs.Field.{levels, dests, IsSource}
use Rattle.swp08_messages.specs.Dump.{Page, page_dests}
use Rattle.plant_core.specs.declared.answer.Answer.{Answer}
use Rattle.panel_session.specs.Text.{Output, no_page, with_frames, frames_behind}

-- an output from here on, with nothing to be sent yet
abbrev pub emptied : Output → Output
emptied output = record output { bytes = [] }

-- What a page tells so far is in its ranges, and a page that tells nothing is of no place.
pub record IsFilling (page : Page) : Type 0 where
  pub matrix : page.matrix < levels
  pub level : page.level < levels
  pub most : length page.sources ≤ page_dests
  pub within : page.first + length page.sources ≤ dests
  pub sources : All IsSource page.sources
  pub none : page.sources ≡ [] → page ≡ no_page

-- An answer was added to a page and an output: whatever comes behind it, the same is sent in the end.
abbrev pub Adds : Answer → Page → Output → Page → Output → Type 0
Adds answer page output page_then output_then =
    (others : List Answer)
    → with_frames (frames_behind page_then others) output_then
    ≡ with_frames (frames_behind page (answer ∷ others)) output
