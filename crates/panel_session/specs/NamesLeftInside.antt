-- The pages of names that a session has yet to spell.
use Rattle.std.specs.Prelude.{Option, None, Some}
use Rattle.plant_config.specs.Plant.{PlantData}
use Rattle.panel_session.specs.NamePagesInside.{frames_left}
use Rattle.panel_session.specs.Text.{Output, with_frames}
use Rattle.panel_session.specs.declared.sending.name_page.NamePage.{NamePage}
use Rattle.panel_session.specs.declared.session.phase.Phase.{Phase}
use Rattle.panel_session.specs.declared.session.phase.Phase.TheVariants.{Read, Name, Tell, Poll, End}

-- the page from which on pages of names are left
abbrev pub left_at : Phase → Option NamePage
left_at Read = None
left_at (Name page) = Some page
left_at (Tell message) = None
left_at Poll = None
left_at End = None

-- No pages of names are left.
abbrev pub NamesNone : Phase → Type 0
NamesNone Read = Unit {0}
NamesNone (Name page) = ⊥
NamesNone (Tell message) = Unit {0}
NamesNone Poll = Unit {0}
NamesNone End = Unit {0}

-- What comes next once all pages are sent: bytes are read.
abbrev pub stage_of : Phase → Phase
stage_of Read = Read
stage_of (Name page) = Read
stage_of (Tell message) = Tell message
stage_of Poll = Poll
stage_of End = End

-- an output with what is left behind it
abbrev pub with_left : PlantData → Phase → Output → Output
with_left plant Read output = output
with_left plant (Name page) output = with_frames (frames_left plant (Some page)) output
with_left plant (Tell message) output = output
with_left plant Poll output = output
with_left plant End output = output
