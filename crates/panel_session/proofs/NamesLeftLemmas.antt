-- Which pages of names are left.
use Rattle.std.proofs.Common.{◌≡◌, IfSome, Option, None, Some, refl, sym, ap, subst}
use Rattle.panel_session.specs.MovesInside.{IsReadOrLeft, phase_then}
use Rattle.panel_session.specs.NamesLeftInside.{NamesNone, left_at}
use Rattle.panel_session.specs.declared.sending.name_page.NamePage.{NamePage}
use Rattle.panel_session.specs.declared.session.phase.Phase.{Phase}
use Rattle.panel_session.specs.declared.session.phase.Phase.TheVariants.{Read, Name, Tell, Poll as PollStage, End}

-- Whatever holds of a page that is left holds where none is.
pub none_left : (Holds : NamePage → Type 0) (phase : Phase) → NamesNone phase → IfSome (left_at phase) Holds
none_left Holds Read none = tt
none_left Holds (Name page) none = absurd none
none_left Holds (Tell message) none = tt
none_left Holds PollStage none = tt
none_left Holds End none = tt

-- what is left there
pub left_then : (left : Option NamePage) (phase : Phase) → phase ≡ Read → left_at (phase_then left phase) ≡ left
left_then None phase read = ap left_at read
left_then (Some page) phase read = refl

pub reads_then_left : (left : Option NamePage) (phase : Phase) → phase ≡ Read → IsReadOrLeft (phase_then left phase)
reads_then_left None phase read = subst IsReadOrLeft (sym read) tt
reads_then_left (Some page) phase read = tt
