-- A turn that is on its way, from its begin, and on from where it came to.
use Rattle.std.proofs.Common.{◌≡◌, ℕ, Bool, List, [], ◌++◌, refl, sym, subst}
use Rattle.std.proofs.lemmas.List.{append_assoc, append-nil}
use Rattle.plant_config.specs.Plant.{PlantData}
use Rattle.panel_session.specs.declared.session.Session.{Session}
use Rattle.panel_session.specs.declared.session.phase.Phase.TheVariants.{Read}
use Rattle.panel_session.specs.Engine.{MayTurn}
use Rattle.panel_session.specs.EngineInside.{GoesTo, IsOnItsWay, IsUnderWay}
use Rattle.panel_session.specs.Entry.{PlantEntry}
use Rattle.panel_session.specs.SoFar.{Progress}
use Rattle.panel_session.proofs.RunLemmas.{way_begins}
use Rattle.panel_session.proofs.SentLemmas.{reads_unread}

-- no bytes more are sent
pub more_none : {Answerer : Type 0} {Answers : Answerer → List PlantEntry → Answerer → Type 0} {sf : Bool} {plant : PlantData} {panel seat : ℕ} {past : Progress} {piece : List ℕ} {first answerer : Answerer} {session : Session} {rest : List ℕ} {now : Progress} {more : List ℕ}
    → IsUnderWay Answers sf plant panel seat past piece first answerer session rest now more → IsUnderWay Answers sf plant panel seat past piece first answerer session rest now (more ++ [])
more_none {Answers = Answers} {sf = sf} {plant = plant} {panel = panel} {seat = seat} {past = past} {piece = piece} {first = first} {answerer = answerer} {session = session} {rest = rest} {now = now} {more = more} way =
    let More : List ℕ → Type 0 = λ more. IsUnderWay Answers sf plant panel seat past piece first answerer session rest now more in
    subst More (sym (append-nil more)) way

-- A turn that has come so far is on its way there.
abbrev pub further : {Answerer Outlet : Type 0} {IsSeat : Answerer → ℕ → Type 0} {Serves : PlantData → Answerer → Type 0} {Answers : Answerer → List PlantEntry → Answerer → Type 0} {sf : Bool} {Given : Outlet → List ℕ → Outlet → Type 0}
    {session session_then : Session} {answerer answerer_then : Answerer} {rest rest_then : List ℕ} {out out_then : Outlet}
    (on : IsOnItsWay IsSeat Serves Answers sf session answerer rest)
    → GoesTo Answers sf Given on.plant on.panel on.seat on.past on.piece on.more on.first answerer_then session_then rest_then out out_then
    → IsOnItsWay IsSeat Serves Answers sf session_then answerer_then rest_then
further on come = record {
  plant = on.plant;
  panel = on.panel;
  seat = on.seat;
  begun = on.begun;
  past = on.past;
  piece = on.piece;
  first = on.first;
  now = come.now;
  more = on.more ++ come.added;
  may = on.may;
  way = come.way;
}

-- It comes on, and then on again.
pub goes_both : {Answerer Outlet : Type 0} {Answers : Answerer → List PlantEntry → Answerer → Type 0} {sf : Bool} {Given : Outlet → List ℕ → Outlet → Type 0}
    {plant : PlantData} {panel seat : ℕ} {past : Progress} {piece : List ℕ} {first answerer answerer_then : Answerer} {session session_then : Session} {rest rest_then : List ℕ} {out between out_then : Outlet}
    (before : List ℕ) → ((one next last : Outlet) (bytes more : List ℕ) → Given one bytes next → Given next more last → Given one (bytes ++ more) last)
    → (come : GoesTo Answers sf Given plant panel seat past piece before first answerer session rest out between)
    → GoesTo Answers sf Given plant panel seat past piece (before ++ come.added) first answerer_then session_then rest_then between out_then
    → GoesTo Answers sf Given plant panel seat past piece before first answerer_then session_then rest_then out out_then
goes_both {Answers = Answers} {sf = sf} {plant = plant} {panel = panel} {seat = seat} {past = past} {piece = piece} {first = first} {answerer_then = answerer_then} {session_then = session_then} {rest_then = rest_then} {out = out} {between = between} {out_then = out_then} before more come on =
    let More : List ℕ → Type 0 = λ more. IsUnderWay Answers sf plant panel seat past piece first answerer_then session_then rest_then on.now more in
    record {
      now = on.now;
      added = come.added ++ on.added;
      gave = more out between out_then come.added on.added come.gave on.gave;
      way = subst More (append_assoc before come.added on.added) on.way;
    }

-- A turn is on its way where it begins.
abbrev pub on_its_way : {Answerer : Type 0} {Answers : Answerer → List PlantEntry → Answerer → Type 0} {sf : Bool} {plant : PlantData} {panel seat : ℕ} {past : Progress} {piece : List ℕ} {first : Answerer}
    {IsSeat : Answerer → ℕ → Type 0} {Serves : PlantData → Answerer → Type 0} {session : Session}
    → ((answerer : Answerer) → Answers answerer [] answerer) → MayTurn IsSeat Serves plant panel seat session past first piece → IsOnItsWay IsSeat Serves Answers sf session first piece
on_its_way {plant = plant} {panel = panel} {seat = seat} {past = past} {piece = piece} {first = first} {session = session} none may = record {
  plant = plant;
  panel = panel;
  seat = seat;
  begun = session;
  past = past;
  piece = piece;
  first = first;
  now = past;
  more = [];
  may = may;
  way = way_begins none may;
}

-- A session reads at the beginning of a turn.
pub begins_reading : {Answerer : Type 0} {IsSeat : Answerer → ℕ → Type 0} {Serves : PlantData → Answerer → Type 0} {plant : PlantData} {panel seat : ℕ} {past : Progress} {piece : List ℕ} {first : Answerer} {begun : Session}
    → MayTurn IsSeat Serves plant panel seat begun past first piece → begun.phase ≡ Read
begins_reading {plant = plant} {panel = panel} {past = past} {begun = begun} may = reads_unread plant panel begun past begun.phase refl may.stands may.begins
