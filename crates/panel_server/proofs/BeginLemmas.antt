-- The displays before a poll was made, and where none is.
use Rattle.std.proofs.Common.{◌≡◌, ℕ, Bool, false, List, [], filter, refl, sym, ap}
use Rattle.std.proofs.lemmas.List.{append-nil}
use Rattle.std.proofs.lemmas.List.Elements.{All-nil}
use Rattle.ctl_io.specs.Faults.{count_after}
use Rattle.history_lock.specs.History.{entries_of}
use Rattle.plant_config.specs.Plant.{PlantData}
use Rattle.panel_session.specs.Entry.{PlantEntry}
use Rattle.panel_session.specs.Served.{TraceData}
use Rattle.panel_session.proofs.GoneOnLemmas.{appended-none, sees_none}
use Rattle.panel_server.specs.declared.displays.DriverEnd.{DriverEnd}
use Rattle.panel_server.specs.Driven.{Driven, EndsSo, ends_by_trace, is_last, shows_lamps, mark_at_end, whole_traced}
use Rattle.panel_server.specs.DrivenInside.{IsDriving, Outside}
use Rattle.panel_server.proofs.SendLemmas.{polls_none, sends_none}

-- what the trace shows
abbrev pub traced_of : {P : Type 0} → Outside P → TraceData
traced_of now = record { written = now.traced; faults = now.trace_faults }

module _ {P : Type 0} (WasSent : P → List (List ℕ) → Type 0) (faults : P → ℕ) where
  -- No poll was made yet.
  pub driving_begins : (plant : PlantData) (now : Outside P) → IsDriving WasSent faults plant 0 0 0 now now
  driving_begins plant now = record {
    new = [];
    sends = [];
    sees = sees_none plant now.seat;
    mark = refl;
    polls_are = polls_none plant;
    counted = refl;
    none_last = All-nil (λ (entry : PlantEntry). is_last entry ≡ false);
    sent_are = refl;
    sent_count = refl;
    lost_count = refl;
    packets = sends_none WasSent now.port now.port (λ packets was. was);
    port_count = refl;
    traced = sym (appended-none now.traced);
    trace_count = refl;
  }

  -- Nothing was done.
  pub driven_nothing : (plant : PlantData) (end : DriverEnd) (now : Outside P) → whole_traced end [] ≡ [] → mark_at_end end [] now.seat.ticket_full ≡ now.seat.ticket_full → ends_by_trace end ≡ false → EndsSo end plant [] [] []
      → Driven WasSent faults plant end now.seat now.seat now.port now.port (traced_of now) (traced_of now)
  driven_nothing plant end now whole mark good ends = record {
    new = [];
    sends = [];
    lines = [];
    legal = λ some. absurd (some refl);
    seen = sym (append-nil now.seat.seen);
    own = sym (append-nil (entries_of now.seat.number now.seat.seen));
    full = sym mark;
    seat_same = refl;
    polls = polls_none plant;
    sent = ap (filter shows_lamps) (sym whole);
    packets = sends_none WasSent now.port now.port (λ packets was. was);
    port_count = refl;
    traced = sym (appended-none now.traced);
    traces = (([], refl), λ _. refl);
    trace_count = ap (λ (failed : Bool). count_after failed now.trace_faults) (sym good);
    ends = ends;
  }
