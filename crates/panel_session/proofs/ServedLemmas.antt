-- A session that is served, from its first read to its end.
use Rattle.std.proofs.Common.{◌≡◌, ◌≢◌, ℕ, ◌+◌, ◌<◌, ◌≤◌, List, [], ◌∷◌, ◌++◌, length, refl, ◌∙◌, arith}
use Rattle.std.proofs.lemmas.List.{length-append}
use Rattle.ctl_net.specs.Acceptor.{LinkEnd}
use Rattle.plant_config.specs.Plant.{PlantData}
use Rattle.panel_session.specs.declared.serve.SessionEnd.{SessionEnd}
use Rattle.panel_session.specs.declared.serve.SessionEnd.TheVariants.{Ended, ReadFault, WriteFault, TraceFault, IdleOut, Spent, Full}
use Rattle.panel_session.specs.declared.session.Session.{Session}
use Rattle.panel_session.specs.Served.{PlantSeat, TraceData, Served}
use Rattle.panel_session.specs.ServedInside.{EndsAtRead, GavePiece, HasServed, HasTurned, outside}
use Rattle.panel_session.specs.Session.{StandsFor}
use Rattle.panel_session.specs.SoFar.{nothing_yet}
use Rattle.panel_session.proofs.IdleLemmas.{CountsIdle, StaysBelow, below_begins, below_last, below_later, below_over}
use Rattle.panel_session.proofs.TurnedLemmas.{turned_begins, turned_more}
use Rattle.panel_session.proofs.EndedLemmas.{served_uncut}

-- It has worked so many reads, of which so many are idle at the end, fewer than its limit.
pub record IsServed (plant : PlantData) (panel count worked : ℕ) (session_now : Session) (seat seat_now : PlantSeat) (link link_now : LinkEnd) (trace trace_now : TraceData) : Type 0 where
  pub reads : List (List ℕ)
  pub turned : HasTurned plant panel reads session_now seat seat_now link link_now trace trace_now
  pub below : StaysBelow plant.server.idle_limit count reads
  pub counted : length reads ≡ worked

module _ {plant : PlantData} {panel : ℕ} where
  -- It begins.
  pub served_begins : (session : Session) (seat : PlantSeat) (link : LinkEnd) (trace : TraceData) → StandsFor plant panel session nothing_yet → 1 ≤ plant.server.idle_limit → IsServed plant panel 0 0 session seat seat link link trace trace
  served_begins session seat link trace stands some = record {
    reads = [];
    turned = turned_begins session seat link trace stands;
    below = below_begins plant.server.idle_limit some;
    counted = refl;
  }

  -- The next read ends it.
  pub served_reading : {count worked : ℕ} {session : Session} {seat seat_now : PlantSeat} {link link_now link_then : LinkEnd} {trace trace_now : TraceData} (turns : ℕ) (end : SessionEnd)
      → IsServed plant panel count worked session seat seat_now link link_now trace trace_now → worked < turns → EndsAtRead end link_now link_then → Served plant panel turns end session seat seat_now link link_then trace trace_now
  served_reading turns Ended i more ends =
      served_uncut turns Ended i.turned refl ends.1 (omega (arith, i.counted, more)) (omega (arith, i.counted, more), ends.0) (λ front rest at idle. absurd (i.below.never front rest at idle))
  served_reading turns ReadFault i more ends =
      served_uncut turns ReadFault i.turned refl ends (omega (arith, i.counted, more)) (omega (arith, i.counted, more)) (λ front rest at idle. absurd (i.below.never front rest at idle))
  served_reading turns WriteFault i more ends = absurd ends
  served_reading turns TraceFault i more ends = absurd ends
  served_reading turns IdleOut i more ends = absurd ends
  served_reading turns Spent i more ends = absurd ends
  served_reading turns Full i more ends = absurd ends

  -- One read more was worked,
  pub served_more : {count worked : ℕ} {session session_then : Session} {seat seat_now seat_then : PlantSeat} {link link_now link_read link_then : LinkEnd} {trace trace_now trace_then : TraceData} {piece : List ℕ} (later : ℕ)
      (i : IsServed plant panel count worked session seat seat_now link link_now trace trace_now) → GavePiece piece link_now link_read
      → HasServed plant panel i.turned.past piece session_then (outside seat_now link_read.written trace_now.written) (outside seat_then link_then.written trace_then.written)
      → link_then.read_half ≡ link_read.read_half → link_then.write_faults ≡ link_read.write_faults → trace_then.faults ≡ trace_now.faults
      → CountsIdle count (length piece) later → later ≢ plant.server.idle_limit
      → IsServed plant panel later (worked + 1) session_then seat seat_then link link_then trace trace_then
  served_more {count = count} {piece = piece} later i r s half writes traces counts apart = record {
    reads = i.reads ++ piece ∷ [];
    turned = turned_more i.turned r s half writes traces;
    below = below_later plant.server.idle_limit count later i.reads piece i.below counts apart;
    counted = omega (arith, length-append i.reads (piece ∷ []), i.counted);
  }

  -- and was the last that the limit on idle ones allows,
  pub served_idle : {count worked : ℕ} {session session_then : Session} {seat seat_now seat_then : PlantSeat} {link link_now link_read link_then : LinkEnd} {trace trace_now trace_then : TraceData} {piece : List ℕ} (turns later : ℕ)
      (i : IsServed plant panel count worked session seat seat_now link link_now trace trace_now) → GavePiece piece link_now link_read
      → HasServed plant panel i.turned.past piece session_then (outside seat_now link_read.written trace_now.written) (outside seat_then link_then.written trace_then.written)
      → link_then.read_half ≡ link_read.read_half → link_then.write_faults ≡ link_read.write_faults → trace_then.faults ≡ trace_now.faults
      → worked < turns → CountsIdle count (length piece) later → later ≡ plant.server.idle_limit
      → Served plant panel turns IdleOut session_then seat seat_then link link_then trace trace_then
  served_idle {count = count} {piece = piece} turns later i r s half writes traces more counts is =
      served_uncut turns IdleOut (turned_more i.turned r s half writes traces) refl refl (omega (arith, length-append i.reads (piece ∷ []), i.counted, more))
      (below_over plant.server.idle_limit count later i.reads piece i.below counts is)
      (λ front rest at idle. (below_last plant.server.idle_limit count i.reads piece i.below front rest at idle, refl))

  -- or all were worked.
  pub served_spent : {count worked : ℕ} {session : Session} {seat seat_now : PlantSeat} {link link_now : LinkEnd} {trace trace_now : TraceData} (turns : ℕ)
      → IsServed plant panel count worked session seat seat_now link link_now trace trace_now → worked ≡ turns → Served plant panel turns Spent session seat seat_now link link_now trace trace_now
  served_spent turns i all =
      served_uncut turns Spent i.turned refl refl (omega (arith, i.counted, all)) (i.counted ∙ all) (λ front rest at idle. absurd (i.below.never front rest at idle))
