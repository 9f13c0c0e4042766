-- What the status of telling a recorded stream tells.
use Rattle.std.proofs.Common.{◌≡◌, ◌⊎◌, inl, inr, ℕ, List, [], ◌∷◌, Result, Ok, refl, sym, ◌∙◌, ap, arith}
use Rattle.ctl_io.specs.Sink.{appended}
use Rattle.record_replay.specs.Monitor.{monitor_text}
use Rattle.command_words.specs.Parts.{NoMore, AllSaid}
use Rattle.command_rows.specs.End.{End, done}
use Rattle.command_rows.specs.Sound.{IsSound, IsSilent}
use Rattle.command_rows.proofs.SoundLemmas.{worked_cause}
use Rattle.command_rows.proofs.AloneLemmas.{IsAloneEnd, memory_end, done_end, alone_sound, alone_with}
use Rattle.command_monitor.specs.Monitor.{parts, MonitorEnds, MonitorRow}
use Rattle.command_monitor.specs.Laws.{ZeroHasTold, StreamEndsWithZero}

own_end : (stream : List ℕ) (end : End) → MonitorEnds stream end → IsAloneEnd (0 ∷ 1 ∷ []) end
own_end stream end (inl memory) = memory_end [] end memory
own_end stream end (inr is) = done_end [] (monitor_text stream) end is

pub sound : IsSound parts NoMore MonitorRow (0 ∷ 1 ∷ [])
sound = alone_sound parts NoMore (λ given. MonitorEnds given.0) (0 ∷ 1 ∷ []) (λ given end ends. own_end given.0 end ends)

pub silent : IsSilent parts NoMore MonitorRow
silent given before now end status ends = (own_end given.0 end ends.0).memory

pub zero : ZeroHasTold
zero said before now runs =
    let so = (worked_cause parts NoMore MonitorRow (0 ∷ 1 ∷ []) sound said before now 0 (inl refl) runs).1 in
    elim so.ends.0 [
      | inl memory ↦ absurd (let one = ap (λ (e : End). e.status) memory in let is = so.written.status_is in omega (arith, one, is))
      | inr is ↦ record {
        stream = so.given.0;
        opened = so.opened;
        lead = so.lead;
        appends = so.written.appends ∙ ap (λ (e : End). appended before.output.written e.text) is;
      }
    ]

always_end : (stream : List ℕ) (end : End) → MonitorEnds stream end → (end.status ≡ 0) ⊎ (end.status ≡ 1)
always_end stream end (inl memory) = inr (ap (λ (e : End). e.status) memory)
always_end stream end (inr is) = inl (ap (λ (e : End). e.status) is)

pub always : StreamEndsWithZero
always said stream before now status shows runs =
    alone_with parts NoMore (λ given. MonitorEnds given.0) said (stream, tt) 0 before now status (λ end ends. always_end stream end ends) shows runs
