-- What the status of a check tells.
use Rattle.std.proofs.Common.{◌≡◌, ◌⊎◌, inl, inr, ℕ, List, [], ◌∷◌, Result, Ok, refl, sym, ◌∙◌, ap, arith}
use Rattle.plant_config.specs.Plant.{PlantData}
use Rattle.ctl_io.specs.Sink.{appended}
use Rattle.command_words.specs.Parts.{NoMore, AllSaid}
use Rattle.command_rows.specs.End.{End, done}
use Rattle.command_rows.specs.Sound.{IsSound, IsSilent}
use Rattle.command_rows.proofs.SoundLemmas.{worked_cause}
use Rattle.command_rows.proofs.AloneLemmas.{IsAloneEnd, memory_end, done_end, alone_sound, alone_with}
use Rattle.command_check.specs.Check.{parts, check_text, CheckEnds, CheckRow}
use Rattle.command_check.specs.Laws.{ZeroHasChecked, PlantEndsWithZero}

own_end : (plant : PlantData) (end : End) → CheckEnds plant end → IsAloneEnd (0 ∷ 1 ∷ []) end
own_end plant end (inl memory) = memory_end [] end memory
own_end plant end (inr is) = done_end [] (check_text plant) end is

pub sound : IsSound parts NoMore CheckRow (0 ∷ 1 ∷ [])
sound = alone_sound parts NoMore (λ given. CheckEnds given.0) (0 ∷ 1 ∷ []) (λ given end ends. own_end given.0 end ends)

pub silent : IsSilent parts NoMore CheckRow
silent given before now end status ends = (own_end given.0 end ends.0).memory

pub zero : ZeroHasChecked
zero said before now runs =
    let so = (worked_cause parts NoMore CheckRow (0 ∷ 1 ∷ []) sound said before now 0 (inl refl) runs).1 in
    elim so.ends.0 [
      | inl memory ↦ absurd (let one = ap (λ (e : End). e.status) memory in let is = so.written.status_is in omega (arith, one, is))
      | inr is ↦ record {
        plant = so.given.0;
        opened = so.opened;
        lead = so.lead;
        appends = so.written.appends ∙ ap (λ (e : End). appended before.output.written e.text) is;
      }
    ]

always_end : (plant : PlantData) (end : End) → CheckEnds plant end → (end.status ≡ 0) ⊎ (end.status ≡ 1)
always_end plant end (inl memory) = inr (ap (λ (e : End). e.status) memory)
always_end plant end (inr is) = inl (ap (λ (e : End). e.status) is)

pub always : PlantEndsWithZero
always said plant before now status shows runs =
    alone_with parts NoMore (λ given. CheckEnds given.0) said (plant, tt) 0 before now status (λ end ends. always_end plant end ends) shows runs
