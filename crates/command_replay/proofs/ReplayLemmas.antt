-- How a replay ends.
use Rattle.std.proofs.Common.{◌≡◌, ℕ, inl, inr, List, Result, Err, refl, subst, arith}
use Rattle.ctl_io.specs.Faults.{count_after}
use Rattle.plant_config.specs.Plant.{PlantData}
use Rattle.record_replay.specs.declared.replay.ReplayFault.{ReplayFault}
use Rattle.record_replay.specs.declared.replay.ReplayFault.TheVariants as faults
use Rattle.record_replay.specs.Replay.{output_failed}
use Rattle.record_replay.specs.Script.{IsFirstBad}
use Rattle.record_replay.specs.TiedReplay.{HasReplayed, HasReplayedFront}
use Rattle.command_rows.specs.Lines.{line_refused}
use Rattle.command_rows.specs.End.{ComesTo, ended}
use Rattle.command_rows.specs.Moment.{Output}
use Rattle.command_rows.specs.Row.{EndsAlone}
use Rattle.command_rows.proofs.RowLemmas.{whole, cut, later}
use Rattle.command_replay.specs.Replay.{ReplayEnds}

-- the script was replayed
pub replayed : (plant : PlantData) (script : List ℕ) (before now : Output) → HasReplayed plant script before.written now.written → now.faults ≡ before.faults → EndsAlone (ReplayEnds plant script) before now 0
replayed plant script before now so faults = whole (ReplayEnds plant script) so.output before now (inr (inl (so.output, refl, so.replay))) so.appends faults

-- a line was refused
pub refused : {A : Type 0} (plant : PlantData) (script : List ℕ) (replay : Result A ReplayFault) (before mid now : Output) (status : ℕ) → mid.faults ≡ count_after (output_failed replay) before.faults
    → (number : ℕ) → replay ≡ Err (faults.BadLine number) → ((n : ℕ) → replay ≡ Err (faults.BadLine n) → IsFirstBad plant script n) → ((n : ℕ) → replay ≡ Err (faults.BadLine n) → mid.written ≡ before.written)
    → ComesTo (ended 5 (line_refused number)) status mid now → EndsAlone (ReplayEnds plant script) before now status
refused {A} plant script replay before mid now status count number is bad same comes = record {
  end = ended 5 (line_refused number);
  ends = inr (inr (number, refl, bad number is));
  not_words = λ h. omega (arith, h);
  not_plant = λ h. omega (arith, h);
  no_fault = refl;
  comes = later (ended 5 (line_refused number)) status before mid now (same number is) (subst (λ (r : Result A ReplayFault). mid.faults ≡ count_after (output_failed r) before.faults) is count) comes;
}

-- a write failed behind a front of the output
pub replayed_front : {A : Type 0} (plant : PlantData) (script : List ℕ) (replay : Result A ReplayFault) (before now : Output) → now.faults ≡ count_after (output_failed replay) before.faults
    → replay ≡ Err faults.OutputFault → (replay ≡ Err faults.OutputFault → HasReplayedFront plant script before.written now.written) → EndsAlone (ReplayEnds plant script) before now 7
replayed_front {A} plant script replay before now count is front =
    let so = front is in
    cut (ReplayEnds plant script) so.output before now (inr (inl (so.output, refl, so.replay))) so.appends (subst (λ (r : Result A ReplayFault). now.faults ≡ count_after (output_failed r) before.faults) is count)
