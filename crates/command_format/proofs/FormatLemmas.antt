-- How a format ends.
use Rattle.std.proofs.Common.{◌≡◌, inl, inr, ℕ, Bool, true, false, List, ◌++◌, codes, refl, sym, ◌∙◌, ap, subst, arith}
use Rattle.std.specs.Prelude.{not, decimal}
use Rattle.std.specs.Bool.{OnTrue, OnFalse}
use Rattle.std.proofs.lemmas.Bool.{false≢true}
use Rattle.ctl_io.specs.Custody.{DiskEnd}
use Rattle.ctl_io.specs.Faults.{Rose, one_more, count_after, is_faulty}
use Rattle.ctl_io.specs.Held.{IsNamed}
use Rattle.ctl_io.specs.Sink.{appended, AppendsPart}
use Rattle.ctl_io.proofs.FaultsLemmas.{rose_counted}
use Rattle.plant_config.specs.Plant.{PlantData}
use Rattle.plant_snapshot.specs.StandsFor.{store_size}
use Rattle.command_rows.specs.Moment.{Snapshot, Output}
use Rattle.command_rows.specs.LentDisk.{LendsDisk, FailsToLend, TakesDiskBack, GivesDisk}
use Rattle.command_rows.specs.End.{ComesTo, done, file_failed}
use Rattle.command_rows.specs.Row.{RowEnds}
use Rattle.command_rows.specs.StopInside.{number_of}
use Rattle.command_rows.specs.declared.status.Status.{Status}
use Rattle.command_rows.specs.declared.status.Status.TheVariants as statuses
use Rattle.command_format.specs.Format.{FormatEnds, HasFailed, IsFormatted, formatted}

-- the disk could not be made
pub unmade : (plant : PlantData) (name : List ℕ) (files made : Snapshot) (before now : Output) (status : ℕ) → FailsToLend name files made → ComesTo (file_failed name) status before now
    → RowEnds (FormatEnds plant name) (record { files = files; output = before }) (record { files = made; output = now }) status
unmade plant name files made before now status fails comes = record {
  end = file_failed name;
  ends = inr (refl, inl fails);
  own = record { not_words = λ h. omega (arith, h); not_plant = λ h. omega (arith, h); faults = subst (Rose files.faults) (sym fails.faults) (rose_counted files.faults) };
  comes = comes;
}

module _ (plant : PlantData) (name : List ℕ) (files with back : Snapshot) (shown : DiskEnd) (before : Output) (lends : LendsDisk name files with) (named : IsNamed name shown.name) (takes : TakesDiskBack shown with back) where
  abbrev Ends : Output → ℕ → Type 0
  Ends now status = RowEnds (FormatEnds plant name) (record { files = files; output = before }) (record { files = back; output = now }) status

  gives : {Shows : DiskEnd → Type 0} → Shows shown → GivesDisk name Shows files back
  gives shows = record { with = with; lends = lends; shown = shown; named = named; shows = shows; takes = takes }

  -- a call of it failed
  pub broke : (now : Output) (status : ℕ) → HasFailed shown → ComesTo (file_failed name) status before now → Ends now status
  broke now status failed comes = record {
    end = file_failed name;
    ends = inr (refl, inr (gives failed));
    own = record {
      not_words = λ h. omega (arith, h);
      not_plant = λ h. omega (arith, h);
      faults = subst (Rose files.faults) (sym (takes.faults ∙ ap (λ (b : Bool). count_after b with.faults) failed ∙ ap one_more lends.faults)) (rose_counted files.faults);
    };
    comes = comes;
  }

  -- it was formatted
  well : (now : Output) (status : ℕ) → IsFormatted plant shown → ComesTo (done (formatted (store_size plant))) status before now → Ends now status
  well now status is comes = record {
    end = done (formatted (store_size plant));
    ends = inl (refl, gives is);
    own = record {
      not_words = λ h. omega (arith, h);
      not_plant = λ h. omega (arith, h);
      faults = takes.faults ∙ ap (λ (n : ℕ). count_after (is_faulty n) with.faults) is.no_faults ∙ lends.faults;
    };
    comes = comes;
  }

  -- and its line written, or a front of it
  pub told : (now : Output) (status : Status) (size : ℕ) (written : Bool) → size ≡ store_size plant → IsFormatted plant shown → OnTrue written (now.written ≡ appended before.written (codes "formatted " ++ decimal size ++ codes "\n"))
      → OnFalse written (AppendsPart (codes "formatted " ++ decimal size ++ codes "\n") before.written now.written) → now.faults ≡ count_after (not written) before.faults → OnTrue written (status ≡ statuses.Done) → OnFalse written (status ≡ statuses.Output)
      → Ends now (number_of status)
  told now status size true same is all front count status_is unwritten =
      well now (number_of status) is (inl (record {
        status_is = ap number_of status_is;
        appends = all ∙ ap (λ (n : ℕ). appended before.written (codes "formatted " ++ decimal n ++ codes "\n")) same;
        faults = count;
      }))
  told now status size false same is all front count status_is unwritten =
      well now (number_of status) is (inr (record {
        status_is = ap number_of unwritten;
        appends = subst (λ (n : ℕ). AppendsPart (codes "formatted " ++ decimal n ++ codes "\n") before.written now.written) same front;
        faults = count;
      }))

-- what is so if an answer is yes, where it is
pub where_done : (done : Bool) (P : Type 0) → done ≡ true → OnTrue done P → P
where_done true P sure is = is
where_done false P sure is = absurd (false≢true sure)
