-- How a run of the row ends.
use Rattle.std.proofs.Common.{◌≡◌, ℕ, List, Some, None, inl, inr, refl, subst, arith}
use Rattle.plant_config.specs.Plant.{PlantData}
use Rattle.standby.specs.Standby.{Data}
use Rattle.command_rows.specs.End.{ended, ComesTo}
use Rattle.command_rows.specs.Moment.{Output}
use Rattle.command_rows.specs.Row.{EndsAlone}
use Rattle.command_rows.proofs.RowLemmas.{ends_weaker}
use Rattle.command_standby.specs.declared.follow.Passed.{Passed}
use Rattle.command_standby.specs.Taking.{IsFirstRefused, none_passed, TakesAll, FirstDiffers}
use Rattle.command_standby.specs.Standby.{new_standby, trace_line_refused, standby_differs_at, StandbyEnds}
use Rattle.command_standby.specs.FollowInside.{Came, Stands}

-- a line is refused
pub refused : (plant : PlantData) (its : List (List ℕ)) (number : ℕ) (before now : Output) (status : ℕ) → IsFirstRefused plant its number → ComesTo (ended 5 (trace_line_refused number)) status before now → EndsAlone (StandbyEnds plant its) before now status
refused plant its number before now status first comes = record {
  end = ended 5 (trace_line_refused number);
  ends = inr (inl (record { number = number; first = first; end_is = refl }));
  not_words = λ h. omega (arith, h);
  not_plant = λ h. omega (arith, h);
  no_fault = refl;
  comes = comes;
}

-- a request differs
pub differs : (plant : PlantData) (its : List (List ℕ)) (first : Data) (position : ℕ) (standby : Data) (passed : Passed) (before now : Output) (status : ℕ) → first ≡ new_standby plant → Came plant its first (Some position) standby passed
    → ComesTo (ended 6 (standby_differs_at position)) status before now → EndsAlone (StandbyEnds plant its) before now status
differs plant its first position standby passed before now status is all comes = record {
  end = ended 6 (standby_differs_at position);
  ends = inr (inr (inl (record { arrivals = all.arrivals; told = all.tell; position = position; first = subst (λ (s : Data). FirstDiffers s all.arrivals position) is all.came; end_is = refl })));
  not_words = λ h. omega (arith, h);
  not_plant = λ h. omega (arith, h);
  no_fault = refl;
  comes = comes;
}

-- all is taken
pub stands : (plant : PlantData) (its : List (List ℕ)) (first standby : Data) (passed : Passed) (before now : Output) (status : ℕ) → first ≡ new_standby plant → Came plant its first None standby passed
    → EndsAlone (Stands standby passed) before now status → EndsAlone (StandbyEnds plant its) before now status
stands plant its first standby passed before now status is all so =
    ends_weaker before now status (λ end ends. elim ends [
      | inl memory ↦ inl memory
      | inr text ↦ inr (inr (inr (record { arrivals = all.arrivals; told = all.tell; standby = standby; passed = passed; taken = subst (λ (s : Data). TakesAll s none_passed all.arrivals standby passed) is all.came; end_is = text })))
    ]) so
