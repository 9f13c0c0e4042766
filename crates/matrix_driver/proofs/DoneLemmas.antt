-- What is wanted, and where it is settled, over a whole run.
use Rattle.std.proofs.Common.{◌≡◌, ℕ, nat_eq, Bool, true, false, not, cond, List, [], ◌∷◌, Option, Some, None, refl, sym, ap, ◌∙◌}
use Rattle.std.specs.Ordering.{nat_cmp}
use Rattle.std.specs.Option.{option_or, option_eq}
use Rattle.std.specs.FinMap as finite
use Rattle.number_tables.specs.Table.{Entries}
use Rattle.matrix_driver.specs.declared.level.Level.{Level}
use Rattle.matrix_driver.specs.Progress.{crosspoint_of}
use Rattle.matrix_driver.specs.World.{World, Step, Wanted, Refused, Overdue, LostForth, LostBack, Taken, Told, new_world, Leads, Runs}
use Rattle.matrix_driver.specs.Rounds.{IsKept}
use Rattle.matrix_driver.specs.Laws.{wanted_by, wanted_last, DoneWhereQuiet}
use Rattle.matrix_driver.proofs.Sources.{same_source}
use Rattle.matrix_driver.proofs.ProgressLemmas.{due_of}
use Rattle.matrix_driver.proofs.DriverLemmas.{get-wanted, hears_wants}
use Rattle.matrix_driver.proofs.RunLemmas.{IsKept-start, IsKept-runs}

-- what is wanted after a step
wanted_leads : (old new : World) (step : Step) (dest : ℕ) → Leads old step new → finite.get new.driver.progress.wants dest ≡ option_or (wanted_by step dest) (finite.get old.driver.progress.wants dest)
wanted_leads old new (Wanted at source) dest h =
    ap (λ (world : World). finite.get world.driver.progress.wants dest) h.is
    ∙ get-wanted old.driver (crosspoint_of at source) dest
    ∙ by (nat_eq dest at)
  where
    by : (b : Bool) → cond b (Some source) (finite.get old.driver.progress.wants dest) ≡ option_or (cond b (Some source) None) (finite.get old.driver.progress.wants dest)
    by true = refl
    by false = refl
wanted_leads old new Refused dest h = ap (λ (world : World). finite.get world.driver.progress.wants dest) h.is
wanted_leads old new Overdue dest h = ap (λ (world : World). finite.get world.driver.progress.wants dest) h.is
wanted_leads old new LostForth dest h = ap (λ (world : World). finite.get world.driver.progress.wants dest) h.others
wanted_leads old new LostBack dest h = ap (λ (world : World). finite.get world.driver.progress.wants dest) h.others
wanted_leads old new Taken dest h = ap (λ (world : World). finite.get world.driver.progress.wants dest) h.is
wanted_leads old new Told dest h =
    ap (λ (world : World). finite.get world.driver.progress.wants dest) h.is
    ∙ ap (λ (wants : Entries (Option ℕ)). finite.get wants dest) (hears_wants old.driver old.driver.outstanding h.first)

or_assoc : (a b c : Option (Option ℕ)) → option_or a (option_or b c) ≡ option_or (option_or a b) c
or_assoc None b c = refl
or_assoc (Some a) b c = refl

-- what is wanted after a run
wanted_runs : (old : World) (steps : List Step) (new : World) (dest : ℕ) → Runs old steps new → finite.get new.driver.progress.wants dest ≡ option_or (wanted_last steps dest) (finite.get old.driver.progress.wants dest)
wanted_runs old [] new dest h = ap (λ (world : World). finite.get world.driver.progress.wants dest) (sym h)
wanted_runs old (step ∷ steps) new dest h =
    wanted_runs h.0 steps new dest h.2
    ∙ ap (option_or (wanted_last steps dest)) (wanted_leads old h.0 step dest h.1)
    ∙ or_assoc (wanted_last steps dest) (wanted_by step dest) (finite.get old.driver.progress.wants dest)

-- a wanted destination that isn't due is settled at what is wanted
settled_where : (settled : Option (Option ℕ)) (source : Option ℕ) → due_of (Some source) settled ≡ false → settled ≡ Some source
settled_where None source e = cc
settled_where (Some at) source e = by (option_eq nat_eq at source) refl e
  where
    by : (b : Bool) → option_eq nat_eq at source ≡ b → not b ≡ false → Some at ≡ Some source
    by true same f = ap Some (same_source at source same)
    by false apart f = cc

or_none : (a : Option (Option ℕ)) → option_or a None ≡ a
or_none None = refl
or_none (Some a) = refl

pub done_where_quiet : (level : Level) → DoneWhereQuiet level
done_where_quiet level is carried steps world runs quiet dest source wanted =
    record { settled = settled; had = kept.had dest source settled }
  where
    kept : IsKept world
    kept = IsKept-runs (new_world level carried) steps world (IsKept-start level carried is) runs

    wants : finite.get world.driver.progress.wants dest ≡ Some source
    wants =
        wanted_runs (new_world level carried) steps world dest runs
        ∙ ap (option_or (wanted_last steps dest)) (finite.get-empty nat_cmp dest)
        ∙ or_none (wanted_last steps dest) ∙ wanted

    settled : finite.get world.driver.progress.settled dest ≡ Some source
    settled =
        settled_where (finite.get world.driver.progress.settled dest) source
        (sym (ap (λ wanted. due_of wanted (finite.get world.driver.progress.settled dest)) wants) ∙ kept.is_driver.done quiet dest)
