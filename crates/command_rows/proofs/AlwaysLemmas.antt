-- What always comes of a row, where the files show it.
use Rattle.std.proofs.Common.{◌≡◌, ◌⊎◌, inl, inr, ℕ, Bool, true, false, List, [], ◌∷◌, Result, Ok, Err, refl, ◌∙◌, ap, subst}
use Rattle.std.specs.Prelude.{MatchBool}
use Rattle.ctl_io.specs.Faults.{count_after}
use Rattle.ctl_io.specs.Held.{Held, Unshown, NoFile, Holds, MayBeHere}
use Rattle.ctl_io.specs.WholeFile.{reading_failed}
use Rattle.plant_file.specs.declared.fault.PlantFault.{PlantFault}
use Rattle.plant_config.specs.Plant.{PlantData}
use Rattle.plant_config.specs.Bench.{bench}
use Rattle.plant_config.specs.PlantOfText.{plant_of_text}
use Rattle.command_words.specs.Parts.{Part, Plant, Whole, Made, Store, Later, Number, Last, Said, AllSaid}
use Rattle.command_rows.specs.Moment.{Snapshot, Moment}
use Rattle.command_rows.specs.End.{End, Stopped, NoMemory, FileMissing, FileFault, PlantRefused, PlantTooLong, TooLong, stopped_end, IsWritten, ComesTo}
use Rattle.command_rows.specs.ReadsFile.{stop_reading}
use Rattle.command_rows.specs.OpensPlant.{IsBench, OpensFile, is_bench}
use Rattle.command_rows.specs.Opener.{AllGiven, Leads, AllLead}
use Rattle.command_rows.specs.Row.{Promise, RowEnds}
use Rattle.command_rows.specs.Shown.{TextShows, FileShows, WholeShows, Shows}
use Rattle.command_rows.specs.ShownLaws.{Keeps}
use Rattle.command_rows.specs.RowLaws.{WasKept, StopsAreTold, GivenIsWorked, MissingFirstEndsWithThree}
use Rattle.command_rows.proofs.OpenerLemmas.{counts}
use Rattle.command_rows.proofs.ShownLemmas.{follows_shown, part_follows}
use Rattle.command_rows.proofs.RowLawsLemmas.{written_or}

-- what always comes

-- a stop that keeps a run from its end
kept_so : (stopped : Stopped) (before now : Moment) (status : ℕ) → Keeps stopped → now.files.faults ≡ count_after (reading_failed (stop_reading stopped)) before.files.faults
    → ComesTo (stopped_end stopped) status before.output now.output → WasKept before now status
kept_so stopped before now status kept faults (inr cut) = inr (inr (cut.status_is, cut.faults))
kept_so NoMemory before now status kept faults (inl written) = inl written.status_is
kept_so (FileFault name) before now status kept faults (inl written) = inr (inl (written.status_is, faults))
kept_so (FileMissing name) before now status kept faults (inl written) = absurd kept
kept_so (PlantRefused why) before now status kept faults (inl written) = absurd kept
kept_so PlantTooLong before now status kept faults (inl written) = absurd kept
kept_so (TooLong word) before now status kept faults (inl written) = absurd kept

comes_or_kept : (end : End) (before now : Moment) (status : ℕ) → ComesTo end status before.output now.output → IsWritten end status before.output now.output ⊎ WasKept before now status
comes_or_kept end before now status (inl written) = inl written
comes_or_kept end before now status (inr cut) = inr (inr (inr (cut.status_is, cut.faults)))

pub told : (parts : List Part) (last : Last) (Ends : Promise parts last) → StopsAreTold parts last Ends
told parts last Ends said stopped before now status shows (inl stop) = elim (follows_shown parts last said before.files now.files (Err stop.stopped) (Err stopped) stop.lead shows) [
  | inl same ↦
      let its : stop.stopped ≡ stopped = cc in
      comes_or_kept (stopped_end stopped) before now status (subst (λ (s : Stopped). ComesTo (stopped_end s) status before.output now.output) its stop.comes)
  | inr kept ↦ inr (kept_so stop.stopped before now status kept (counts parts last said before.files now.files (Err stop.stopped) stop.lead) stop.comes)
]
told parts last Ends said stopped before now status shows (inr done) = elim (follows_shown parts last said before.files done.opened (Ok done.given) (Err stopped) done.lead shows) [
  | inl same ↦ absurd (cc)
  | inr kept ↦ absurd kept
]

pub worked : (parts : List Part) (last : Last) (Ends : Promise parts last) → GivenIsWorked parts last Ends
worked parts last Ends said given before now status shows (inl stop) = elim (follows_shown parts last said before.files now.files (Err stop.stopped) (Ok given) stop.lead shows) [
  | inl same ↦ absurd (cc)
  | inr kept ↦ inr (kept_so stop.stopped before now status kept (counts parts last said before.files now.files (Err stop.stopped) stop.lead) stop.comes)
]
worked parts last Ends said given before now status shows (inr done) = elim (follows_shown parts last said before.files done.opened (Ok done.given) (Ok given) done.lead shows) [
  | inl same ↦
      let its : done.given ≡ given = cc in
      inl (record {
        opened = done.opened;
        lead = subst (λ (g : AllGiven parts last). AllLead parts last said before.files done.opened (Ok g)) its done.lead;
        ends = subst (λ (g : AllGiven parts last). RowEnds (Ends g) (record before { files = done.opened }) now status) its done.ends;
      })
  | inr kept ↦ absurd kept
]

-- a file that is shown to be missing gives no memory to run out for
file_unheld : (word : List ℕ) (held : Held) (name : List ℕ) → FileShows word held (Err (FileMissing name)) → MayBeHere held → ⊥
file_unheld word Unshown name shows here = shows
file_unheld word NoFile name shows here = here
file_unheld word (Holds text) name (inl long) here = cc
file_unheld word (Holds text) name (inr short) here = text_shows (plant_of_text text) short.1 where
  text_shows : (answer : Result PlantData PlantFault) → TextShows answer (Err (FileMissing name)) → ⊥
  text_shows (Ok plant) shows = cc
  text_shows (Err fault) shows = cc

whole_unheld : (word : List ℕ) (most : ℕ) (of : List ℕ) (held : Held) (name : List ℕ) → WholeShows word most of held (Err (FileMissing name)) → MayBeHere held → ⊥
whole_unheld word most of Unshown name shows here = shows
whole_unheld word most of NoFile name shows here = here
whole_unheld word most of (Holds text) name (inl long) here = cc
whole_unheld word most of (Holds text) name (inr short) here = cc

plant_unheld : (b : Bool) (word : List ℕ) (name : List ℕ) (before now : Snapshot) → MatchBool b (IsBench (Err NoMemory) × (now ≡ before)) (OpensFile word before now (Err NoMemory))
    → MatchBool b (Err (FileMissing name) ≡ Ok bench) (FileShows word (before.held word 0) (Err (FileMissing name))) → ⊥
plant_unheld true word name before now leads shows = cc
plant_unheld false word name before now leads shows = file_unheld word (before.held word 0) name shows leads.finds

part_unheld : (part : Part) (said : Said part) (name : List ℕ) (before now : Snapshot) → Leads part said before now (Err NoMemory) → Shows part said before.held (Err (FileMissing name)) → ⊥
part_unheld Plant said name before now leads shows = plant_unheld (is_bench said) said name before now leads shows
part_unheld (Whole kind) said name before now leads shows = whole_unheld kind.word kind.longest said (before.held said 0) name shows leads.finds
part_unheld Made said name before now leads shows = leads
part_unheld Store said name before now leads shows = leads
part_unheld (Later kind) said name before now leads shows = leads
part_unheld (Number low most) said name before now leads shows = leads

-- so opening isn't stopped there for want of memory
not_memory : (part : Part) (parts : List Part) (last : Last) (said : AllSaid (part ∷ parts) last) (name : List ℕ) (before now : Snapshot) → Shows part said.0 before.held (Err (FileMissing name))
    → AllLead (part ∷ parts) last said before now (Err NoMemory) → ⊥
not_memory part parts last said name before now shows (inl lead) = part_unheld part said.0 name before now lead shows
not_memory part parts last said name before now shows (inr (one, goes)) = elim (part_follows part said.0 before goes.between (Ok one) (Err (FileMissing name)) goes.leads shows) [
  | inl same ↦ cc
  | inr kept ↦ kept
]

-- opening that is stopped there is stopped by that, or kept from it
missing_or : (part : Part) (parts : List Part) (last : Last) (said : AllSaid (part ∷ parts) last) (name : List ℕ) (stopped : Stopped) (before now : Snapshot) → Shows part said.0 before.held (Err (FileMissing name))
    → AllLead (part ∷ parts) last said before now (Err stopped) → (stopped ≡ FileMissing name) ⊎ Keeps stopped
missing_or part parts last said name stopped before now shows lead = elim (follows_shown (part ∷ parts) last said before now (Err stopped) (Err (FileMissing name)) lead (inl shows)) [
  | inl same ↦ inl (cc)
  | inr kept ↦ inr kept
]

-- a run that is stopped there ends with 3
ends_at : (part : Part) (parts : List Part) (last : Last) (said : AllSaid (part ∷ parts) last) (name : List ℕ) (stopped : Stopped) (before now : Snapshot) → Shows part said.0 before.held (Err (FileMissing name))
    → AllLead (part ∷ parts) last said before now (Err stopped) → (stopped ≡ FileMissing name) ⊎ Keeps stopped → (stopped_end stopped).status ≡ 3
ends_at part parts last said name stopped before now shows lead (inl same) = ap (λ (s : Stopped). (stopped_end s).status) same
ends_at part parts last said name NoMemory before now shows lead (inr kept) = absurd (not_memory part parts last said name before now shows lead)
ends_at part parts last said name (FileFault failed) before now shows lead (inr kept) = refl
ends_at part parts last said name (FileMissing missing) before now shows lead (inr kept) = absurd kept
ends_at part parts last said name (PlantRefused why) before now shows lead (inr kept) = absurd kept
ends_at part parts last said name PlantTooLong before now shows lead (inr kept) = absurd kept
ends_at part parts last said name (TooLong word) before now shows lead (inr kept) = absurd kept

pub missing_first : (parts : List Part) (last : Last) (Ends : Promise parts last) → MissingFirstEndsWithThree parts last Ends
missing_first [] last Ends said name before now status misses runs = absurd misses
missing_first (part ∷ parts) last Ends said name before now status misses (inl stop) =
    let its = missing_or part parts last said name stop.stopped before.files now.files misses stop.lead in
    let three = ends_at part parts last said name stop.stopped before.files now.files misses stop.lead its in
    elim (written_or (stopped_end stop.stopped) status before now stop.comes) [ inl written ↦ inl (written.status_is ∙ three) | inr not ↦ inr not ]
missing_first (part ∷ parts) last Ends said name before now status misses (inr done) =
    elim (follows_shown (part ∷ parts) last said before.files done.opened (Ok done.given) (Err (FileMissing name)) done.lead (inl misses)) [
      | inl same ↦ absurd (cc)
      | inr kept ↦ absurd kept
    ]
