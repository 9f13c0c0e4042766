-- One destination more goes dark.
use Rattle.std.proofs.Common.{◌≡◌, ◌≢◌, ◌⊎◌, ℕ, ◌<◌, ◌==◌, Bool, true, false, not, ◌&&◌, ◌||◌, List, [], ◌∷◌, length, Option, Some, None, inl, inr, refl, sym, ap, subst, ◌∙◌, arith, eq-eqb, eqb-true}
use Rattle.std.proofs.lemmas.Bool.{cases_eq, and_parts, or_cases, or_left, or_right, ne_eqb}
use Rattle.std.specs.Option.{option_and_then}
use Rattle.std.specs.FinSet.{contains, insert, remove}
use Rattle.number_tables.proofs.Members.{contains_inserted, contains_removed}
use Rattle.plant_config.specs.Plant.{PlantData}
use Rattle.crosspoint_state.specs.Crosspoints.{Crosspoints}
use Rattle.tally.specs.Tally.{Origins}
use Rattle.tally.specs.Marks.{Marks, AreMarksOf}
use Rattle.crosspoint_state.specs.Taps.{origin_at}
use Rattle.mixer_effects.specs.Buses.{fed_device}
use Rattle.tally.proofs.DeviceLemmas.{fed_within}
use Rattle.tally.specs.Lost.{WaitsFor}
use Rattle.tally.specs.Losing.{in_doubt, feeder_of, WentDark, MayGoDark, AreLosing, MarksNoMore}

-- what is in doubt stays so
pub record DoubtsMore (before after : Origins) : Type 0 where
  pub more : (device : ℕ) → contains before device ≡ true → contains after device ≡ true

pub dark_now : (old new : Marks) (dest : ℕ) → new.live ≡ remove old.live dest → contains new.live dest ≡ false
dark_now old new dest live =
    ap (λ set. contains set dest) live ∙ contains_removed old.live dest dest ∙ ap (λ b. not b && contains old.live dest) (eq-eqb dest dest refl)

pub no_more : (old new : Marks) (dest : ℕ) → new.live ≡ remove old.live dest → MarksNoMore old new
no_more old new dest live other marked =
    (and_parts (not (other == dest)) (contains old.live other) (sym (contains_removed old.live dest other) ∙ sym (ap (λ set. contains set other) live) ∙ marked)).1

pub loses_one : (plant : PlantData) (dest : ℕ) (marks new : Marks) (waiting more doubted : Origins) (old : Crosspoints) (roots touched : List ℕ) → AreLosing plant old roots touched marks waiting doubted → MayGoDark plant roots touched doubted dest →
    AreMarksOf plant old new → new.live ≡ remove marks.live dest → DoubtsMore waiting more → ((device : ℕ) → feeder_of plant old dest ≡ Some device → in_doubt more doubted device ≡ true) → AreLosing plant old roots touched new more doubted
loses_one plant dest marks new waiting more doubted old roots touched losing cause kept live wider feeds = record {
  kept = kept;
  sound = λ other marked. losing.sound other (no_more marks new dest live other marked);
  followed = λ other device dark fed. follow other device dark fed (cases_eq other dest);
  caused = λ other dark. because other dark (cases_eq other dest);
}
  where
    before : (other : ℕ) → other ≢ dest → WentDark plant old roots new other → WentDark plant old roots marks other
    before other apart dark = record {
      lived = dark.lived;
      dark =
          ap (λ b. not b && contains marks.live other) (sym (ne_eqb other dest apart))
          ∙ sym (contains_removed marks.live dest other) ∙ sym (ap (λ set. contains set other) live) ∙ dark.dark;
    }

    wide : (a b c : Bool) → (a ≡ true → c ≡ true) → (a || b) ≡ true → (c || b) ≡ true
    wide true b c more some = or_left c b (more refl)
    wide false b c more some = or_right c b some

    follow : (other device : ℕ) → WentDark plant old roots new other → feeder_of plant old other ≡ Some device → (other ≡ dest) ⊎ (other ≢ dest) → in_doubt more doubted device ≡ true
    follow other device dark fed (inl same) = feeds device (ap (feeder_of plant old) (sym same) ∙ fed)
    follow other device dark fed (inr apart) =
        wide (contains waiting device) (contains doubted device) (contains more device) (wider.more device) (losing.followed other device (before other apart dark) fed)

    because : (other : ℕ) → WentDark plant old roots new other → (other ≡ dest) ⊎ (other ≢ dest) → MayGoDark plant roots touched doubted other
    because other dark (inl same) = subst (MayGoDark plant roots touched doubted) (sym same) cause
    because other dark (inr apart) = losing.caused other (before other apart dark)

pub doubts_inserted : (before after : Origins) (number : ℕ) → after ≡ insert before number → DoubtsMore before after
doubts_inserted before after number is = record {
  more = λ device has. ap (λ set. contains set device) is ∙ contains_inserted before number device ∙ or_right (device == number) (contains before device) has;
}

pub waits_inserted : (before after doubted : Origins) (number device found : ℕ) → after ≡ insert before number → number ≡ found → Some found ≡ Some device → in_doubt after doubted device ≡ true
waits_inserted before after doubted number device found is same both =
    let it : found ≡ device = cc in
    or_left (contains after device) (contains doubted device)
    (ap (λ set. contains set device) is ∙ contains_inserted before number device ∙ or_left (device == number) (contains before device) (eq-eqb device number (sym it ∙ sym same)))

pub stays_doubted : (waiting doubted : Origins) (number device found : ℕ) → contains doubted number ≡ true → number ≡ found → Some found ≡ Some device → in_doubt waiting doubted device ≡ true
stays_doubted waiting doubted number device found has same both =
    let it : found ≡ device = cc in
    or_right (contains waiting device) (contains doubted device) (subst (λ n. contains doubted n ≡ true) (same ∙ it) has)

-- the device that a destination feeds is one of the plant's
feeder_within : (plant : PlantData) (old : Crosspoints) (dest device : ℕ) → Some device ≡ feeder_of plant old dest → device < length plant.devices
feeder_within plant old dest device = by (origin_at plant old dest)
  where
    by : (found : Option ℕ) → Some device ≡ option_and_then (fed_device plant) found → device < length plant.devices
    by None is = cc
    by (Some origin) is = fed_within plant origin device (sym is)

-- who waits since one destination went dark
pub waits_one : (plant : PlantData) (old : Crosspoints) (dest : ℕ) (marks : Marks) (waiting more doubted : Origins) (number found : ℕ) → more ≡ insert waiting number → number ≡ found → Some found ≡ feeder_of plant old dest → contains doubted found ≡ false → contains marks.live dest ≡ true → (device : ℕ) → contains more device ≡ true → (contains waiting device ≡ true) ⊎ WaitsFor plant old (dest ∷ []) marks doubted device
waits_one plant old dest marks waiting more doubted number found is same feeder fresh marked device has =
    by (or_cases (device == number) (contains waiting device) (sym (contains_inserted waiting number device) ∙ sym (ap (λ set. contains set device) is) ∙ has))
  where
    by : ((device == number) ≡ true) ⊎ (contains waiting device ≡ true) → (contains waiting device ≡ true) ⊎ WaitsFor plant old (dest ∷ []) marks doubted device
    by (inr was) = inl was
    by (inl here) =
        let it : device ≡ found = eqb-true device number here ∙ same in
        inr (subst (WaitsFor plant old (dest ∷ []) marks doubted) (sym it) (record {
          below = feeder_within plant old dest found feeder;
          fresh = fresh;
          dest = dest;
          among = (0, omega arith, refl);
          marked = marked;
          fed = sym feeder;
        }))
