-- Marks that are closed are what is live, and say what is seen.
use Rattle.std.proofs.Common.{◌≡◌, ℕ, ◌<◌, ◌==◌, nat_eq, nat_lt, Bool, true, false, List, [], ◌∷◌, length, slice_get, Option, Some, None, refl, sym, ap, ◌∙◌, arith, eq-eqb, eqb-true}
use Rattle.std.proofs.lemmas.Bool.Decides.{nat_tests}
use Rattle.std.proofs.lemmas.Map.Keys.{any_passes_from_place}
use Rattle.std.specs.List.{Contains}
use Rattle.std.specs.Option.{option_map_or, option_eq}
use Rattle.std.specs.FinSet.{contains}
use Rattle.tap_lists.specs.Lists.{list_of}
use Rattle.plant_config.specs.declared.records.Bus.{Bus}
use Rattle.plant_config.specs.Plant.{PlantData}
use Rattle.crosspoint_state.specs.Crosspoints.{Crosspoints}
use Rattle.crosspoint_state.specs.Taps.{origin_at}
use Rattle.mixer_effects.specs.Buses.{is_bus_on, output_of}
use Rattle.mixer_effects.specs.Live.{carries, is_fed_by, is_live, is_origin_seen, live}
use Rattle.mixer_effects.specs.Laws.{HasRoots, LiveIsLeast}
use Rattle.mixer_effects.proofs.AnyLemmas.{any_place}
use Rattle.tally.proofs.CarriedLemmas.{carried_is}
use Rattle.tally.specs.Marks.{Marks, is_lit, AreMarksOf}
use Rattle.tally.specs.MarkLaws.{AreSettled, SayWhatIsLive}

-- a list that has a member isn't empty, and one that isn't empty has one
pub some_member : (xs : List ℕ) (x : ℕ) → Contains xs x → nat_lt 0 (length xs) ≡ true
some_member xs x member =
    let within : member.0 < length xs = member.1 in
    grind (arith, nat_tests)

pub lit_member : (xs : List ℕ) → nat_lt 0 (length xs) ≡ true → (x : ℕ) × Contains xs x
lit_member [] lit = cc
lit_member (x ∷ xs) lit = (x, (0, omega arith, refl))

-- the output of a device that feeds a destination
pub fed_output : (plant : PlantData) (points : Crosspoints) (dest : ℕ) (found : Option ℕ) → option_map_or (λ output. carries plant points output dest) found false ≡ true → (output : ℕ) × (found ≡ Some output) × (origin_at plant points dest ≡ Some output)
fed_output plant points dest None fed = cc
fed_output plant points dest (Some output) fed = (output, refl, carried_is (origin_at plant points dest) output fed)

module _ (plant : PlantData) (points : Crosspoints) (roots : List ℕ) (least : LiveIsLeast plant points roots) (marks : Marks) (are : AreMarksOf plant points marks) where
  -- a device that feeds a marked destination is fed
  pub fed_marked : (device dest : ℕ) → contains marks.live dest ≡ true → is_fed_by plant points device dest ≡ true → contains marks.fed device ≡ true
  fed_marked device dest marked fed =
      let found = fed_output plant points dest (output_of plant device) fed in
      are.fed device found.0 found.1
      ∙ some_member (list_of marks.lit found.0) dest ((are.lit found.0 dest).1 (marked, found.2))

  -- where the roots are marked, and the buses that are on of devices that are fed, all that is live is marked
  pub live_marked : HasRoots roots (contains marks.live) → ((place : ℕ) (bus : Bus) → slice_get plant.buses place ≡ Some bus → is_bus_on plant points bus ≡ true → contains marks.fed bus.device ≡ true → contains marks.live bus.dest ≡ true) →
      (dest : ℕ) → is_live plant points roots dest ≡ true → contains marks.live dest ≡ true
  live_marked rooted buses =
      least.least (contains marks.live)
      (record { has_roots = rooted; has_buses = λ place dest bus at on among fed. buses place bus at on (fed_marked bus.device dest among fed) })

  -- marks that are settled are all that is live
  same_truth : (a b : Bool) → (a ≡ true → b ≡ true) → (b ≡ true → a ≡ true) → a ≡ b
  same_truth true b there back = sym (there refl)
  same_truth false true there back = back refl
  same_truth false false there back = refl

  -- a source is lit where some live destination carries it
  seen_lit : ((dest : ℕ) → contains marks.live dest ≡ is_live plant points roots dest) → (origin : ℕ) → is_lit marks.lit origin ≡ is_origin_seen plant points roots origin
  seen_lit all origin = same_truth (is_lit marks.lit origin) (is_origin_seen plant points roots origin) there back
    where
      there : is_lit marks.lit origin ≡ true → is_origin_seen plant points roots origin ≡ true
      there lit =
          let member = lit_member (list_of marks.lit origin) lit in
          let stands = (are.lit origin member.0).0 member.1 in
          let lives = sym (all member.0) ∙ stands.0 in
          let found = any_place (λ other. other == member.0) (live plant points roots) lives in
          let carried : carries plant points origin found.1 ≡ true = ap (λ dest. carries plant points origin dest) (eqb-true found.1 member.0 found.3) ∙ ap (λ (o : Option ℕ). option_eq nat_eq o (Some origin)) stands.1 ∙ eq-eqb origin origin refl in
          any_passes_from_place (carries plant points origin) (live plant points roots) found.0 found.1 found.2 carried

      back : is_origin_seen plant points roots origin ≡ true → is_lit marks.lit origin ≡ true
      back seen =
          let found = any_place (carries plant points origin) (live plant points roots) seen in
          let lives : is_live plant points roots found.1 ≡ true = any_passes_from_place (λ other. other == found.1) (live plant points roots) found.0 found.1 found.2 (eq-eqb found.1 found.1 refl) in
          some_member (list_of marks.lit origin) found.1 ((are.lit origin found.1).1 (all found.1 ∙ lives, carried_is (origin_at plant points found.1) origin found.3))

  pub settled_say : AreSettled plant points roots marks → SayWhatIsLive plant points roots marks
  settled_say settled = record { live = all; seen = seen_lit all }
    where
      all : (dest : ℕ) → contains marks.live dest ≡ is_live plant points roots dest
      all dest = same_truth (contains marks.live dest) (is_live plant points roots dest) (settled.sound dest) (live_marked settled.rooted settled.buses dest)
