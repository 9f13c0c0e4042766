-- That a session which is worked turn by turn may have another.
use Rattle.std.proofs.Common.{◌≡◌, ℕ, ◌+◌, ◌*◌, ◌^◌, ◌<◌, ◌≤◌, Bool, List, [], ◌∷◌, ◌++◌, length, refl, sym, ap, ◌∙◌, arith}
use Rattle.std.specs.Prelude.{IfErr, OnOk, Result, Ok, Err}
use Rattle.std.proofs.lemmas.List.{append-nil, length-append}
use Rattle.plant_config.specs.IsPlant.{IsPlant}
use Rattle.plant_config.specs.Plant.{PlantData}
use Rattle.panel_session.specs.Engine.{HasRun, IsReady, RunsOn, StopsIn}
use Rattle.panel_session.specs.Entry.{PlantEntry}
use Rattle.panel_session.specs.Run.{turned}
use Rattle.panel_session.specs.Session.{BeginsAnew, StandsFor}
use Rattle.panel_session.specs.SoFar.{nothing_yet, read_so_far}
use Rattle.panel_session.specs.Turns.{Turn, bytes_read}
use Rattle.panel_session.specs.declared.session.Session.{Session}
use Rattle.panel_session.specs.declared.session.cut.Cut.{Cut}
use Rattle.panel_session.specs.declared.session.cut.Cut.TheVariants.{Refused, Untraced, Unsent}
use Rattle.panel_session.proofs.KeptTurnLemmas.{bytes_of-append}
use Rattle.panel_session.proofs.ReadsLemmas.{few_items}
use Rattle.panel_tests.specs.BetweenTurns.{IsBetween}

pub between_new : (plant : PlantData) (panel : ℕ) (session : Session) → IsPlant plant → StandsFor plant panel session nothing_yet → IsBetween session 0
between_new plant panel session is stands = record { plant = plant; panel = panel; past = nothing_yet; is_plant = is; stands = stands; begins = refl; few = omega arith; short = omega arith }

pub between_anew : (session after : Session) (turns : ℕ) → BeginsAnew session after → IsBetween session turns → IsBetween after 0
between_anew session after turns anew between = between_new between.plant between.panel after between.is_plant (anew between.plant between.panel between.past between.stands)

module _ {Answerer : Type 0} (session : Session) (turns : ℕ) (piece : List ℕ) (between : IsBetween session turns) where
  -- It is ready for another turn.
  abbrev pub ready : (answerer : Answerer) → turns < 2 ^ 20 → length piece ≤ 2 ^ 20 → IsReady (λ (answerer : Answerer) (seat : ℕ). Unit {0}) (λ (plant : PlantData) (answerer : Answerer). IsPlant plant) session answerer piece
  ready answerer few short =
      let past = between.past in
      let read : read_so_far past ≡ bytes_read past.turns = ap (λ (now : Turn). bytes_read past.turns ++ now.piece) between.begins ∙ append-nil (bytes_read past.turns) in
      record {
        plant = between.plant;
        panel = between.panel;
        seat = 0;
        past = past;
        may = record {
          stands = between.stands;
          begins = between.begins;
          may = record {
            items = omega (arith, few, short, between.short, few_items (read_so_far past ++ piece), length-append (read_so_far past) piece, ap (length {A = ℕ}) read);
            turns = omega (arith, few, between.few);
            rest = λ some. absurd (some (ap (λ (now : Turn). now.polls) between.begins));
          };
          seated = tt;
          serves = between.is_plant;
        };
      }

  -- It had that.
  between_later : {Answers : Answerer → List PlantEntry → Answerer → Type 0} {sf : Bool} {first last : Answerer} {after : Session} {more : List ℕ} → length piece ≤ 2 ^ 20
      → HasRun Answers sf between.plant between.panel 0 between.past piece first last after more → IsBetween after (turns + 1)
  between_later {more = more} short ran =
      let past = between.past in
      record {
        plant = between.plant;
        panel = between.panel;
        past = turned ran.turn more past;
        is_plant = between.is_plant;
        stands = ran.stands;
        begins = refl;
        few = omega (arith, between.few, length-append past.turns (ran.turn ∷ []));
        short = omega (arith, short, between.short, ap (length {A = ℕ}) (bytes_of-append past.turns ran.turn), length-append (bytes_read past.turns) ran.turn.piece, ap (length {A = ℕ}) ran.piece_is);
      }

  -- Nothing cuts it short.
  pub turned_on : {Outlet : Type 0} (Answers : Answerer → List PlantEntry → Answerer → Type 0) (sf : Bool) (Given : Outlet → List ℕ → Outlet → Type 0) (after : Session) (first last : Answerer) (out out_then : Outlet) (result : Result (Unit {0}) Cut)
      → turns < 2 ^ 20 → length piece ≤ 2 ^ 20
      → OnOk result (RunsOn (λ (answerer : Answerer) (seat : ℕ). Unit {0}) (λ (plant : PlantData) (answerer : Answerer). IsPlant plant) Answers sf Given piece session after first last out out_then)
      → IfErr result (λ cut. StopsIn (λ (answerer : Answerer) (seat : ℕ). Unit {0}) (λ (plant : PlantData) (answerer : Answerer). IsPlant plant) Answers (λ (first : Answerer) (entry : PlantEntry) (last : Answerer). ⊥) (λ (first last : Answerer). ⊥) sf Given
      (λ (first : Outlet) (bytes : List ℕ) (last : Outlet). ⊥) cut piece session after first last out out_then)
      → IsBetween after (turns + 1)
  turned_on Answers sf Given after first last out out_then (Ok done) few short runs cut = between_later short (runs between.plant between.panel 0 between.past (ready first few short).may).2
  turned_on Answers sf Given after first last out out_then (Err Refused) few short runs cut = absurd (cut between.plant between.panel 0 between.past (ready first few short).may).ends.refuses
  turned_on Answers sf Given after first last out out_then (Err Untraced) few short runs cut = absurd (cut between.plant between.panel 0 between.past (ready first few short).may).ends.traces
  turned_on Answers sf Given after first last out out_then (Err Unsent) few short runs cut = absurd (cut between.plant between.panel 0 between.past (ready first few short).may).ends.fails.failed
