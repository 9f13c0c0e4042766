-- How a drill ends.
use Rattle.std.proofs.Common.{◌≡◌, ℕ, ◌*◌, inl, inr, List, [], length, refl, ◌∙◌, ap, subst, ◌++◌, ◌∷◌, append_assoc}
use Rattle.line_text.specs.Lines.{lines}
use Rattle.plant_config.specs.Plant.{PlantData}
use Rattle.plant_config.specs.IsPlant.{IsPlant}
use Rattle.plant_config.specs.DrillPlant.{drill_plant}
use Rattle.panel_session.specs.Entry.{PlantEntry}
use Rattle.trace_audit.specs.Laws.{AreLinesOf, HistoriesAreConfirmed, IsTraceable, TracesHaveOneVerdict}
use Rattle.trace_audit.specs.declared.verdict.Verdict.{Verdict}
use Rattle.trace_audit.specs.declared.verdict.Verdict.TheVariants.{Confirmed}
use Rattle.trace_audit.specs.Verdict.{IsVerdict}
use Rattle.drill.specs.Stream.{bad_among, good_among}
use Rattle.command_rows.specs.End.{done}
use Rattle.command_rows.specs.Moment.{Snapshot, Output}
use Rattle.command_rows.specs.Row.{RunsOn, EndsAlone}
use Rattle.command_rows.proofs.RowLemmas.{runs_alone, ends_weaker}
use Rattle.command_words.specs.Parts.{NoMore}
use Rattle.command_drill.specs.declared.asked.Drill.{Drill}
use Rattle.command_drill.specs.Drill.{parts, drill_of, drill_lines, each_sends, drill_text, IsHistoryOf, IsTraceOf, DrillEnds, DrillRow}
use Rattle.command_drill.specs.DrillInside.{AskFor, TellsEnds}

-- five numbers in a text, each at the end of its line
pub lines-parts : (one two three four five b c d e f : List ℕ)
    → one ++ 10 ∷ (b ++ (two ++ 10 ∷ (c ++ (three ++ 10 ∷ (d ++ (four ++ 10 ∷ (e ++ (five ++ 10 ∷ f))))))))
    ≡ (one ++ 10 ∷ []) ++ (b ++ (two ++ 10 ∷ [])) ++ (c ++ (three ++ 10 ∷ [])) ++ (d ++ (four ++ 10 ∷ [])) ++ (e ++ (five ++ 10 ∷ [])) ++ f
lines-parts one two three four five b c d e f = simp append_assoc refl

-- the lines are those of the drill
pub text-drill : (drill : Drill) (messages acks naks sessions : ℕ) (text : List ℕ) → text ≡ drill_lines drill.panels messages acks naks sessions → messages ≡ drill.panels * each_sends drill
    → acks ≡ drill.panels * good_among (each_sends drill) → naks ≡ drill.panels * bad_among (each_sends drill) → sessions ≡ drill.panels → text ≡ drill_text drill
text-drill drill messages acks naks sessions text is m a n s = is ∙ (λ i. drill_lines drill.panels (m i) (a i) (n i) (s i))

-- the trace of a drill is confirmed
pub drill_trace : (drill : Drill) (history : List PlantEntry) (trace : List ℕ) → HistoriesAreConfirmed → IsPlant (drill_plant drill.panels) → IsHistoryOf drill history
    → AreLinesOf (drill_plant drill.panels) history (lines trace) → IsTraceOf drill trace
drill_trace drill history trace confirm plant is_history all =
    record { history = history; is_history = is_history; all = all; confirmed = confirm (drill_plant drill.panels) history (lines trace) plant is_history.traceable all }

-- the trace of a drill has no verdict but that it is confirmed
pub confirmed_alone : (panels : ℕ) (history : List PlantEntry) (plant : PlantData) (text trace : List ℕ) (verdict : Verdict) → HistoriesAreConfirmed → TracesHaveOneVerdict
    → IsPlant (drill_plant panels) → IsTraceable (drill_plant panels) history → AreLinesOf (drill_plant panels) history (lines trace) → plant ≡ drill_plant panels → text ≡ trace
    → IsVerdict plant (lines text) verdict → verdict ≡ Confirmed (length history)
confirmed_alone panels history plant text trace verdict confirm alone is_plant traceable all of is audited =
    let so : IsVerdict (drill_plant panels) (lines trace) verdict =
    subst (λ (p : PlantData). IsVerdict p (lines trace) verdict) of (subst (λ (t : List ℕ). IsVerdict plant (lines t) verdict) is audited) in
    alone (drill_plant panels) (lines trace) verdict (Confirmed (length history)) is_plant so (confirm (drill_plant panels) history (lines trace) is_plant traceable all)

-- what was told of a drill is what is promised of it
pub told : (drill : Drill) (trace : List ℕ) (messages acks naks sessions : ℕ) (before now : Output) (status : ℕ) → IsTraceOf drill trace → messages ≡ drill.panels * each_sends drill
    → acks ≡ drill.panels * good_among (each_sends drill) → naks ≡ drill.panels * bad_among (each_sends drill) → sessions ≡ drill.panels
    → EndsAlone (TellsEnds drill.panels messages acks naks sessions) before now status → EndsAlone (DrillEnds drill) before now status
told drill trace messages acks naks sessions before now status is m a n s =
    ends_weaker before now status (λ end ends. elim ends [
      | inl memory ↦ inl memory
      | inr lines ↦ inr (lines ∙ ap done (text-drill drill messages acks naks sessions (drill_lines drill.panels messages acks naks sessions) refl m a n s), (trace, is))
    ])

-- a drill that words ask for runs so
pub runs : (words : List (List ℕ)) (drill : Drill) (files : Snapshot) (before now : Output) (status : ℕ) → AskFor words drill → EndsAlone (DrillEnds drill) before now status
    → RunsOn parts NoMore DrillRow words (record { files = files; output = before }) (record { files = files; output = now }) status
runs words drill files before now status ask so =
    runs_alone parts NoMore (λ given. DrillEnds (drill_of given.0 given.1.0 given.1.1.0)) words (drill.number, (drill.panels, (drill.messages, tt))) files files before now status
    (λ said say.
    let is = ask said say in
    record {
      between = files;
      leads = (ap (λ (d : Drill). d.number) is, refl);
      others = record {
        between = files;
        leads = (ap (λ (d : Drill). d.panels) is, refl);
        others = record { between = files; leads = (ap (λ (d : Drill). d.messages) is, refl); others = refl };
      };
    }) so
