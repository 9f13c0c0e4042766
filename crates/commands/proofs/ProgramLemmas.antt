-- What runs of the whole program tell.
use Rattle.std.proofs.Common.{◌≡◌, ◌≢◌, ◌⊎◌, inl, inr, ℕ, Bool, true, false, List, [], ◌∷◌, refl, sym, ◌∙◌, ap, subst, arith}
use Rattle.ctl_io.specs.Faults.{one_more}
use Rattle.panel_server.specs.PlantServed.{NetData}
use Rattle.command_words.specs.Parts.{NoMore, Prefix}
use Rattle.command_words.specs.Table.{AskNone, AskOne}
use Rattle.command_rows.specs.Moment.{Moment}
use Rattle.command_rows.specs.Row.{RowRuns}
use Rattle.command_rows.specs.RowLaws.{CouldNotWrite}
use Rattle.command_rows.specs.Sound.{IsOneOf}
use Rattle.command_rows.proofs.RowLawsLemmas.{no_usage, write_all}
use Rattle.command_rows.proofs.SoundLemmas.{known, seven_cause}
use Rattle.command_drill.specs.Drill as drills
use Rattle.command_drill.proofs.LawLemmas as drill
use Rattle.command_serve.specs.Serve as serves
use Rattle.command_serve.specs.Laws.{Serves}
use Rattle.command_serve.specs.Whole.{ZeroServesWhole as ServicesServeWhole}
use Rattle.command_serve.proofs.LawLemmas.{are_rows, known as serve_known}
use Rattle.commands.specs.declared.rows.Verb.{Verb}
use Rattle.commands.specs.declared.rows.Verb.TheVariants as verbs
use Rattle.commands.specs.Rows.{AskFor, SaidOf, line_of, row_of, table}
use Rattle.commands.specs.Quiet.{RunsRow, QuietEnds}
use Rattle.commands.specs.Program.{Waits, WaitingEnds, ProgramEnds}
use Rattle.commands.specs.ProgramLaws.{AskedWaits, OthersRunQuietly, OthersLeaveNet, ZeroServesWhole, EightIsOfServices, ProgramTwoTellsUsage, NoFormEndsProgramWithTwo, ProgramSevenHasCause, ProgramWritesAll}
use Rattle.commands.proofs.SaidLemmas.{asked_so}
use Rattle.commands.proofs.QuietLemmas.{eight, no_form, usage_told, formless, seven, others}

module _ {P : Type 0} (WasSent : P → List (List ℕ) → Type 0) (faults : P → ℕ) where
  -- a command that waits isn't a quiet one
  no_quiet : (verb : Verb) (said : SaidOf verb) (before now : Moment) (net net_then : NetData P) (status : ℕ) → Waits WasSent faults verb said before now net net_then status → (row_of verb).form.is_quiet ≡ false
  no_quiet verbs.Serve said before now net net_then status waits = refl
  no_quiet verbs.Drill said before now net net_then status waits = refl
  no_quiet other said before now net net_then status waits = absurd waits

  one_waits : (words : List (List ℕ)) (verb : Verb) (said : SaidOf verb) → AskFor words verb said → (row_of verb).form.is_quiet ≡ false → AskOne table false words
  one_waits words verb said ask quiet = record { line = line_of verb; quiet = quiet; said = said; ask = ask }

  pub asked_waits : AskedWaits WasSent faults
  asked_waits words verb said before now net net_then status ask quiet (inl run) =
      asked_so words run.verb verb run.said said (λ v s. Waits WasSent faults v s before now net net_then status) run.ask ask run.waits
  asked_waits words verb said before now net net_then status ask quiet (inr run) = absurd (run.none (one_waits words verb said ask quiet))

  pub run_quietly : OthersRunQuietly WasSent faults
  run_quietly words before now net net_then status none (inl run) = absurd (none (one_waits words run.verb run.said run.ask (no_quiet run.verb run.said before now net net_then status run.waits)))
  run_quietly words before now net net_then status none (inr run) = run.ends

  leave_net : (words : List (List ℕ)) (verb : Verb) (said : SaidOf verb) (before now : Moment) (net net_then : NetData P) (status : ℕ) → AskFor words verb said → ((its : SaidOf verbs.Serve) → AskFor words verbs.Serve its → ⊥)
      → Waits WasSent faults verb said before now net net_then status → net_then ≡ net
  leave_net words verbs.Serve said before now net net_then status ask none waits = absurd (none said ask)
  leave_net words verbs.Drill said before now net net_then status ask none waits = waits.0
  leave_net words other said before now net net_then status ask none waits = absurd waits

  pub others_net : OthersLeaveNet WasSent faults
  others_net words before now net net_then status none (inl run) = leave_net words run.verb run.said before now net net_then status run.ask none run.waits
  others_net words before now net net_then status none (inr run) = run.untouched

  -- a service that ends with 0
  pub zero_whole : ServicesServeWhole WasSent faults → ZeroServesWhole WasSent faults
  zero_whole whole words said before now net net_then ask run = whole said before now net net_then (asked_waits words verbs.Serve said before now net net_then 0 ask refl run)

  -- 8 and 9 are of services
  not_drill : (said : SaidOf verbs.Drill) (before now : Moment) (status : ℕ) → (status ≡ 8) ⊎ (status ≡ 9) → RowRuns drills.parts NoMore drills.DrillRow said before now status → ⊥
  not_drill said before now status one runs =
      let few = (known drills.parts NoMore drills.DrillRow (0 ∷ 1 ∷ []) drill.sound said before now status runs).eight in
      elim one [ inl is ↦ omega (arith, few, is) | inr is ↦ omega (arith, few, is) ]

  of_service : (words : List (List ℕ)) (verb : Verb) (said : SaidOf verb) (before now : Moment) (net net_then : NetData P) (status : ℕ) → (status ≡ 8) ⊎ (status ≡ 9) → AskFor words verb said
      → Waits WasSent faults verb said before now net net_then status → (its : SaidOf verbs.Serve) × AskFor words verbs.Serve its × Serves WasSent faults its before now net net_then status
  of_service words verbs.Serve said before now net net_then status one ask waits = (said, ask, waits)
  of_service words verbs.Drill said before now net net_then status one ask waits = absurd (not_drill said before now status one waits.1)
  of_service words other said before now net net_then status one ask waits = absurd waits

  pub eight_of : EightIsOfServices WasSent faults
  eight_of words before now net net_then status one (inl run) = of_service words run.verb run.said before now net net_then status one run.ask run.waits
  eight_of words before now net net_then status one (inr run) =
      let few = eight words before now status run.ends in
      absurd (elim one [ inl is ↦ omega (arith, few, is) | inr is ↦ omega (arith, few, is) ])

  -- a waiting command is a row: no usage line, and what its writes came to
  waits_not_2 : (verb : Verb) (said : SaidOf verb) (before now : Moment) (net net_then : NetData P) (status : ℕ) → Waits WasSent faults verb said before now net net_then status → status ≢ 2
  waits_not_2 verbs.Serve said before now net net_then status waits =
      no_usage serves.parts Prefix (serves.ServeRow WasSent faults net net_then) said before now status (are_rows WasSent faults said before now net net_then status waits)
  waits_not_2 verbs.Drill said before now net net_then status waits = no_usage drills.parts NoMore drills.DrillRow said before now status waits.1
  waits_not_2 other said before now net net_then status waits = absurd waits

  waits_write : (verb : Verb) (said : SaidOf verb) (before now : Moment) (net net_then : NetData P) (status : ℕ) → Waits WasSent faults verb said before now net net_then status → status ≢ 7 → now.output.faults ≡ before.output.faults
  waits_write verbs.Serve said before now net net_then status waits =
      write_all serves.parts Prefix (serves.ServeRow WasSent faults net net_then) said before now status (are_rows WasSent faults said before now net net_then status waits)
  waits_write verbs.Drill said before now net net_then status waits = write_all drills.parts NoMore drills.DrillRow said before now status waits.1
  waits_write other said before now net net_then status waits = absurd waits

  not_seven : (before now : Moment) → IsOneOf (0 ∷ 1 ∷ 3 ∷ 4 ∷ 8 ∷ 9 ∷ []) 7 ⊎ CouldNotWrite before now 7 → now.output.faults ≡ one_more before.output.faults
  not_seven before now (inr cut) = cut.1
  not_seven before now (inl (inl is)) = absurd (omega (arith, is))
  not_seven before now (inl (inr (inl is))) = absurd (omega (arith, is))
  not_seven before now (inl (inr (inr (inl is)))) = absurd (omega (arith, is))
  not_seven before now (inl (inr (inr (inr (inl is))))) = absurd (omega (arith, is))
  not_seven before now (inl (inr (inr (inr (inr (inl is)))))) = absurd (omega (arith, is))
  not_seven before now (inl (inr (inr (inr (inr (inr (inl is))))))) = absurd (omega (arith, is))
  not_seven before now (inl (inr (inr (inr (inr (inr (inr none))))))) = absurd none

  waits_seven : (verb : Verb) (said : SaidOf verb) (before now : Moment) (net net_then : NetData P) → Waits WasSent faults verb said before now net net_then 7 → now.output.faults ≡ one_more before.output.faults
  waits_seven verbs.Serve said before now net net_then waits = not_seven before now (serve_known WasSent faults said before now net net_then 7 waits)
  waits_seven verbs.Drill said before now net net_then waits = seven_cause drills.parts NoMore drills.DrillRow (0 ∷ 1 ∷ []) drill.sound said before now waits.1
  waits_seven other said before now net net_then waits = absurd waits

  pub two_usage : ProgramTwoTellsUsage WasSent faults
  two_usage words before now net net_then (inl run) = absurd (waits_not_2 run.verb run.said before now net net_then 2 run.waits refl)
  two_usage words before now net net_then (inr run) = ((no_form words before now run.ends, run.none), usage_told words before now run.ends)

  pub two_always : NoFormEndsProgramWithTwo WasSent faults
  two_always words before now net net_then status none (inl run) = absurd (none.1 (one_waits words run.verb run.said run.ask (no_quiet run.verb run.said before now net net_then status run.waits)))
  two_always words before now net net_then status none (inr run) = formless words before now status none.0 run.ends

  pub program_seven : ProgramSevenHasCause WasSent faults
  program_seven words before now net net_then (inl run) = waits_seven run.verb run.said before now net net_then run.waits
  program_seven words before now net net_then (inr run) = seven words before now run.ends

  pub program_writes : ProgramWritesAll WasSent faults
  program_writes words before now net net_then status (inl run) other = waits_write run.verb run.said before now net net_then status run.waits other
  program_writes words before now net net_then status (inr run) other = others words before now status run.ends other
