use Rattle.std.proofs.Common.{◌≡◌, rules, ℕ, List, Some, ◌∙◌, arith}
use Rattle.record_replay.specs.FirstInside.{IsFirst}
use Rattle.record_replay.specs.KeptInside.{LineData}
use Rattle.record_replay.specs.ReplayerInside.{DoesLine}
use Rattle.record_replay.proofs.UnwrittenLemmas.{given_whole, text_given}
use Rattle.record_replay.proofs.WorkScriptLemmas.{first_spelled}
use Rattle.record_replay.proofs.replayer.Replayer.work_in_memory.Goals as goal

pub returns-then-finish : goal.returns-then-finish
returns-then-finish c =
    let here = c.in_ok-behind.ensures in
    let done : (text : List ℕ) → text ≡ c.finish.new.self.0.text
    → (first : List ℕ) × IsFirst c.args.text.now first c.in_ok-behind.behind.now × DoesLine c.args.self.now.plant.now first c.args.self.now c.work_first.new.self (λ its packets. text ≡ its) =
    λ text is. (
      here.0,
      here.1,
      λ stand used works stands within spelled.
          let did = here.2 stand used works stands within spelled in (
            did.0,
            did.1,
            is
                ∙ text_given c.finish.new.self.0.text c.clear-2.new.self.text did.0 c.clear-2.ensures
                (given_whole {K = LineData} (λ line. Some line.text) (λ line. line.faults) c.clear-2.new.self _ c.new-output.result c.work_first.new.out did.0 c.new-output.ensures.nothing did.2.0 c.if-finish.ensures.whole),
            did.3,
          ),
    ) in
    let one = first_spelled c.args.self.now.plant.now c.args.text.now here.0 c.in_ok-behind.behind.now here.1.lines_are c.requires.spelled in
    let same = (here.2 c.requires.may.stand c.requires.may.used one.0 c.requires.may.stands (omega (arith, c.requires.may.within, here.1.within)) one.1).2.0.same_sink in
    done _ (search rules)
