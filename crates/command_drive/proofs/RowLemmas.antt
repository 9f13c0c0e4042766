-- How a run of the row ends.
use Rattle.std.proofs.Common.{◌≡◌, ℕ, ◌+◌, false, inl, inr, List, [], ◌∷◌, ◌++◌, Option, Some, None, is_some, refl, ◌∙◌, ap, arith, append_assoc, nat_eq, count_by}
use Rattle.std.specs.List.{range_with_len}
use Rattle.std.specs.Option.{option_map_or, option_eq}
use Rattle.std.specs.FinMap as finite
use Rattle.matrix_driver.specs.Laws.{AlwaysHad}
use Rattle.matrix_driver.specs.Levels.{IsLevel}
use Rattle.matrix_driver.specs.World.{World}
use Rattle.matrix_driver.proofs.Sources.{source_itself}
use Rattle.command_rows.specs.End.{done}
use Rattle.command_rows.specs.Moment.{Snapshot, Output}
use Rattle.command_rows.specs.Row.{RunsOn, EndsAlone}
use Rattle.command_rows.proofs.RowLemmas.{runs_alone, ends_weaker}
use Rattle.command_words.specs.Parts.{NoMore}
use Rattle.command_drive.specs.declared.asked.Asked.{Asked}
use Rattle.command_drive.specs.declared.text.Counts.{Counts}
use Rattle.command_drive.specs.declared.bench.Bench.{Bench}
use Rattle.command_drive.specs.Drive.{Drive, bench_level, turns, wanted}
use Rattle.command_drive.specs.DriveRow.{parts, is_settled, agrees, settled_count, agree_count, drive_lines, drive_text, DriveEnds, DriveRow}
use Rattle.command_drive.specs.DriveLaws.{DrivesAreRuns}
use Rattle.command_drive.specs.DriveInside.{AskFor, TellsEnds, Shows, agrees_at, ComesToEnd}
use Rattle.command_drive.proofs.CountLemmas.{same_counts}

-- three numbers in a text, each at the end of its line
pub lines-parts : (one two three b c d e : List ℕ)
    → one ++ 10 ∷ (b ++ (two ++ 10 ∷ (c ++ (three ++ 10 ∷ (d ++ (e ++ 10 ∷ []))))))
    ≡ (one ++ 10 ∷ []) ++ (b ++ (two ++ 10 ∷ [])) ++ (c ++ (three ++ 10 ∷ [])) ++ (d ++ (e ++ 10 ∷ []))
lines-parts one two three b c d e = simp append_assoc refl

-- ---- counts

-- where what is settled is had, the frame agrees with all that is settled
agreed : (settled : Option (Option ℕ)) (carried : Option ℕ) → ((source : Option ℕ) → settled ≡ Some source → carried ≡ source) → option_map_or (λ source. option_eq nat_eq carried source) settled false ≡ is_some settled
agreed None carried had = refl
agreed (Some source) carried had = ap (λ c. option_eq nat_eq c source) (had source refl) ∙ source_itself source

is_level : IsLevel bench_level
is_level = record { matrix = omega arith; number = omega arith; destinations = omega arith; sources = omega arith }

pub all_agree : (number wants count : ℕ) → AlwaysHad bench_level → DrivesAreRuns → agree_count (turns count (wanted number wants)).world ≡ settled_count (turns count (wanted number wants)).world
all_agree number wants count had runs =
    let world : World = (turns count (wanted number wants)).world in
    let run = runs number wants count in
    let all = had is_level (λ dest. None) run.steps world run.run in
    same_counts (agrees world) (is_settled world) 0 32 (λ dest below. agreed (finite.get world.driver.progress.settled dest) (world.carried dest) (all dest))

-- what the code counts is what the drive's lines say
pub settled_shown : (it : Bench) (drive : Drive) (count : ℕ) → Shows it drive → count ≡ count_by (λ dest. is_some (finite.get it.driver.progress.settled dest)) (range_with_len 0 32) → count ≡ settled_count drive.world
settled_shown it drive count is counted =
    counted ∙ same_counts (λ dest. is_some (finite.get it.driver.progress.settled dest)) (is_settled drive.world) 0 32 (λ dest below. ap (λ driver. is_some (finite.get driver.progress.settled dest)) is.driver)

pub agree_shown : (it : Bench) (drive : Drive) (count : ℕ) → Shows it drive → count ≡ count_by (agrees_at it) (range_with_len 0 32) → count ≡ agree_count drive.world
agree_shown it drive count is counted =
    counted ∙ same_counts (agrees_at it) (agrees drive.world) 0 32 (λ dest below. λ i. option_map_or (λ source. option_eq nat_eq (is.sources dest (omega (arith, below)) i) source) (finite.get (is.driver i).progress.settled dest) false)

-- ---- the end

-- what was told of a drive is what is promised of it
pub told : (it : Bench) (number wants : ℕ) (counts : Counts) (before now : Output) (status : ℕ) → AlwaysHad bench_level → DrivesAreRuns → ComesToEnd (wanted number wants) it
    → counts.wants ≡ wants → counts.sent ≡ it.to_frame.count → counts.settled ≡ count_by (λ dest. is_some (finite.get it.driver.progress.settled dest)) (range_with_len 0 32)
    → counts.agree ≡ count_by (agrees_at it) (range_with_len 0 32)
    → EndsAlone (TellsEnds counts) before now status → EndsAlone (DriveEnds number wants) before now status
told it number wants counts before now status had runs ended w s m a =
    ends_weaker before now status (λ end ends. elim ends [
      | inl memory ↦ inl memory
      | inr lines ↦ inr (record {
        drive = drive;
        is_end = record { count = ended.count; is = refl; over = ended.over; before = ended.before };
        says = lines ∙ ap done text;
        all_agree = all_agree number wants ended.count had runs;
      })
    ])
  where
    drive : Drive
    drive = turns ended.count (wanted number wants)

    sent : counts.sent ≡ drive.sent
    sent = s ∙ ended.shows.to_frame.counts

    settled : counts.settled ≡ settled_count drive.world
    settled = settled_shown it drive counts.settled ended.shows m

    agree : counts.agree ≡ agree_count drive.world
    agree = agree_shown it drive counts.agree ended.shows a

    text : drive_lines counts.wants counts.sent counts.settled counts.agree ≡ drive_text wants drive
    text = λ i. drive_lines (w i) (sent i) (settled i) (agree i)

-- a drive that words ask for runs so
pub runs : (words : List (List ℕ)) (asked : Asked) (files : Snapshot) (before now : Output) (status : ℕ) → AskFor words asked → EndsAlone (DriveEnds asked.number asked.wants) before now status
    → RunsOn parts NoMore DriveRow words (record { files = files; output = before }) (record { files = files; output = now }) status
runs words asked files before now status ask so =
    runs_alone parts NoMore (λ given. DriveEnds given.0 given.1.0) words (asked.number, (asked.wants, tt)) files files before now status
    (λ said say.
    let is = ask said say in
    record {
      between = files;
      leads = (is.0, refl);
      others = record {
        between = files;
        leads = (is.1, refl);
        others = refl;
      };
    }) so
