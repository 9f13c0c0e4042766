-- Works that are done one behind the other, and their output lines.
use Rattle.std.proofs.Common.{◌≡◌, ℕ, ◌+◌, ◌≤◌, Bool, true, false, List, [], ◌∷◌, ◌++◌, length, take, drop, Option, refl, sym, ◌∙◌, ap, subst, append_assoc, arith, length-append, take-append-drop}
use Rattle.std.proofs.lemmas.Bool.{false≢true}
use Rattle.std.proofs.lemmas.List.{append-nil}
use Rattle.std.proofs.Math.Seq.{take-append-add}
use Rattle.ctl_io.specs.Sink.{appended, AppendsPart}
use Rattle.ctl_io.proofs.SinkLemmas.{appended-appended}
use Rattle.plant_config.specs.Plant.{PlantData}
use Rattle.record_replay.specs.Script.{Work, Read, Leave, Show}
use Rattle.record_replay.specs.Replay.{ReplayState, Advances, AllWork}
use Rattle.record_replay.specs.OutputInside.{are_some}
use Rattle.record_replay.specs.PortInside.{AllSent}
use Rattle.record_replay.specs.Kept.{WroteFront, WroteLines}

-- ---- works and their lines

-- Works are done behind others,
pub all_more : (plant : PlantData) (done later : List Work) (stand mid last : ReplayState) (text more : List ℕ) → AllWork plant done stand text mid → AllWork plant later mid more last
    → AllWork plant (done ++ later) stand (text ++ more) last
all_more plant [] later stand mid last text more all then =
    subst (λ (t : List ℕ). AllWork plant later stand (t ++ more) last) (sym all.0) (subst (λ (s : ReplayState). AllWork plant later s more last) all.1 then)
all_more plant (work ∷ done) later stand mid last text more all then = (
  all.0,
  all.1,
  all.2 ++ more,
  all.3,
  all_more plant done later all.0 mid last all.2 more all.4 then,
  ap (λ (t : List ℕ). t ++ more) all.5 ∙ append_assoc all.1 all.2 more,
)

-- and those that sent something are done.
pub sent_work : (plant : PlantData) (works : List Work) (stand last : ReplayState) (text : List ℕ) (packets : List (List ℕ)) → AllSent plant works stand text packets last → AllWork plant works stand text last
sent_work plant [] stand last text packets sent = (sent.0, sent.2)
sent_work plant (work ∷ works) stand last text packets sent = (sent.0, sent.1, sent.2, sent.4, sent_work plant works sent.0 last sent.2 sent.3 sent.5, sent.6)

-- Each work has an output line that isn't empty.
some_line : (plant : PlantData) (work : Work) (stand next : ReplayState) (line : List ℕ) → Advances plant work stand line next → are_some line ≡ true
some_line plant (Read panel piece) stand next line done = ap are_some done.4
some_line plant (Leave panel) stand next line done = ap are_some done.0
some_line plant (Show screen refresh) stand next line done = ap are_some done.0

some_text : (line rest : List ℕ) → are_some line ≡ true → are_some (line ++ rest) ≡ true
some_text [] rest is = absurd (false≢true is)
some_text (byte ∷ bytes) rest is = refl

-- So where nothing was put no work was done,
pub no_work : (plant : PlantData) (works : List Work) (stand next : ReplayState) (text : List ℕ) (packets : List (List ℕ)) → AllSent plant works stand text packets next → text ≡ [] → works ≡ []
no_work plant [] stand next text packets all none = refl
no_work plant (work ∷ works) stand next text packets all none =
    let some : are_some text ≡ true = ap are_some all.6 ∙ some_text all.1 all.2 (some_line plant work stand all.0 all.1 all.4) in
    absurd (false≢true (sym (ap are_some none) ∙ some))

-- and where something was put one was, if it was one at most.
pub one_work : (plant : PlantData) (works : List Work) (stand next : ReplayState) (text : List ℕ) (packets : List (List ℕ)) → AllSent plant works stand text packets next → length works ≤ 1 → (text ≡ [] → ⊥) → length works ≡ 1
one_work plant [] stand next text packets all most some = absurd (some all.0)
one_work plant (work ∷ works) stand next text packets all most some = omega (arith, most)

-- ---- what is written

-- A line is cut behind a text that was written whole.
pub part_behind : (front line : List ℕ) (before mid now : Option (List ℕ)) → mid ≡ appended before front → AppendsPart line mid now → AppendsPart (front ++ line) before now
part_behind front line before mid now wrote part = record {
  count = length front + part.count;
  shorter = omega (arith, part.shorter, length-append front line);
  appends = part.appends ∙ ap (λ (w : Option (List ℕ)). appended w (take part.count line)) wrote ∙ appended-appended before front (take part.count line) ∙ ap (appended before) (sym (take-append-add front line part.count));
}

-- Output lines are written as a front of them.
pub front_of : (failed : Bool) (output : List ℕ) (before now : Option (List ℕ)) → WroteLines failed output before now → WroteFront output before now
front_of false output before now wrote = record { front = output; rest = []; place = sym (append-nil output); appends = wrote }
front_of true output before now wrote = record { front = take wrote.count output; rest = drop wrote.count output; place = sym (take-append-drop wrote.count output); appends = wrote.appends }
