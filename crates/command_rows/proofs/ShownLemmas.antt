-- How opening follows what the files show.
use Rattle.std.proofs.Common.{◌≡◌, ◌⊎◌, inl, inr, ℕ, ◌+◌, ◌-◌, Bool, true, false, List, [], ◌∷◌, ◌++◌, length, Result, Ok, Err, refl, sym, ◌∙◌, ap, subst, arith}
use Rattle.std.specs.Prelude.{bytes_eq, MatchBool, if◌then◌else◌}
use Rattle.std.proofs.lemmas.Slice.Eq.{bytes_eq-Decides}
use Rattle.ctl_io.specs.Held.{Held, Unshown, NoFile, Holds, CountsOn, OtherOpeningsStay}
use Rattle.ctl_io.specs.WholeFile.{Well}
use Rattle.line_text.specs.Lines.{lines}
use Rattle.plant_file.specs.declared.fault.PlantFault.{PlantFault}
use Rattle.plant_config.specs.Plant.{PlantData}
use Rattle.plant_config.specs.Bench.{bench}
use Rattle.command_words.specs.Parts.{Part, Plant, Whole, Made, Store, Later, Number, Last, NoMore, Wholes, Prefix, Said, SaidLast, AllSaid}
use Rattle.command_rows.specs.Moment.{Snapshot}
use Rattle.command_rows.specs.End.{Stopped, NoMemory, FileMissing, FileFault, PlantRefused, PlantTooLong, TooLong}
use Rattle.command_rows.specs.ReadsFile.{ReadsFile}
use Rattle.command_rows.specs.OpensPlant.{FindsPlant, OpensFile, IsBench, is_bench}
use Rattle.command_rows.specs.Opener.{Given, GivenLast, AllGiven, FindsWhole, GivesSaid, ReadsAll, Leads, LastLeads}
use Rattle.command_rows.specs.OpenerLaws.{part_files}
use Rattle.command_rows.specs.Shown.{Holding, behind_one, behind_all, TextShows, FileShows, WholeShows, Shows, AllWholeShow, LastShows, AllShow}
use Rattle.command_rows.specs.ShownLaws.{IsKept, OpeningFollowsShown, ReadingCountsOn}

-- what the files hold once a file was read well
one_behind : (b : Bool) (name other : List ℕ) (opening : ℕ) (before now : Holding) → bytes_eq name other ≡ b → CountsOn (before name) (now name) → OtherOpeningsStay name before now
    → now other opening ≡ (if b then before other (opening + 1) else before other opening)
one_behind true name other opening before now is counts others =
    subst (λ (n : List ℕ). now n opening ≡ before n (opening + 1)) ((bytes_eq-Decides name other).0 is) (counts opening)
one_behind false name other opening before now is counts others =
    others other (λ same. let clash = sym is ∙ (bytes_eq-Decides name other).1 (sym same) in cc) opening

pub read_behind : (name : List ℕ) (before now : Snapshot) → ReadsFile Well name before now → now.held ≡ behind_one name before.held
read_behind name before now read i other opening =
    one_behind (bytes_eq name other) name other opening before.held now.held refl read.openings read.others i

pub counts_on : ReadingCountsOn
counts_on [] before now reads = ap (λ (s : Snapshot). s.held) reads.1
counts_on (name ∷ later) before now (inl (none, read)) = read_behind name before now read ∙ ap (λ (ns : List (List ℕ)). behind_all ns (behind_one name before.held)) (sym none)
counts_on (name ∷ later) before now (inr (between, read, reads)) =
    counts_on later between now reads ∙ ap (behind_all later) (read_behind name before between read)

-- What was opened is what is shown, or was kept from it.
abbrev Agree : {A : Type 0} → Result A Stopped → Result A Stopped → Type 0
Agree opened shown = (opened ≡ shown) ⊎ IsKept opened

-- a file that is read whole
whole_follows : (word : List ℕ) (most : ℕ) (name : List ℕ) (held : Held) (read shown : Result (List ℕ) Stopped) → FindsWhole word most name held read → WholeShows word most name held shown → Agree read shown
whole_follows word most name Unshown read shown finds shows = absurd shows
whole_follows word most name held (Err NoMemory) shown finds shows = inr tt
whole_follows word most name held (Err (FileFault failed)) shown finds shows = inr tt
whole_follows word most name held (Err (PlantRefused why)) shown finds shows = absurd finds
whole_follows word most name held (Err PlantTooLong) shown finds shows = absurd finds
whole_follows word most name NoFile (Ok bytes) shown finds shows = absurd finds.0
whole_follows word most name NoFile (Err (FileMissing missing)) shown finds shows = inl (ap (λ (n : List ℕ). Err (FileMissing n)) finds.0 ∙ sym shows)
whole_follows word most name NoFile (Err (TooLong its)) shown finds shows = absurd finds.1
whole_follows word most name (Holds bytes) (Ok its) shown finds (inl long) = absurd (let same = ap (λ (b : List ℕ). length b) finds.0 in omega (arith, finds.1, same, long.0))
whole_follows word most name (Holds bytes) (Ok its) shown finds (inr short) = inl (ap (λ (b : List ℕ). Ok b) finds.0 ∙ sym short.1)
whole_follows word most name (Holds bytes) (Err (FileMissing missing)) shown finds shows = absurd finds.1
whole_follows word most name (Holds bytes) (Err (TooLong its)) shown finds (inl long) = inl (ap (λ (w : List ℕ). Err (TooLong w)) finds.0 ∙ sym long.1)
whole_follows word most name (Holds bytes) (Err (TooLong its)) shown finds (inr short) = absurd (omega (arith, finds.1, short.0))

-- a plant's file
file_follows : (name : List ℕ) (held : Held) (opened shown : Result PlantData Stopped) → FindsPlant name held opened → FileShows name held shown → Agree opened shown
file_follows name Unshown opened shown finds shows = absurd shows
file_follows name held (Err NoMemory) shown finds shows = inr tt
file_follows name held (Err (FileFault failed)) shown finds shows = inr tt
file_follows name held (Err (TooLong its)) shown finds shows = absurd finds
file_follows name NoFile (Ok plant) shown finds shows = absurd finds
file_follows name NoFile (Err (FileMissing missing)) shown finds shows = inl (ap (λ (n : List ℕ). Err (FileMissing n)) finds.0 ∙ sym shows)
file_follows name NoFile (Err (PlantRefused why)) shown finds shows = absurd finds.reads
file_follows name NoFile (Err PlantTooLong) shown finds shows = absurd finds
file_follows name (Holds text) (Ok plant) shown finds (inl long) = absurd (omega (arith, finds.0, long.0))
file_follows name (Holds text) (Ok plant) shown finds (inr short) = inl (sym (subst (λ (r : Result PlantData PlantFault). TextShows r shown) finds.1 short.1))
file_follows name (Holds text) (Err (FileMissing missing)) shown finds shows = absurd finds.1
file_follows name (Holds text) (Err (PlantRefused why)) shown finds (inl long) = absurd (let reads = finds.reads.0 in omega (arith, reads, long.0))
file_follows name (Holds text) (Err (PlantRefused why)) shown finds (inr short) =
    inl (ap (λ (w : List ℕ). Err (PlantRefused w)) finds.text ∙ sym (subst (λ (r : Result PlantData PlantFault). TextShows r shown) finds.reads.1 short.1))
file_follows name (Holds text) (Err PlantTooLong) shown finds (inl long) = inl (sym long.1)
file_follows name (Holds text) (Err PlantTooLong) shown finds (inr short) = absurd (omega (arith, finds, short.0))

bench_follows : (opened shown : Result PlantData Stopped) → IsBench opened → shown ≡ Ok bench → Agree opened shown
bench_follows (Ok plant) shown is shows = inl (ap (λ (p : PlantData). Ok p) is ∙ sym shows)
bench_follows (Err NoMemory) shown is shows = inr tt
bench_follows (Err (FileMissing name)) shown is shows = absurd is
bench_follows (Err (FileFault name)) shown is shows = absurd is
bench_follows (Err (PlantRefused why)) shown is shows = absurd is
bench_follows (Err PlantTooLong) shown is shows = absurd is
bench_follows (Err (TooLong word)) shown is shows = absurd is

plant_follows : (b : Bool) (word : List ℕ) (before now : Snapshot) (opened shown : Result PlantData Stopped) → MatchBool b (IsBench opened × (now ≡ before)) (OpensFile word before now opened)
    → MatchBool b (shown ≡ Ok bench) (FileShows word (before.held word 0) shown) → Agree opened shown
plant_follows true word before now opened shown leads shows = bench_follows opened shown leads.0 shows
plant_follows false word before now opened shown leads shows = file_follows word (before.held word 0) opened shown leads.finds shows

plant_behind : (b : Bool) (word : List ℕ) (before now : Snapshot) (plant : PlantData) → MatchBool b (IsBench (Ok plant) × (now ≡ before)) (OpensFile word before now (Ok plant))
    → now.held ≡ behind_all (if b then [] else word ∷ []) before.held
plant_behind true word before now plant leads = ap (λ (s : Snapshot). s.held) leads.1
plant_behind false word before now plant leads = read_behind word before now leads.reads

-- what was said
said_follows : {A : Type 0} (said : A) (before now : Snapshot) (opened shown : Result A Stopped) → GivesSaid said before now opened → shown ≡ Ok said → Agree opened shown
said_follows said before now (Ok given) shown gives shows = inl (ap (λ g. Ok g) gives.0 ∙ sym shows)
said_follows said before now (Err stopped) shown gives shows = absurd gives

-- one part
pub part_follows : (part : Part) (said : Said part) (before now : Snapshot) (opened shown : Result (Given part) Stopped) → Leads part said before now opened → Shows part said before.held shown → Agree opened shown
part_follows Plant said before now opened shown leads shows = plant_follows (is_bench said) said before now opened shown leads shows
part_follows (Whole kind) said before now opened shown leads shows = whole_follows kind.word kind.longest said (before.held said 0) opened shown leads.finds shows
part_follows Made said before now opened shown leads shows = said_follows said before now opened shown leads shows
part_follows Store said before now opened shown leads shows = said_follows said before now opened shown leads shows
part_follows (Later kind) said before now opened shown leads shows = said_follows said before now opened shown leads shows
part_follows (Number low most) said before now opened shown leads shows = said_follows said before now opened shown leads shows

pub part_behind : (part : Part) (said : Said part) (given : Given part) (before now : Snapshot) → Leads part said before now (Ok given) → now.held ≡ behind_all (part_files part said) before.held
part_behind Plant said given before now leads = plant_behind (is_bench said) said before now given leads
part_behind (Whole kind) said given before now leads = read_behind said before now leads.reads
part_behind Made said given before now leads = ap (λ (s : Snapshot). s.held) leads.1
part_behind Store said given before now leads = ap (λ (s : Snapshot). s.held) leads.1
part_behind (Later kind) said given before now leads = ap (λ (s : Snapshot). s.held) leads.1
part_behind (Number low most) said given before now leads = ap (λ (s : Snapshot). s.held) leads.1

-- what is shown where a file was read well, once it was
shown_then : (word : List ℕ) (most : ℕ) (name : List ℕ) (later : List (List ℕ)) (its bytes : List ℕ) (before between : Snapshot) (shown : Result (List (List ℕ)) Stopped) → its ≡ bytes → ReadsFile Well name before between
    → AllWholeShow word (most - length bytes) later (behind_one name before.held) shown → AllWholeShow word (most - length its) later between.held shown
shown_then word most name later its bytes before between shown same read shows =
    subst (λ (h : Holding). AllWholeShow word (most - length its) later h shown) (sym (read_behind name before between read))
    (subst (λ (b : List ℕ). AllWholeShow word (most - length b) later (behind_one name before.held) shown) (sym same) shows)

-- files that are read whole, one after the other
all_follow : (word : List ℕ) (most : ℕ) (names : List (List ℕ)) (before now : Snapshot) (opened shown : Result (List (List ℕ)) Stopped) → ReadsAll word most names before now opened
    → AllWholeShow word most names before.held shown → Agree opened shown
all_follow word most [] before now (Ok given) shown leads shows = inl (ap (λ (g : List (List ℕ)). Ok g) leads.0 ∙ sym shows)
all_follow word most [] before now (Err stopped) shown leads shows = absurd leads
all_follow word most (name ∷ later) before now (Ok given) (Ok want) (more, on) (bytes, others, here, rest, is) =
    elim (whole_follows word most name (before.held name 0) (Ok on.bytes) (Ok bytes) on.reads.finds here) [
      | inl same ↦
          let first : on.bytes ≡ bytes = cc in
          elim (all_follow word (most - length on.bytes) later on.between now (Ok more) (Ok others) on.others.0 (shown_then word most name later on.bytes bytes before on.between (Ok others) first on.reads.reads rest)) [
            | inl there ↦
                let second : more ≡ others = cc in
                inl (ap (λ (g : List (List ℕ)). Ok g) (on.others.1 ∙ (λ i. lines (first i) ++ second i) ∙ sym is))
            | inr kept ↦ absurd kept
          ]
      | inr kept ↦ absurd kept
    ]
all_follow word most (name ∷ later) before now (Ok given) (Err want) (more, on) (inl here) =
    elim (whole_follows word most name (before.held name 0) (Ok on.bytes) (Err want) on.reads.finds here) [ inl same ↦ absurd (cc) | inr kept ↦ absurd kept ]
all_follow word most (name ∷ later) before now (Ok given) (Err want) (more, on) (inr (bytes, here, rest)) =
    elim (whole_follows word most name (before.held name 0) (Ok on.bytes) (Ok bytes) on.reads.finds here) [
      | inl same ↦
          let first : on.bytes ≡ bytes = cc in
          elim (all_follow word (most - length on.bytes) later on.between now (Ok more) (Err want) on.others.0 (shown_then word most name later on.bytes bytes before on.between (Err want) first on.reads.reads rest)) [
            | inl there ↦ absurd (cc)
            | inr kept ↦ absurd kept
          ]
      | inr kept ↦ absurd kept
    ]
all_follow word most (name ∷ later) before now (Err stopped) (Ok want) (inl leads) (bytes, others, here, rest, is) =
    elim (whole_follows word most name (before.held name 0) (Err stopped) (Ok bytes) leads.finds here) [ inl same ↦ absurd (cc) | inr kept ↦ inr kept ]
all_follow word most (name ∷ later) before now (Err stopped) (Err want) (inl leads) (inl here) =
    elim (whole_follows word most name (before.held name 0) (Err stopped) (Err want) leads.finds here) [ inl same ↦ let its : stopped ≡ want = cc in inl (ap (λ (s : Stopped). Err s) its) | inr kept ↦ inr kept ]
all_follow word most (name ∷ later) before now (Err stopped) (Err want) (inl leads) (inr (bytes, here, rest)) =
    elim (whole_follows word most name (before.held name 0) (Err stopped) (Ok bytes) leads.finds here) [ inl same ↦ absurd (cc) | inr kept ↦ inr kept ]
all_follow word most (name ∷ later) before now (Err stopped) (Ok want) (inr on) (bytes, others, here, rest, is) =
    elim (whole_follows word most name (before.held name 0) (Ok on.bytes) (Ok bytes) on.reads.finds here) [
      | inl same ↦
          let first : on.bytes ≡ bytes = cc in
          elim (all_follow word (most - length on.bytes) later on.between now (Err stopped) (Ok others) on.others (shown_then word most name later on.bytes bytes before on.between (Ok others) first on.reads.reads rest)) [
            | inl there ↦ absurd (cc)
            | inr kept ↦ inr kept
          ]
      | inr kept ↦ absurd kept
    ]
all_follow word most (name ∷ later) before now (Err stopped) (Err want) (inr on) (inl here) =
    elim (whole_follows word most name (before.held name 0) (Ok on.bytes) (Err want) on.reads.finds here) [ inl same ↦ absurd (cc) | inr kept ↦ absurd kept ]
all_follow word most (name ∷ later) before now (Err stopped) (Err want) (inr on) (inr (bytes, here, rest)) =
    elim (whole_follows word most name (before.held name 0) (Ok on.bytes) (Ok bytes) on.reads.finds here) [
      | inl same ↦
          let first : on.bytes ≡ bytes = cc in
          all_follow word (most - length on.bytes) later on.between now (Err stopped) (Err want) on.others (shown_then word most name later on.bytes bytes before on.between (Err want) first on.reads.reads rest)
      | inr kept ↦ absurd kept
    ]

last_follows : (last : Last) (said : SaidLast last) (before now : Snapshot) (opened shown : Result (GivenLast last) Stopped) → LastLeads last said before now opened → LastShows last said before.held shown → Agree opened shown
last_follows NoMore said before now (Ok given) (Ok want) leads shows = inl refl
last_follows NoMore said before now (Ok given) (Err want) leads shows = absurd shows
last_follows NoMore said before now (Err stopped) shown leads shows = absurd leads
last_follows (Wholes kind) said before now opened shown leads shows = all_follow kind.word kind.longest said before now opened shown leads shows
last_follows Prefix said before now opened shown leads shows = said_follows said before now opened shown leads shows

-- what is shown of the other parts once one was given
shown_behind : (part : Part) (parts : List Part) (last : Last) (said : AllSaid (part ∷ parts) last) (one : Given part) (before between : Snapshot) (shown : Result (AllGiven parts last) Stopped)
    → Leads part said.0 before between (Ok one) → AllShow parts last said.1 (behind_all (part_files part said.0) before.held) shown → AllShow parts last said.1 between.held shown
shown_behind part parts last said one before between shown leads shows =
    subst (λ (h : Holding). AllShow parts last said.1 h shown) (sym (part_behind part said.0 one before between leads)) shows

pub follows_shown : OpeningFollowsShown
follows_shown [] last said before now opened shown lead shows = last_follows last said before now opened shown lead shows
follows_shown (part ∷ parts) last said before now (Ok given) (Ok want) lead (here, rest) =
    elim (part_follows part said.0 before lead.between (Ok given.0) (Ok want.0) lead.leads here) [
      | inl same ↦ elim (follows_shown parts last said.1 lead.between now (Ok given.1) (Ok want.1) lead.others (shown_behind part parts last said given.0 before lead.between (Ok want.1) lead.leads rest)) [
        | inl later ↦
            let first : given.0 ≡ want.0 = cc in
            let second : given.1 ≡ want.1 = cc in
            inl (λ i. Ok (first i, second i))
        | inr kept ↦ absurd kept
      ]
      | inr kept ↦ absurd kept
    ]
follows_shown (part ∷ parts) last said before now (Ok given) (Err want) lead (inl here) =
    elim (part_follows part said.0 before lead.between (Ok given.0) (Err want) lead.leads here) [ inl same ↦ absurd (cc) | inr kept ↦ absurd kept ]
follows_shown (part ∷ parts) last said before now (Ok given) (Err want) lead (inr (one, here, rest)) =
    elim (follows_shown parts last said.1 lead.between now (Ok given.1) (Err want) lead.others (shown_behind part parts last said given.0 before lead.between (Err want) lead.leads rest)) [
      | inl there ↦ absurd (cc)
      | inr kept ↦ absurd kept
    ]
follows_shown (part ∷ parts) last said before now (Err stopped) (Ok want) (inl lead) (here, rest) =
    elim (part_follows part said.0 before now (Err stopped) (Ok want.0) lead here) [ inl same ↦ absurd (cc) | inr kept ↦ inr kept ]
follows_shown (part ∷ parts) last said before now (Err stopped) (Err want) (inl lead) (inl here) =
    elim (part_follows part said.0 before now (Err stopped) (Err want) lead here) [ inl same ↦ let its : stopped ≡ want = cc in inl (ap (λ (s : Stopped). Err s) its) | inr kept ↦ inr kept ]
follows_shown (part ∷ parts) last said before now (Err stopped) (Err want) (inl lead) (inr (one, here, rest)) =
    elim (part_follows part said.0 before now (Err stopped) (Ok one) lead here) [ inl same ↦ absurd (cc) | inr kept ↦ inr kept ]
follows_shown (part ∷ parts) last said before now (Err stopped) (Ok want) (inr (one, goes)) (here, rest) =
    elim (follows_shown parts last said.1 goes.between now (Err stopped) (Ok want.1) goes.others (shown_behind part parts last said one before goes.between (Ok want.1) goes.leads rest)) [
      | inl there ↦ absurd (cc)
      | inr kept ↦ inr kept
    ]
follows_shown (part ∷ parts) last said before now (Err stopped) (Err want) (inr (one, goes)) (inl here) =
    elim (part_follows part said.0 before goes.between (Ok one) (Err want) goes.leads here) [ inl same ↦ absurd (cc) | inr kept ↦ absurd kept ]
follows_shown (part ∷ parts) last said before now (Err stopped) (Err want) (inr (one, goes)) (inr (other, here, rest)) =
    elim (follows_shown parts last said.1 goes.between now (Err stopped) (Err want) goes.others (shown_behind part parts last said one before goes.between (Err want) goes.leads rest)) [
      | inl later ↦
          let its : stopped ≡ want = cc in
          inl (ap (λ (s : Stopped). Err s) its)
      | inr kept ↦ inr kept
    ]
