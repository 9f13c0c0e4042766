-- A script has one replay text or one first bad line.
use Rattle.std.proofs.Common.{◌≡◌, ℕ, suc, ◌+◌, ◌⊎◌, inl, inr, Bool, true, false, List, [], ◌∷◌, ◌++◌, length, refl, sym, ◌∙◌, ap, subst}
use Rattle.std.specs.Prelude.{not, if◌then◌else◌}
use Rattle.std.specs.List.{AllByRecursion}
use Rattle.std.proofs.lemmas.List.Elements.{All-from_recursion}
use Rattle.plant_config.specs.Plant.{PlantData}
use Rattle.record_replay.specs.Script.{Work, IsOfPlant, lines, is_skipped, worked, LineSpells, LinesSpell, IsFirstBad}
use Rattle.record_replay.specs.Replay.{IsReplay, begun}
use Rattle.record_replay.proofs.LineSpellsLemmas.{one_work}
use Rattle.record_replay.proofs.SpelledLines.{spelled_line}
use Rattle.record_replay.proofs.LinesSpellLemmas.{worked-append}
use Rattle.record_replay.proofs.WorksLemmas.{settled-begun, works_exist, one_output}

-- A line that isn't skipped is worked, and one that is isn't.
worked-kept : (line : List ℕ) (ls : List (List ℕ)) → is_skipped line ≡ false → worked (line ∷ ls) ≡ line ∷ worked ls
worked-kept line ls kept = ap (λ (b : Bool). if not b then line ∷ worked ls else worked ls) kept

worked-skipped : (line : List ℕ) (ls : List (List ℕ)) → is_skipped line ≡ true → worked (line ∷ ls) ≡ worked ls
worked-skipped line ls skipped = ap (λ (b : Bool). if not b then line ∷ worked ls else worked ls) skipped

module _ (plant : PlantData) where
  -- Lines spell one list of works.
  pub one_spelling : (ls : List (List ℕ)) (ms ns : List Work) → LinesSpell plant ls ms → LinesSpell plant ls ns → ms ≡ ns
  one_spelling [] [] [] spelled_ms spelled_ns = refl
  one_spelling [] [] (n ∷ ns) spelled_ms spelled_ns = absurd spelled_ns
  one_spelling [] (m ∷ ms) ns spelled_ms spelled_ns = absurd spelled_ms
  one_spelling (l ∷ ls) [] ns spelled_ms spelled_ns = absurd spelled_ms
  one_spelling (l ∷ ls) (m ∷ ms) [] spelled_ms spelled_ns = absurd spelled_ns
  one_spelling (l ∷ ls) (m ∷ ms) (n ∷ ns) spelled_ms spelled_ns =
      λ i. one_work plant l m n spelled_ms.0 spelled_ns.0 i ∷ one_spelling ls ms ns spelled_ms.1 spelled_ns.1 i

  -- The works that lines spell are of the plant.
  pub of_plant : (ls : List (List ℕ)) (works : List Work) → LinesSpell plant ls works → AllByRecursion (IsOfPlant plant) works
  of_plant [] [] spelled = tt
  of_plant [] (first ∷ works) spelled = absurd spelled
  of_plant (front ∷ ls) [] spelled = absurd spelled
  of_plant (front ∷ ls) (first ∷ works) spelled = (spelled.0.of_plant, of_plant ls works spelled.1)

  -- A script has one replay text,
  pub one_text : (script a b : List ℕ) → IsReplay plant script a → IsReplay plant script b → a ≡ b
  one_text script a b is_a is_b =
      let works : is_b.works ≡ is_a.works = one_spelling (worked (lines script)) is_b.works is_a.works is_b.spelled is_a.spelled in
      (one_output plant is_a.works (begun plant) is_a.last is_b.last a b is_a.all_work (rw works at is_b.all_work)).0

  -- A line among lines that spell works spells one.
  spells_one : (before : List (List ℕ)) (line : List ℕ) (after : List (List ℕ)) (ms : List Work) → LinesSpell plant (before ++ line ∷ after) ms → (w : Work) × LineSpells plant line w
  spells_one [] line after [] spelled = absurd spelled
  spells_one [] line after (m ∷ ms) spelled = (m, spelled.0)
  spells_one (l ∷ before) line after [] spelled = absurd spelled
  spells_one (l ∷ before) line after (m ∷ ms) spelled = spells_one before line after ms spelled.1

  -- A line that isn't skipped, among lines whose worked ones spell works, spells one.
  worked_spells : (before : List (List ℕ)) (line : List ℕ) (after : List (List ℕ)) (ms : List Work) → is_skipped line ≡ false
      → LinesSpell plant (worked (before ++ line ∷ after)) ms → (w : Work) × LineSpells plant line w
  worked_spells before line after ms kept spelled =
      let same : worked (before ++ line ∷ after) ≡ worked before ++ line ∷ worked after =
      worked-append before (line ∷ after) ∙ ap (λ (ls : List (List ℕ)). worked before ++ ls) (worked-kept line after kept) in
      spells_one (worked before) line (worked after) ms (subst (λ (ls : List (List ℕ)). LinesSpell plant ls ms) same spelled)

  -- Where all lines that aren't skipped spell works, none is bad.
  pub none_bad : (script : List ℕ) (works : List Work) (number : ℕ) → LinesSpell plant (worked (lines script)) works → IsFirstBad plant script number → ⊥
  none_bad script works number spelled bad =
      let one = worked_spells bad.before bad.line bad.after works bad.not_skipped (subst (λ (ls : List (List ℕ)). LinesSpell plant (worked ls) works) bad.place spelled) in
      bad.refused one.0 one.1

  -- and then no first bad line.
  pub apart : (script output : List ℕ) (number : ℕ) → IsReplay plant script output → IsFirstBad plant script number → ⊥
  apart script output number replay bad = none_bad script replay.works number replay.spelled bad

  -- The worked lines behind a first one spell works too.
  spelled_later : (line : List ℕ) (ls : List (List ℕ)) (ms : List Work) → LinesSpell plant (worked (line ∷ ls)) ms → (ns : List Work) × LinesSpell plant (worked ls) ns
  spelled_later line ls ms spelled =
      elim (is_skipped line) as (λ b. LinesSpell plant (if not b then line ∷ worked ls else worked ls) ms → (ns : List Work) × LinesSpell plant (worked ls) ns) [
        | true ↦ λ spelled. (ms, spelled)
        | false ↦ λ spelled. behind ms spelled
      ] spelled
    where
      behind : (ms : List Work) → LinesSpell plant (line ∷ worked ls) ms → (ns : List Work) × LinesSpell plant (worked ls) ns
      behind [] spelled = absurd spelled
      behind (m ∷ ms) spelled = (ms, spelled.1)

  -- Two first bad lines have as many lines before them.
  same_place : (xs ys : List (List ℕ)) (x y : List ℕ) (xs' ys' : List (List ℕ)) (ms ns : List Work) → xs ++ x ∷ xs' ≡ ys ++ y ∷ ys'
      → LinesSpell plant (worked xs) ms → LinesSpell plant (worked ys) ns → is_skipped x ≡ false → is_skipped y ≡ false
      → ((w : Work) → LineSpells plant x w → ⊥) → ((w : Work) → LineSpells plant y w → ⊥) → length xs ≡ length ys
  same_place [] [] x y xs' ys' ms ns same spelled_xs spelled_ys kept_x kept_y bad_x bad_y = refl
  same_place [] (l ∷ ys) x y xs' ys' ms ns same spelled_xs spelled_ys kept_x kept_y bad_x bad_y =
      let head : x ≡ l = cc in
      let one = worked_spells [] l ys ns (subst (λ (line : List ℕ). is_skipped line ≡ false) head kept_x) spelled_ys in
      absurd (bad_x one.0 (subst (λ (line : List ℕ). LineSpells plant line one.0) (sym head) one.1))
  same_place (l ∷ xs) [] x y xs' ys' ms ns same spelled_xs spelled_ys kept_x kept_y bad_x bad_y =
      let head : y ≡ l = cc in
      let one = worked_spells [] l xs ms (subst (λ (line : List ℕ). is_skipped line ≡ false) head kept_y) spelled_xs in
      absurd (bad_y one.0 (subst (λ (line : List ℕ). LineSpells plant line one.0) (sym head) one.1))
  same_place (k ∷ xs) (l ∷ ys) x y xs' ys' ms ns same spelled_xs spelled_ys kept_x kept_y bad_x bad_y =
      let rest : xs ++ x ∷ xs' ≡ ys ++ y ∷ ys' = cc in
      let later_xs = spelled_later k xs ms spelled_xs in
      let later_ys = spelled_later l ys ns spelled_ys in
      ap suc (same_place xs ys x y xs' ys' later_xs.0 later_ys.0 rest later_xs.1 later_ys.1 kept_x kept_y bad_x bad_y)

  -- There is one first bad line at most,
  pub one_line : (script : List ℕ) (m n : ℕ) → IsFirstBad plant script m → IsFirstBad plant script n → m ≡ n
  one_line script m n a b =
      a.counted
      ∙ ap (λ (k : ℕ). k + 1) (
      same_place a.before b.before a.line b.line a.after b.after a.works b.works (sym a.place ∙ b.place) a.spelled b.spelled a.not_skipped b.not_skipped a.refused b.refused
      )
      ∙ sym b.counted

  -- One of these lines is the first that isn't skipped and spells no work.
  record FirstBad (ls : List (List ℕ)) : Type 0 where
    before : List (List ℕ)
    works : List Work
    spelled : LinesSpell plant (worked before) works
    line : List ℕ
    after : List (List ℕ)
    place : ls ≡ before ++ line ∷ after
    not_skipped : is_skipped line ≡ false
    refused : (work : Work) → LineSpells plant line work → ⊥

  -- A line more stands in front, which is skipped or spells a work.
  bad_later : (line : List ℕ) (ls : List (List ℕ)) (bad : FirstBad ls) (works : List Work) → LinesSpell plant (worked (line ∷ bad.before)) works → FirstBad (line ∷ ls)
  bad_later line ls bad works spelled = record {
    before = line ∷ bad.before;
    works = works;
    spelled = spelled;
    line = bad.line;
    after = bad.after;
    place = ap (λ (rest : List (List ℕ)). line ∷ rest) bad.place;
    not_skipped = bad.not_skipped;
    refused = bad.refused;
  }

  -- The worked ones of lines spell works, or one of them is the first bad one.
  first_bad : (ls : List (List ℕ)) → ((works : List Work) × LinesSpell plant (worked ls) works) ⊎ FirstBad ls
  first_bad [] = inl ([], tt)
  first_bad (line ∷ ls) = at_line (is_skipped line) refl (first_bad ls)
    where
      at_line : (b : Bool) → is_skipped line ≡ b → ((works : List Work) × LinesSpell plant (worked ls) works) ⊎ FirstBad ls
          → ((works : List Work) × LinesSpell plant (worked (line ∷ ls)) works) ⊎ FirstBad (line ∷ ls)
      at_line true skipped (inl all) = inl (all.0, subst (λ (ls : List (List ℕ)). LinesSpell plant ls all.0) (sym (worked-skipped line ls skipped)) all.1)
      at_line true skipped (inr bad) =
          inr (bad_later line ls bad bad.works (subst (λ (ls : List (List ℕ)). LinesSpell plant ls bad.works) (sym (worked-skipped line bad.before skipped)) bad.spelled))
      at_line false kept rest = elim (spelled_line plant line) [
        | inr none ↦ inr (record {
          before = [];
          works = [];
          spelled = tt;
          line = line;
          after = ls;
          place = refl;
          not_skipped = kept;
          refused = λ work spells. none (work, spells);
        })
        | inl one ↦ elim rest [
          | inl all ↦ inl (one.0 ∷ all.0, subst (λ (ls : List (List ℕ)). LinesSpell plant ls (one.0 ∷ all.0)) (sym (worked-kept line ls kept)) (one.1, all.1))
          | inr bad ↦ inr (
              bad_later line ls bad (one.0 ∷ bad.works)
              (subst (λ (ls : List (List ℕ)). LinesSpell plant ls (one.0 ∷ bad.works)) (sym (worked-kept line bad.before kept)) (one.1, bad.spelled))
              )
        ]
      ]

  -- and where there is none, all works can be done.
  pub always : (script : List ℕ) → ((output : List ℕ) × IsReplay plant script output) ⊎ ((number : ℕ) × IsFirstBad plant script number)
  always script = elim (first_bad (lines script)) [
    | inl all ↦
        let done = works_exist plant all.0 (begun plant) (settled-begun plant) (All-from_recursion _ all.0 (of_plant (worked (lines script)) all.0 all.1)) in
        inl (done.0, record { works = all.0; spelled = all.1; last = done.1; all_work = done.2 })
    | inr bad ↦ inr (
      length bad.before + 1,
      record {
        before = bad.before;
        works = bad.works;
        spelled = bad.spelled;
        line = bad.line;
        after = bad.after;
        place = bad.place;
        not_skipped = bad.not_skipped;
        refused = bad.refused;
        counted = refl;
      },
    )
  ]
