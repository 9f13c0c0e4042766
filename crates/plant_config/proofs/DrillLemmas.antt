-- The plant of the drill is a plant.
use Rattle.std.proofs.Common.{◌≡◌, ℕ, ◌+◌, ◌<◌, ◌≤◌, ◌&&◌, nat_eq, Bool, true, false, cond, List, [], ◌∷◌, ◌++◌, All, map, find, length, slice_get, is_none, Some, None, zero, suc, codes, refl, sym, ap, subst, ◌∙◌, arith}
use Rattle.std.specs.Cmp.{nat_eq_equiv}
use Rattle.std.specs.Option.{option_map, option_map_or}
use Rattle.std.specs.List.{range_with_len, IsDistinct}
use Rattle.std.specs.List.Sorted.{IsStrictlyIncreasing}
use Rattle.std.proofs.lemmas.Bool.{le-leb, lt-ltb, le-ltb}
use Rattle.std.proofs.lemmas.Bool.Decides.{Decides-eqb}
use Rattle.std.proofs.lemmas.Map.Made.{IsDistinct-from_AllPairs, IsDistinct-from_count}
use Rattle.std.proofs.lemmas.List.Elements.{All-cons, All-nil, All-append}
use Rattle.std.proofs.lemmas.List.FromFn.{length-range_with_len, get_or-range_with_len, length-map-range_with_len, get_or-map-range_with_len}
use Rattle.std.proofs.lemmas.Option.{slice_get-map, slice_get_read}
use Rattle.std.proofs.lemmas.Slice.Eq.{bytes_eq-Decides}
use Rattle.plant_file.specs.Reading.{default_name, destination_letter}
use Rattle.plant_file.specs.Ranges.{IsName}
use Rattle.plant_config.specs.declared.records.Source.{Source}
use Rattle.plant_config.specs.declared.records.Panel.{Panel}
use Rattle.plant_config.specs.Plant.{source_numbers}
use Rattle.plant_config.specs.Sites.{has_number}
use Rattle.plant_config.specs.IsPlant.{AllPlaced, IsOf, IsRemote, IsSource, IsPool, IsDevice, IsMainDest, IsBus, IsLevel, IsPanel, AreTold, AreNamed, AreLinked, IsPlant, is_local}
use Rattle.plant_config.specs.DrillPlant.{drill_panel_limit, drill_level, local_source, remote_source, local_sources, remote_sources, matrix_dest_names, drill_panel, drill_panels, drill_plant}
use Rattle.plant_config.proofs.BenchLemmas.{All-map, server, none_twice}
use Rattle.plant_config.proofs.DefaultNames.{IsName-default, IsDistinct-default}
use Rattle.plant_config.proofs.LevelsOfFile.{map-map}
use Rattle.plant_config.proofs.Pieces.{ArePlacedFrom, placed_append, placed_at}
use Rattle.plant_config.proofs.Words.{IsWords-is_words}

-- What is so of each number below a count is so of what is made of them, one behind the other.
placed_range : {X : Type 0} (P : ℕ → X → Type 0) (make : ℕ → X) (from start count : ℕ) → ((k : ℕ) → k < count → P (from + k) (make (start + k))) → ArePlacedFrom P from (map make (range_with_len start count))
placed_range P make from start zero each = tt
placed_range P make from start (suc count) each =
    let here : from + 0 ≡ from = omega arith in
    let first : start + 0 ≡ start = omega arith in (
      subst (λ n. P n (make start)) here (subst (λ n. P (from + 0) (make n)) first (each 0 (omega arith))),
      placed_range P make (from + 1) (start + 1) count (λ k below.
          let next : from + suc k ≡ from + 1 + k = omega arith in
          let second : start + suc k ≡ start + 1 + k = omega arith in
          subst (λ n. P n (make (start + 1 + k))) next (subst (λ n. P (from + suc k) (make n)) second (each (suc k) (omega arith)))),
    )

placed_made : {X : Type 0} (P : ℕ → X → Type 0) (make : ℕ → X) (from count : ℕ) → ((k : ℕ) → k < count → P (from + k) (make k)) → ArePlacedFrom P from (map make (range_with_len 0 count))
placed_made P make from count each =
    placed_range P make from 0 count (λ k below. let e : k ≡ 0 + k = omega arith in subst (λ n. P (from + k) (make n)) e (each k below))

placed_joined : {X : Type 0} (P : ℕ → X → Type 0) (from to : ℕ) (xs ys : List X) → from + length xs ≡ to → ArePlacedFrom P from xs → ArePlacedFrom P to ys → ArePlacedFrom P from (xs ++ ys)
placed_joined P from to xs ys is these those = placed_append P from xs ys these (subst (λ n. ArePlacedFrom P n ys) (sym is) those)

-- what is made of a number is at its place
made_at : {X : Type 0} (make : ℕ → X) (count place : ℕ) → place < count → slice_get (map make (range_with_len 0 count)) place ≡ Some (make place)
made_at make count place below =
    slice_get-map make (range_with_len 0 count) place
    ∙ ap (option_map make) (slice_get_read (range_with_len 0 count) count place place (sym (length-range_with_len 0 count)) below (omega (arith, get_or-range_with_len 0 count place place below)))

slice_get-front : {X : Type 0} (xs ys : List X) (k : ℕ) → k < length xs → slice_get (xs ++ ys) k ≡ slice_get xs k
slice_get-front [] ys k low = absurd (omega arith)
slice_get-front (x ∷ xs) ys zero low = refl
slice_get-front (x ∷ xs) ys (suc k) low = slice_get-front xs ys k (omega arith)

-- the level of a source of matrix 0, and of matrix 1
find-first : {X : Type 0} (test : X → Bool) (x : X) (xs : List X) → test x ≡ true → find test (x ∷ xs) ≡ Some x
find-first test x xs passes = ap (λ one. cond one (Some x) (find test xs)) passes

find-second : {X : Type 0} (test : X → Bool) (x y : X) (xs : List X) → test x ≡ false → test y ≡ true → find test (x ∷ y ∷ xs) ≡ Some y
find-second test x y xs fails passes = ap (λ one. cond one (Some x) (find test (y ∷ xs))) fails ∙ find-first test y xs passes

level_first : (number : ℕ) → number < 256 → find (has_number source_numbers number) (drill_level 0 ∷ drill_level 1 ∷ []) ≡ Some (drill_level 0)
level_first number below =
    find-first (has_number source_numbers number) (drill_level 0) (drill_level 1 ∷ []) (λ i. le-leb 0 number (omega arith) i && lt-ltb number 256 below i)

level_second : (number : ℕ) → 256 ≤ number → number < 512 → find (has_number source_numbers number) (drill_level 0 ∷ drill_level 1 ∷ []) ≡ Some (drill_level 1)
level_second number low high =
    find-second (has_number source_numbers number) (drill_level 0) (drill_level 1) [] (λ i. le-leb 0 number (omega arith) i && le-ltb number 256 low i) (λ i. le-leb 256 number low i && lt-ltb number 512 high i)

module _ (panels : ℕ) where
  of_first : (number : ℕ) → number < 256 → IsOf source_numbers (drill_plant panels) 0 0 number
  unfolding drill_plant
  of_first number below = rw (level_first number below) (refl, refl)

  of_second : (number : ℕ) → 256 ≤ number → number < 512 → IsOf source_numbers (drill_plant panels) 1 0 number
  unfolding drill_plant
  of_second number low high = rw (level_second number low high) (refl, refl)

  local_is : (number : ℕ) → number < 256 → is_local (drill_plant panels) number ≡ true
  unfolding drill_plant local_sources
  local_is number below =
      ap (λ found. option_map_or (λ (source : Source). is_none source.pool) found false)
      (slice_get-front (local_sources 0 256) (local_sources 256 192 ++ remote_sources) number (omega (arith, length-map-range_with_len (local_source 0) 0 256)) ∙ made_at (local_source 0) 256 number below)

  remote_is : (origin : ℕ) → origin < 64 → IsRemote (drill_plant panels) origin (448 + origin) 0
  unfolding drill_plant
  remote_is origin below = record {
    local = local_is origin (omega arith);
    tied = record { from = of_first origin (omega arith); to = of_second (448 + origin) (omega arith) (omega arith) };
  }

  -- Each source has its name and its origin.
  local_so : (first number : ℕ) → number < 256 → IsSource (drill_plant panels) (first + number) (local_source first number)
  local_so first number below = record { name = IsName-default 83 number (omega arith, omega arith) (omega arith); origin = refl }

  remote_so : (origin : ℕ) → origin < 64 → IsSource (drill_plant panels) (448 + origin) (remote_source origin)
  remote_so origin below = record { name = IsName-default 83 (192 + origin) (omega arith, omega arith) (omega arith); origin = remote_is origin below }

  each_source : ArePlacedFrom (IsSource (drill_plant panels)) 0 (local_sources 0 256 ++ (local_sources 256 192 ++ remote_sources))
  unfolding local_sources remote_sources
  each_source =
      placed_joined (IsSource (drill_plant panels)) 0 256 (local_sources 0 256) (local_sources 256 192 ++ remote_sources) (length-map-range_with_len (local_source 0) 0 256)
      (placed_made (IsSource (drill_plant panels)) (local_source 0) 0 256 (λ k below. local_so 0 k below))
      (placed_joined (IsSource (drill_plant panels)) 256 448 (local_sources 256 192) remote_sources (ap (λ n. 256 + n) (length-map-range_with_len (local_source 256) 0 192))
      (placed_made (IsSource (drill_plant panels)) (local_source 256) 256 192 (λ k below. local_so 256 k (omega arith)))
      (placed_made (IsSource (drill_plant panels)) remote_source 448 64 (λ k below. remote_so k below)))

  dest_named : All IsName matrix_dest_names
  unfolding matrix_dest_names
  dest_named = All-map (default_name destination_letter) IsName 256 (λ number below. IsName-default 68 number (omega arith, omega arith) (omega arith))

  told : All (AreTold (drill_plant panels)) (drill_plant panels).levels
  unfolding drill_plant local_sources remote_sources matrix_dest_names
  told =
      All-cons (AreTold (drill_plant panels)) (drill_level 0) (drill_level 1 ∷ []) (record { sources = IsDistinct-default 83 256 (omega arith); dests = IsDistinct-default 68 256 (omega arith) })
      (All-cons (AreTold (drill_plant panels)) (drill_level 1) [] (record { sources = IsDistinct-default 83 256 (omega arith); dests = IsDistinct-default 68 256 (omega arith) }) (All-nil (AreTold (drill_plant panels))))

  named : AreNamed (drill_plant panels)
  unfolding drill_plant local_sources remote_sources matrix_dest_names
  named = record {
    sources = refl;
    each_source = placed_at (IsSource (drill_plant panels)) (local_sources 0 256 ++ (local_sources 256 192 ++ remote_sources)) each_source;
    dests = refl;
    each_dest = All-append IsName matrix_dest_names matrix_dest_names dest_named dest_named;
    told = told;
  }

  -- the two mixers
  each_device : AllPlaced (IsDevice (drill_plant panels)) (drill_plant panels).devices
  unfolding drill_plant
  each_device zero = record { output = local_is 250 (omega arith); main = refl; buses = refl }
  each_device (suc zero) = record { output = local_is 251 (omega arith); main = refl; buses = refl }
  each_device (suc (suc place)) = tt

  buses : All (IsBus (drill_plant panels)) (drill_plant panels).buses
  unfolding drill_plant
  buses =
      All-cons (IsBus (drill_plant panels)) (record { device = 0; dest = 250; switch = None }) (record { device = 1; dest = 251; switch = None } ∷ []) (record { device = omega arith; dest = refl; switch = tt })
      (All-cons (IsBus (drill_plant panels)) (record { device = 1; dest = 251; switch = None }) [] (record { device = omega arith; dest = refl; switch = tt }) (All-nil (IsBus (drill_plant panels))))

  linked : AreLinked (drill_plant panels)
  unfolding drill_plant
  linked = record {
    pools = ((omega arith, omega arith), All-cons IsPool _ [] (record { from = (omega arith, omega arith); to = (omega arith, omega arith); other = λ same. absurd (omega (arith, same)); ties = (omega arith, omega arith); reserve = omega arith }) (All-nil IsPool));
    pools_differ = IsDistinct-from_AllPairs bytes_eq-Decides ((0 ∷ 1 ∷ 0 ∷ []) ∷ []) (λ i j given before within. absurd (omega arith));
    each_device = each_device;
    devices = omega arith;
    outputs_differ = IsDistinct-from_count nat_eq_equiv (250 ∷ 251 ∷ []) refl;
    buses = ((omega arith, omega arith), buses);
    buses_differ = IsDistinct-from_count nat_eq_equiv (250 ∷ 251 ∷ []) refl;
    air = ((omega arith, omega arith), All-cons (IsMainDest (drill_plant panels)) 0 [] refl (All-nil (IsMainDest (drill_plant panels))));
    air_differs = IsDistinct-from_count nat_eq_equiv (0 ∷ []) refl;
    preview = ((omega arith, omega arith), All-nil (IsMainDest (drill_plant panels)));
    preview_differs = none_twice Decides-eqb;
    displays = ((omega arith, omega arith), λ place given within. absurd (omega arith));
    displays_differ = none_twice bytes_eq-Decides;
  }

-- The panels are within their limits, and have ports of their own.
each_panel : (panels : ℕ) → panels ≤ drill_panel_limit → All IsPanel (drill_panels panels)
unfolding drill_panels
each_panel panels most = All-map drill_panel IsPanel panels (λ number below. record { device = omega arith; port = omega arith })

ports_differ : (panels : ℕ) → IsDistinct nat_eq (map (λ (panel : Panel). panel.port) (drill_panels panels))
unfolding drill_panels
ports_differ panels = rw (map-map (λ (panel : Panel). panel.port) drill_panel (range_with_len 0 panels))
    (IsDistinct-from_AllPairs Decides-eqb (map (λ number. 9000 + number) (range_with_len 0 panels)) (λ i j d before within same.
    let many = length-map-range_with_len (λ number. 9000 + number) 0 panels in
    let at_i = get_or-map-range_with_len (λ number. 9000 + number) 0 panels i i d (omega (arith, many)) (omega arith) in
    let at_j = get_or-map-range_with_len (λ number. 9000 + number) 0 panels j j d (omega (arith, many)) (omega arith) in
    absurd (omega (arith, at_i, at_j, same))))

length-panels : (panels : ℕ) → length (drill_panels panels) ≡ panels
unfolding drill_panels
length-panels panels = length-map-range_with_len drill_panel 0 panels

pub drill_is_plant : (panels : ℕ) → 1 ≤ panels → panels ≤ drill_panel_limit → IsPlant (drill_plant panels)
unfolding drill_plant
drill_is_plant panels some most =
    let many : length (drill_panels panels) ≡ panels = length-panels panels in
    record {
      each_level = All-cons IsLevel (drill_level 0) (drill_level 1 ∷ []) (level 0 (omega arith)) (All-cons IsLevel (drill_level 1) [] (level 1 (omega arith)) (All-nil IsLevel));
      in_order = rise;
      dests_numbered = (refl, (refl, tt));
      sources_numbered = (refl, (refl, tt));
      some_level = omega arith;
      levels = omega arith;
      sources = omega arith;
      destinations = omega arith;
      each_panel = each_panel panels most;
      some_panel = omega (arith, many);
      panels = omega (arith, many);
      ports_differ = ports_differ panels;
      title = IsWords-is_words 1 40 (codes "Drill") refl;
      server = server;
      named = named panels;
      linked = linked panels;
    }
  where
    level : (matrix : ℕ) → matrix < 16 → IsLevel (drill_level matrix)
    level matrix low = record { matrix = omega arith; level = omega arith; destinations = record { some = omega arith; most = omega arith }; sources = record { some = omega arith; most = omega arith } }

    rise : IsStrictlyIncreasing (0 ∷ 16 ∷ [])
    rise zero below = omega arith
    rise (suc k) below = absurd (omega arith)
