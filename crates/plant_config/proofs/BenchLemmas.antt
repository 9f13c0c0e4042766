-- The bench plant is a plant.
use Rattle.std.proofs.Common.{◌≡◌, ℕ, Bool, ◌<◌, [], ◌∷◌, All, map, slice_get, Some, None, true, false, refl, sym, subst, inl, inr, arith}
use Rattle.std.specs.Bool.{Decides}
use Rattle.std.specs.Cmp.{nat_eq_equiv}
use Rattle.std.specs.List.{range_with_len, IsDistinct}
use Rattle.std.proofs.lemmas.Bool.{cases_lt}
use Rattle.std.proofs.lemmas.Bool.Decides.{Decides-eqb}
use Rattle.std.proofs.lemmas.Slice.Eq.{bytes_eq-Decides}
use Rattle.std.proofs.lemmas.Map.Made.{IsDistinct-from_AllPairs, IsDistinct-from_count}
use Rattle.std.proofs.lemmas.List.Elements.{All-cons, All-nil}
use Rattle.std.proofs.lemmas.List.FromFn.{length-range_with_len, get_or-range_with_len, length-map-range_with_len, get_or-map-range_with_len}
use Rattle.std.proofs.lemmas.Option.{slice_get-map, slice_get_read, slice_get_past}
use Rattle.plant_file.specs.Reading.{default_name, source_letter, destination_letter, default_server}
use Rattle.plant_file.specs.Ranges.{IsName, IsServer}
use Rattle.plant_config.specs.declared.records.Source.{Source}
use Rattle.plant_config.specs.IsPlant.{AllPlaced, IsSource, IsLevel, IsPanel, AreTold, AreNamed, AreLinked, IsPlant}
use Rattle.plant_config.specs.Bench.{bench, bench_sources, bench_dest_names}
use Rattle.plant_config.proofs.Words.{IsWords-is_words}
use Rattle.plant_config.proofs.DefaultNames.{IsName-default, IsDistinct-default}

-- What is so of each number below a count is so of each thing that is made of its number, at its place.
AllPlaced-map : {X : Type 0} (make : ℕ → X) (IsSo : ℕ → X → Type 0) (count : ℕ) → ((number : ℕ) → number < count → IsSo number (make number)) → AllPlaced IsSo (map make (range_with_len 0 count))
AllPlaced-map make IsSo count are place = rw (slice_get-map make (range_with_len 0 count) place)
    (elim (cases_lt place count) [
      | inl below ↦
          let found : slice_get (range_with_len 0 count) place ≡ Some place = slice_get_read (range_with_len 0 count) count place place (sym (length-range_with_len 0 count)) below (omega (arith, get_or-range_with_len 0 count place place below)) in
          rw found (are place below)
      | inr past ↦
          let none : slice_get (range_with_len 0 count) place ≡ None = slice_get_past (range_with_len 0 count) place (omega (arith, length-range_with_len 0 count)) in
          rw none tt
    ])

pub All-map : {X : Type 0} (make : ℕ → X) (IsSo : X → Type 0) (count : ℕ) → ((number : ℕ) → number < count → IsSo (make number)) → All IsSo (map make (range_with_len 0 count))
All-map make IsSo count are place given within =
    let below : place < count = omega (arith, length-map-range_with_len make 0 count) in
    subst IsSo (sym (get_or-map-range_with_len make 0 count place place given below (omega arith))) (are place below)

told : All (AreTold bench) bench.levels
unfolding bench bench_sources bench_dest_names
told = All-cons (AreTold bench) _ [] (record { sources = IsDistinct-default 83 32 (omega arith); dests = IsDistinct-default 68 32 (omega arith) }) (All-nil (AreTold bench))

named : AreNamed bench
unfolding bench bench_sources bench_dest_names
named = record {
  sources = refl;
  each_source = AllPlaced-map (λ (number : ℕ). let source : Source = record { name = default_name source_letter number; origin = number; pool = None } in source) (IsSource bench) 32 (λ number below. record { name = IsName-default 83 number (omega arith, omega arith) (omega arith); origin = refl });
  dests = refl;
  each_dest = All-map (default_name destination_letter) IsName 32 (λ number below. IsName-default 68 number (omega arith, omega arith) (omega arith));
  told = told;
}

pub server : IsServer default_server
server = record {
  listen = IsWords-is_words 1 64 default_server.listen refl;
  display = IsWords-is_words 1 64 default_server.display refl;
  idle_ms = (omega arith, omega arith);
  idle_limit = (omega arith, omega arith);
  turns = (omega arith, omega arith);
  sessions = (omega arith, omega arith);
  refresh_every = (omega arith, omega arith);
  brightness = (omega arith, omega arith);
}

pub none_twice : {X : Type 0} {eq : X → X → Bool} → ((x y : X) → Decides (eq x y) (x ≡ y)) → IsDistinct eq []
none_twice same = IsDistinct-from_AllPairs same [] (λ i j given before within. absurd (omega arith))

panels : All IsPanel bench.panels
unfolding bench
panels = All-cons IsPanel (record { device = 1; port = 9001; master = false }) (record { device = 2; port = 9002; master = true } ∷ []) (record { device = omega arith; port = omega arith })
    (All-cons IsPanel (record { device = 2; port = 9002; master = true }) [] (record { device = omega arith; port = omega arith }) (All-nil IsPanel))

linked : AreLinked bench
unfolding bench
linked = record {
  pools = ((omega arith, omega arith), λ place given within. absurd (omega arith));
  pools_differ = none_twice bytes_eq-Decides;
  each_device = λ place. tt;
  devices = omega arith;
  outputs_differ = none_twice Decides-eqb;
  buses = ((omega arith, omega arith), λ place given within. absurd (omega arith));
  buses_differ = none_twice Decides-eqb;
  air = ((omega arith, omega arith), λ place given within. absurd (omega arith));
  air_differs = none_twice Decides-eqb;
  preview = ((omega arith, omega arith), λ place given within. absurd (omega arith));
  preview_differs = none_twice Decides-eqb;
  displays = ((omega arith, omega arith), λ place given within. absurd (omega arith));
  displays_differ = none_twice bytes_eq-Decides;
}

pub bench_is_plant : IsPlant bench
unfolding bench
bench_is_plant = record {
  each_level = All-cons IsLevel _ [] (record { matrix = omega arith; level = omega arith; destinations = record { some = omega arith; most = omega arith }; sources = record { some = omega arith; most = omega arith } }) (All-nil IsLevel);
  in_order = λ k below. absurd (omega arith);
  dests_numbered = (refl, tt);
  sources_numbered = (refl, tt);
  some_level = omega arith;
  levels = omega arith;
  sources = omega arith;
  destinations = omega arith;
  each_panel = panels;
  some_panel = omega arith;
  panels = omega arith;
  ports_differ = IsDistinct-from_count nat_eq_equiv (9001 ∷ 9002 ∷ []) refl;
  title = IsWords-is_words 1 40 bench.title refl;
  server = server;
  named = named;
  linked = linked;
}
