-- The tap lists after a destination comes under another head.
use Rattle.std.proofs.Common.{◌≡◌, ◌≢◌, ◌⊎◌, ℕ, ◌<◌, ◌≤◌, List, [], ◌∷◌, length, replicate, get_or, Option, Some, None, inl, inr, refl, sym, ap, ◌∙◌, arith, length-set}
use Rattle.std.proofs.lemmas.Bool.{cases_eq, cases_lt}
use Rattle.std.proofs.lemmas.List.{get_or_past, get_or-replicate, length-map}
use Rattle.std.proofs.lemmas.Option.{unwrap_or-slice_get, slice_get_past}
use Rattle.std.proofs.Math.ListN.{length-replicate}
use Rattle.std.specs.List.{Contains}
use Rattle.std.specs.Option.{option_map, option_and_then}
use Rattle.std.specs.FinMap as finite
use Rattle.std.specs.Ordering.{nat_cmp}
use Rattle.number_tables.specs.Table.{put}
use Rattle.number_tables.proofs.PutLemmas.{get-put_other}
use Rattle.tap_lists.specs.Lists.{Lists, list_of, linked, unlinked, without, IsUnder, IsLoose, IsHeadOf}
use Rattle.tap_lists.specs.Laws.{PutsFirst, TakesOut}
use Rattle.plant_config.specs.Plant.{PlantData, sources_of, destinations_of}
use Rattle.plant_config.specs.IsPlant.{IsPlant}
use Rattle.plant_config.specs.Sources.{origin_of}
use Rattle.plant_config.specs.declared.records.Source.{Source}
use Rattle.crosspoint_state.specs.declared.spot.Spot.{Spot}
use Rattle.crosspoint_state.specs.Crosspoints.{Crosspoints}
use Rattle.crosspoint_state.specs.Taps.{origin_at, AreTapsOf}
use Rattle.crosspoint_state.specs.TapsInside.{Loosens, Moves}

some_number : (a b : ℕ) → Some a ≡ Some b → a ≡ b
some_number a b e = cc

-- a plant has no source past its count, and so no origin of one
pub origin_past : (plant : PlantData) → IsPlant plant → (source : ℕ) → sources_of plant ≤ source → origin_of plant source ≡ None
origin_past plant is source past =
    ap (option_map (λ (found : Source). found.origin)) (slice_get_past plant.sources source (omega (arith, is.named.sources, past)))

-- the origin of a source, with the spot that has it
abbrev pub origin_in : PlantData → Option Spot → Option ℕ
origin_in plant spot = option_and_then (origin_of plant) (option_map (λ (spot : Spot). spot.source) spot)

empty_at : (count head : ℕ) → (head < count) ⊎ (count ≤ head) → get_or {A = List ℕ} (replicate count []) head [] ≡ []
empty_at count head (inl below) = get_or-replicate {A = List ℕ} count head [] [] below
empty_at count head (inr past) = get_or_past {X = List ℕ} (replicate count []) head [] (omega (arith, length-replicate {A = List ℕ} count [], past))

-- nothing is under any head
nothing_under : (count : ℕ) (taps : Lists) → taps.by_head ≡ replicate count [] → (head dest : ℕ) → IsUnder taps head dest → ⊥
nothing_under count taps is head dest under =
    let none : list_of taps head ≡ [] = unwrap_or-slice_get taps.by_head head [] ∙ ap (λ (lists : List (List ℕ)). get_or lists head []) is ∙ empty_at count head (cases_lt head count) in
    let c : Contains [] dest = rw none at under in
    omega (arith, c.1)

pub taps_empty : (plant : PlantData) (taps : Lists) → taps.by_head ≡ replicate (sources_of plant) [] → taps.members ≡ destinations_of plant → AreTapsOf plant finite.empty taps
taps_empty plant taps heads members = record {
  heads = ap length heads ∙ length-replicate (sources_of plant) [];
  members = members;
  each = λ dest head. (λ e. none dest head e, λ under. absurd (nothing_under (sources_of plant) taps heads head dest under));
}
  where
    none : (dest head : ℕ) → origin_at plant finite.empty dest ≡ Some head → IsUnder taps head dest
    none dest head e =
        let parked : origin_at plant finite.empty dest ≡ None = ap (origin_in plant) (finite.get-empty nat_cmp dest) in
        cc

pub loosens_linked : (taps : Lists) (dest : ℕ) → TakesOut taps (unlinked taps dest) dest → Loosens taps (unlinked taps dest) dest
loosens_linked taps dest out = record {
  loose = out.loose;
  leaves = record {
    heads = length-map taps.by_head (without dest);
    members = refl;
    others = λ head other apart. out.under head other apart;
  };
}

pub loosens_loose : (taps : Lists) (dest : ℕ) → IsHeadOf taps dest None → Loosens taps taps dest
loosens_loose taps dest none = record {
  loose = λ head under. let e : None ≡ Some head = (none head).1 under in cc;
  leaves = record { heads = refl; members = refl; others = λ head other apart. (λ under. under, λ under. under) };
}

pub moves_linked : (taps : Lists) (head dest : ℕ) → IsLoose taps dest → PutsFirst taps (linked taps head dest) head dest → Moves taps (linked taps head dest) dest (Some head)
moves_linked taps head dest loose puts = record {
  here = λ other. (
    λ e. (puts.under other dest).1 (inl (sym (some_number head other e), refl)),
    λ under. here other ((puts.under other dest).0 under),
  );
  leaves = record {
    heads = length-set taps.by_head head (dest ∷ list_of taps head);
    members = refl;
    others = λ other x apart. (λ under. was other x apart ((puts.under other x).0 under), λ under. (puts.under other x).1 (inr under));
  };
}
  where
    here : (other : ℕ) → ((other ≡ head) × (dest ≡ dest)) ⊎ IsUnder taps other dest → Some head ≡ Some other
    here other (inl e) = ap Some (sym e.0)
    here other (inr under) = absurd (loose other under)

    was : (other x : ℕ) → x ≢ dest → ((other ≡ head) × (x ≡ dest)) ⊎ IsUnder taps other x → IsUnder taps other x
    was other x apart (inl e) = absurd (apart e.1)
    was other x apart (inr under) = under

pub moves_nowhere : (old new : Lists) (dest : ℕ) → Loosens old new dest → Moves old new dest None
moves_nowhere old new dest loosens = record {
  here = λ head. (λ e. nowhere head e, λ under. absurd (loosens.loose head under));
  leaves = loosens.leaves;
}
  where
    nowhere : (head : ℕ) → None ≡ Some head → IsUnder new head dest
    nowhere head e = cc

pub moves_loosened : (old loose new : Lists) (dest : ℕ) (head : Option ℕ) → Loosens old loose dest → Moves loose new dest head → Moves old new dest head
moves_loosened old loose new dest head loosens moves = record {
  here = moves.here;
  leaves = record {
    heads = moves.leaves.heads ∙ loosens.leaves.heads;
    members = moves.leaves.members ∙ loosens.leaves.members;
    others = λ other x apart. (
      λ under. (loosens.leaves.others other x apart).0 ((moves.leaves.others other x apart).0 under),
      λ under. (moves.leaves.others other x apart).1 ((loosens.leaves.others other x apart).1 under),
    );
  };
}

pub taps_put : (plant : PlantData) (points : Crosspoints) (old new : Lists) (dest : ℕ) (spot : Option Spot) → AreTapsOf plant points old → Moves old new dest (origin_at plant (put points dest spot) dest) → AreTapsOf plant (put points dest spot) new
taps_put plant points old new dest spot are moves = record {
  heads = moves.leaves.heads ∙ are.heads;
  members = moves.leaves.members ∙ are.members;
  each = λ other. each other (cases_eq other dest);
}
  where
    each : (other : ℕ) → (other ≡ dest) ⊎ (other ≢ dest) → IsHeadOf new other (origin_at plant (put points dest spot) other)
    each other (inl same) = rw same moves.here
    each other (inr apart) =
        let stays : origin_at plant (put points dest spot) other ≡ origin_at plant points other = ap (origin_in plant) (get-put_other points dest spot other apart) in
        λ head. (
          λ e. (moves.leaves.others head other apart).1 ((are.each other head).0 (sym stays ∙ e)),
          λ under. stays ∙ (are.each other head).1 ((moves.leaves.others head other apart).0 under),
        )
