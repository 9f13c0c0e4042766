-- Without roots nothing is live, whatever moves.
use Rattle.std.proofs.Common.{◌≡◌, ℕ, ◌==◌, true, false, List, [], refl, sym, ap, ◌∙◌, arith, eq-eqb}
use Rattle.std.proofs.lemmas.Bool.{both_ways}
use Rattle.std.proofs.lemmas.Map.Keys.{any_passes_from_place}
use Rattle.std.specs.Ordering.{nat_cmp}
use Rattle.std.specs.FinSet.{empty, contains, contains-empty}
use Rattle.plant_config.specs.Plant.{PlantData}
use Rattle.plant_config.specs.IsPlant.{IsPlant}
use Rattle.crosspoint_state.specs.Crosspoints.{Crosspoints}
use Rattle.mixer_effects.specs.Live.{is_live}
use Rattle.mixer_effects.specs.Laws.{AreClosed}
use Rattle.mixer_effects.proofs.LiveLemmas.{live_is_least}
use Rattle.mixer_effects.proofs.PlantLemmas.{bus_device_below}
use Rattle.tally.specs.Tally.{Origins}
use Rattle.tally.specs.Marks.{Marks}
use Rattle.tally.specs.MarkLaws.{AreSettled}
use Rattle.tally.specs.Lost.{AreRoots}
use Rattle.tally.specs.Kept.{AreFlipped}
use Rattle.tally.proofs.FedLemmas.{feeds_marked}
use Rattle.tally.proofs.KeptLemmas.{marks_say}

module _ (plant : PlantData) (roots : List ℕ) (set : Origins) (rooted : AreRoots roots set) (none : set ≡ empty) where
  no_root : (dest : ℕ) → contains set dest ≡ false
  no_root dest = ap (λ (set : Origins). contains set dest) none ∙ contains-empty nat_cmp dest

  closed : (points : Crosspoints) → AreClosed plant points roots (λ dest. false)
  closed points = record {
    has_roots = λ place root at. absurd (both_ways (contains set root) (no_root root) (rooted root ∙ any_passes_from_place (λ other. other == root) roots place root at (eq-eqb root root refl)));
    has_buses = λ place dest bus at on among fed. among;
  }

  never_live : (points : Crosspoints) (dest : ℕ) → is_live plant points roots dest ≡ true → ⊥
  never_live points dest live = both_ways false refl ((live_is_least plant points roots).least (λ dest. false) (closed points) dest live)

  module _ (is : IsPlant plant) (old new : Crosspoints) (marks : Marks) (settled : AreSettled plant old roots marks) where
    unmarked : (dest : ℕ) → contains marks.live dest ≡ true → ⊥
    unmarked dest marked = never_live old dest (settled.sound dest marked)

    -- the marks stay settled
    pub rootless_settled : AreSettled plant new roots marks
    rootless_settled = record {
      kept = record {
        heads = settled.kept.heads;
        members = settled.kept.members;
        below = settled.kept.below;
        lit = λ origin dest. (λ under. absurd (unmarked dest ((settled.kept.lit origin dest).0 under).0), λ both. absurd (unmarked dest both.0));
        fed = settled.kept.fed;
      };
      sound = λ dest marked. absurd (unmarked dest marked);
      rooted = settled.rooted;
      buses = λ place bus at on fed.
          let feeds = feeds_marked plant old marks bus.device settled.kept (bus_device_below plant is place bus at) fed in
          absurd (unmarked feeds.dest feeds.marked);
    }

    -- and nothing flips
    pub rootless_flips : AreFlipped plant old new roots []
    rootless_flips = record {
      each = λ origin. (
        λ has. absurd (omega (arith, has.1)),
        λ apart. absurd (apart (sym ((marks_say plant old roots marks settled).seen origin) ∙ (marks_say plant new roots marks rootless_settled).seen origin)),
      );
      once = λ i j d less within. absurd (omega (arith, within));
    }
