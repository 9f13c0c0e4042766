-- Destinations that went dark, none, one, and some after others.
use Rattle.std.proofs.Common.{◌≡◌, ◌⊎◌, ℕ, Bool, true, false, not, cond, List, [], ◌∷◌, ◌++◌, inl, inr, refl, sym, ap, subst, ◌∙◌, arith}
use Rattle.std.proofs.lemmas.Bool.{both_ways}
use Rattle.std.proofs.lemmas.List.Elements.{Contains-append_left, Contains-append_right, Contains-append_cases, filter-append}
use Rattle.std.specs.List.{Contains}
use Rattle.std.specs.FinSet.{contains}
use Rattle.plant_config.specs.Plant.{PlantData}
use Rattle.tally.specs.Tally.{Origins}
use Rattle.tally.specs.Marks.{Marks}
use Rattle.tally.specs.MarksInside.{StayTurned}
use Rattle.tally.specs.Losing.{KeepLosing, MarksNoMore}
use Rattle.tally.specs.Lost.{WaitsFor, WaitMore, StayMarks, AreLost, no_roots}
use Rattle.tally.proofs.ListLemmas.{only}

-- what is dark stays so
pub stays_dark : (old new : Marks) (dest : ℕ) → MarksNoMore old new → contains old.live dest ≡ false → contains new.live dest ≡ false
stays_dark old new dest fewer dark = by (contains new.live dest) refl
  where
    by : (b : Bool) → contains new.live dest ≡ b → b ≡ false
    by true is = absurd (both_ways (contains old.live dest) dark (fewer dest is))
    by false is = refl

module _ (plant : PlantData) (doubted : Origins) where
  pub lost_none : (marks : Marks) (waiting : Origins) → AreLost plant [] marks marks waiting waiting doubted
  lost_none marks waiting = record {
    losing = λ old roots touched losing causes. losing;
    kept = λ points are. are;
    dark = λ dest has. absurd (omega (arith, has.1));
    fewer = λ dest marked. marked;
    turned = λ was are. are;
    waits = λ old are device has. inl has;
  }

  pub lost_one : (number dest : ℕ) (marks new : Marks) (waiting more : Origins) → number ≡ dest → KeepLosing plant number marks new waiting more doubted → StayMarks plant marks new → contains new.live number ≡ false → MarksNoMore marks new → StayTurned marks new → WaitMore plant (number ∷ []) marks waiting more doubted →
      AreLost plant (dest ∷ []) marks new waiting more doubted
  lost_one number dest marks new waiting more same losing stay dark fewer turned waits =
      subst (λ d. AreLost plant (d ∷ []) marks new waiting more doubted) same
      (record {
        losing = λ old roots touched before causes. losing old roots touched before (causes number (0, omega arith, refl));
        kept = stay;
        dark = λ d has. ap (contains new.live) (sym (only number d has)) ∙ dark;
        fewer = fewer;
        turned = turned;
        waits = waits;
      })

  module _ (xs ys : List ℕ) (a b c : Marks) (u v w : Origins) (one : AreLost plant xs a b u v doubted) (two : AreLost plant ys b c v w doubted) where
    joined_waits : WaitMore plant (xs ++ ys) a u w doubted
    joined_waits old are device has = by (two.waits old (one.kept old are) device has)
      where
        before : (contains u device ≡ true) ⊎ WaitsFor plant old xs a doubted device → (contains u device ≡ true) ⊎ WaitsFor plant old (xs ++ ys) a doubted device
        before (inl was) = inl was
        before (inr for) = inr (record {
          below = for.below;
          fresh = for.fresh;
          dest = for.dest;
          among = Contains-append_left xs ys for.dest for.among;
          marked = for.marked;
          fed = for.fed;
        })

        by : (contains v device ≡ true) ⊎ WaitsFor plant old ys b doubted device → (contains u device ≡ true) ⊎ WaitsFor plant old (xs ++ ys) a doubted device
        by (inl was) = before (one.waits old are device was)
        by (inr for) = inr (record {
          below = for.below;
          fresh = for.fresh;
          dest = for.dest;
          among = Contains-append_right xs ys for.dest for.among;
          marked = one.fewer for.dest for.marked;
          fed = for.fed;
        })

    joined_dark : (dest : ℕ) → Contains xs dest ⊎ Contains ys dest → contains c.live dest ≡ false
    joined_dark dest (inl first) = stays_dark b c dest two.fewer (one.dark dest first)
    joined_dark dest (inr second) = two.dark dest second

    pub lost_then : AreLost plant (xs ++ ys) a c u w doubted
    lost_then = record {
      losing = λ old roots touched losing causes.
          two.losing old roots touched
          (one.losing old roots touched losing (λ dest has. causes dest (Contains-append_left xs ys dest has)))
          (λ dest has. causes dest (Contains-append_right xs ys dest has));
      kept = λ points are. two.kept points (one.kept points are);
      dark = λ dest has. joined_dark dest (Contains-append_cases xs ys dest has);
      fewer = λ dest marked. one.fewer dest (two.fewer dest marked);
      turned = λ was are. two.turned was (one.turned was are);
      waits = joined_waits;
    }

-- those that are no roots, of one destination more
pub no_roots_more : (set : Origins) (xs ys zs : List ℕ) → zs ≡ xs ++ ys → no_roots set zs ≡ no_roots set xs ++ no_roots set ys
no_roots_more set xs ys zs is = ap (no_roots set) is ∙ filter-append (λ dest. not (contains set dest)) xs ys

pub no_root : (set : Origins) (dest : ℕ) → contains set dest ≡ false → no_roots set (dest ∷ []) ≡ dest ∷ []
no_root set dest is = ap (λ b. cond (not b) (dest ∷ []) []) is

pub a_root : (set : Origins) (dest : ℕ) → contains set dest ≡ true → no_roots set (dest ∷ []) ≡ []
a_root set dest is = ap (λ b. cond (not b) (dest ∷ []) []) is
