-- A kept tally says what is live and what is seen, and what an update flipped.
use Rattle.std.proofs.Common.{◌≡◌, ◌≢◌, ◌⊎◌, ℕ, ◌<◌, ◌≤◌, Bool, true, false, not, List, length, inl, inr, refl, sym, ap, subst, ◌∙◌, arith}
use Rattle.std.proofs.lemmas.Bool.{both_ways}
use Rattle.std.specs.Ordering.{nat_cmp}
use Rattle.std.specs.FinSet.{empty, contains, contains-empty}
use Rattle.tap_lists.specs.Lists.{Lists, list_of}
use Rattle.plant_config.specs.Plant.{PlantData, sources_of}
use Rattle.crosspoint_state.specs.Crosspoints.{Crosspoints}
use Rattle.mixer_effects.specs.Live.{is_live, is_origin_seen}
use Rattle.mixer_effects.proofs.LiveLemmas.{live_is_least}
use Rattle.tally.specs.Tally.{Origins}
use Rattle.tally.specs.Marks.{Marks, is_lit, are_unlike, AreTurned}
use Rattle.tally.specs.MarkLaws.{AreSettled, SayWhatIsLive}
use Rattle.tally.specs.Kept.{Kept, IsKeptFor, AreFlipped, AreMembers}
use Rattle.tally.proofs.LitLemmas.{under_below}
use Rattle.tally.proofs.MarkLemmas.{lit_member, settled_say}

pub marks_say : (plant : PlantData) (points : Crosspoints) (roots : List ℕ) (marks : Marks) → AreSettled plant points roots marks → SayWhatIsLive plant points roots marks
marks_say plant points roots marks settled = settled_say plant points roots (live_is_least plant points roots) marks settled.kept settled

pub kept_live : (plant : PlantData) (points : Crosspoints) (roots : List ℕ) (kept : Kept) (dest : ℕ) → IsKeptFor plant points roots kept → contains kept.marks.live dest ≡ is_live plant points roots dest
kept_live plant points roots kept dest is = (marks_say plant points roots kept.marks is.settled).live dest

-- a number that is no destination's isn't live
pub never_live : (plant : PlantData) (points : Crosspoints) (roots : List ℕ) (kept : Kept) (dest : ℕ) → IsKeptFor plant points roots kept → 65536 ≤ dest → false ≡ is_live plant points roots dest
never_live plant points roots kept dest is past = by (is_live plant points roots dest) refl
  where
    by : (b : Bool) → is_live plant points roots dest ≡ b → false ≡ b
    by false dark = refl
    by true live =
        let below = is.settled.kept.below dest (kept_live plant points roots kept dest is ∙ live) in
        absurd (omega (arith, below, is.is_plant.destinations, past))

pub kept_seen : (plant : PlantData) (points : Crosspoints) (roots : List ℕ) (kept : Kept) (origin : ℕ) → IsKeptFor plant points roots kept → is_lit kept.marks.lit origin ≡ is_origin_seen plant points roots origin
kept_seen plant points roots kept origin is = (marks_say plant points roots kept.marks is.settled).seen origin

-- nothing is turned before an update
pub turned_none : (marks : Marks) → marks.turned ≡ empty → AreTurned (is_lit marks.lit) marks
turned_none marks none origin = ap (λ (set : Origins). contains set origin) none ∙ contains-empty nat_cmp origin ∙ by (is_lit marks.lit origin)
  where
    by : (b : Bool) → false ≡ are_unlike b b
    by true = refl
    by false = refl

-- an origin that is lit is one of the plant's sources
lit_below : (lists : Lists) (origin : ℕ) → is_lit lists origin ≡ true → origin < length lists.by_head
lit_below lists origin lit =
    let member = lit_member (list_of lists origin) lit in
    under_below lists origin member.0 member.1

one_of : (a b : Bool) → are_unlike a b ≡ true → (a ≡ true) ⊎ (b ≡ true)
one_of true b differ = inl refl
one_of false b differ = inr differ

pub turned_below : (plant : PlantData) (first marks : Marks) (origin : ℕ) → length first.lit.by_head ≡ sources_of plant → length marks.lit.by_head ≡ sources_of plant → AreTurned (is_lit first.lit) marks → contains marks.turned origin ≡ true → origin < sources_of plant
turned_below plant first marks origin begun ended turned has = by (one_of (is_lit first.lit origin) (is_lit marks.lit origin) (sym (turned origin) ∙ has))
  where
    by : (is_lit first.lit origin ≡ true) ⊎ (is_lit marks.lit origin ≡ true) → origin < sources_of plant
    by (inl lit) = omega (arith, lit_below first.lit origin lit, begun)
    by (inr lit) = omega (arith, lit_below marks.lit origin lit, ended)

-- settled marks are so whatever was turned
pub same_settled : (plant : PlantData) (points : Crosspoints) (roots : List ℕ) (m n : Marks) → n.live ≡ m.live → n.lit ≡ m.lit → n.fed ≡ m.fed → AreSettled plant points roots m → AreSettled plant points roots n
same_settled plant points roots m n live lit fed settled =
    subst (λ (x : Origins). AreSettled plant points roots (record { live = x; lit = n.lit; fed = n.fed; turned = n.turned })) (sym live)
    (subst (λ (x : Lists). AreSettled plant points roots (record { live = m.live; lit = x; fed = n.fed; turned = n.turned })) (sym lit)
    (subst (λ (x : Origins). AreSettled plant points roots (record { live = m.live; lit = m.lit; fed = x; turned = n.turned })) (sym fed)
    (record {
      kept = record {
        heads = settled.kept.heads;
        members = settled.kept.members;
        below = settled.kept.below;
        lit = settled.kept.lit;
        fed = settled.kept.fed;
      };
      sound = settled.sound;
      rooted = settled.rooted;
      buses = settled.buses;
    })))

differ_apart : (a b : Bool) → are_unlike a b ≡ true → a ≢ b
differ_apart true b differ same = both_ways (not b) (ap not (sym same)) differ
differ_apart false b differ same = both_ways b (sym same) differ

apart_differ : (a b : Bool) → a ≢ b → are_unlike a b ≡ true
apart_differ true true apart = absurd (apart refl)
apart_differ true false apart = refl
apart_differ false true apart = refl
apart_differ false false apart = absurd (apart refl)

pub flipped_are : (plant : PlantData) (old new : Crosspoints) (roots : List ℕ) (first marks : Marks) (list : List ℕ) → AreSettled plant old roots first → AreSettled plant new roots marks → AreTurned (is_lit first.lit) marks → AreMembers marks.turned list → AreFlipped plant old new roots list
flipped_are plant old new roots first marks list before after turned members = record {
  each = λ origin. (
    λ has. differ_apart (is_origin_seen plant old roots origin) (is_origin_seen plant new roots origin) (same origin ∙ (members.each origin).0 has),
    λ apart. (members.each origin).1 (sym (same origin) ∙ apart_differ (is_origin_seen plant old roots origin) (is_origin_seen plant new roots origin) apart),
  );
  once = members.once;
}
  where
    same : (origin : ℕ) → are_unlike (is_origin_seen plant old roots origin) (is_origin_seen plant new roots origin) ≡ contains marks.turned origin
    same origin =
        ap (λ a. are_unlike a (is_origin_seen plant new roots origin)) (sym ((marks_say plant old roots first before).seen origin))
        ∙ ap (are_unlike (is_lit first.lit origin)) (sym ((marks_say plant new roots marks after).seen origin))
        ∙ sym (turned origin)
