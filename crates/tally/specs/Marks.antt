-- What is kept of a tally: which destinations are marked live, and by them which sources and which devices are on.
use Rattle.std.specs.Prelude.{◌≡◌, ◌↔◌, ℕ, ◌<◌, nat_lt, Bool, true, not, cond, length, Some, refl}
use Rattle.std.specs.FinSet.{contains, code as set_code}
use Rattle.std.specs.Coded.{Coded, code_by, coded×, coded_ℕ}
use Rattle.tap_lists.specs.Lists.{Lists, list_of, IsUnder, code as lists_code}
use Rattle.plant_config.specs.Plant.{PlantData, destinations_of, sources_of}
use Rattle.crosspoint_state.specs.Crosspoints.{Crosspoints}
use Rattle.crosspoint_state.specs.Taps.{origin_at}
use Rattle.mixer_effects.specs.Buses.{output_of}
use Rattle.tally.specs.Tally.{Origins}

-- The destinations that are marked live. Under each local source, those of them that carry its picture. The devices whose
-- output is such a picture. And the local sources that went on or off since an update began.
pub record Marks : Type 0 where
  pub live : Origins
  pub lit : Lists
  pub fed : Origins
  pub turned : Origins

-- marks are stored as the tuple of their fields
abbrev pub marks_code : Coded Marks
marks_code =
    code_by (Origins × (Lists × (Origins × Origins)))
    (coded× (set_code coded_ℕ) (coded× lists_code (coded× (set_code coded_ℕ) (set_code coded_ℕ))))
    (λ marks. (marks.live, (marks.lit, (marks.fed, marks.turned))))
    (λ tuple. record {
      live = tuple.0;
      lit = tuple.1.0;
      fed = tuple.1.1.0;
      turned = tuple.1.1.1;
    }) (λ _. refl)

-- whether one of two things is so and the other isn't
abbrev pub are_unlike : Bool → Bool → Bool
are_unlike a b = cond a (not b) b

-- whether a destination that is marked live carries the picture of a local source
abbrev pub is_lit : Lists → ℕ → Bool
is_lit lit origin = nat_lt 0 (length (list_of lit origin))

-- A destination that is marked live is under the origin of what it carries, and no other one is under any.
abbrev pub AreLit : PlantData → Crosspoints → Marks → Type 0
AreLit plant points marks = (origin dest : ℕ) → IsUnder marks.lit origin dest
    ↔ ((contains marks.live dest ≡ true) × (origin_at plant points dest ≡ Some origin))

-- A device is fed where its output's picture is carried.
abbrev pub AreFed : PlantData → Marks → Type 0
AreFed plant marks = (device output : ℕ) → output_of plant device ≡ Some output
    → contains marks.fed device ≡ is_lit marks.lit output

-- Marks go with what the destinations of a plant carry.
pub record AreMarksOf (plant : PlantData) (points : Crosspoints) (marks : Marks) : Type 0 where
  pub heads : length marks.lit.by_head ≡ sources_of plant
  pub members : marks.lit.members ≡ destinations_of plant
  pub below : (dest : ℕ) → contains marks.live dest ≡ true → dest < destinations_of plant
  pub lit : AreLit plant points marks
  pub fed : AreFed plant marks

-- A source is turned where it is lit now and wasn't when the update began, or the other way round.
abbrev pub AreTurned : (ℕ → Bool) → Marks → Type 0
AreTurned was_lit marks = (origin : ℕ)
    → contains marks.turned origin ≡ are_unlike (was_lit origin) (is_lit marks.lit origin)
