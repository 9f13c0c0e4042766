-- How the lines of a text are read, and come to a standby.
use Rattle.std.proofs.Common.{◌≡◌, ℕ, ◌+◌, ◌<◌, List, [], ◌∷◌, ◌++◌, length, Option, Some, None, is_some, true, false, true≢false, refl, sym, ap, subst, subst₂, ◌∙◌, arith, length-append, append-nil}
use Rattle.std.proofs.lemmas.List.{append_assoc}
use Rattle.std.specs.Option.{option_map_or}
use Rattle.line_text.specs.Lines.{lines}
use Rattle.plant_config.specs.Plant.{PlantData}
use Rattle.plant_core.specs.declared.request.Request.{Request}
use Rattle.standby.specs.declared.took.Took.TheVariants.{Differs}
use Rattle.standby.specs.Standby.{Data}
use Rattle.standby.specs.Table.{Takes}
use Rattle.standby.specs.Arrivals.{Arrival}
use Rattle.command_standby.specs.declared.follow.Passed.{Passed}
use Rattle.command_standby.specs.Taking.{TellsArrival, LinesTell, IsFirstRefused, none_passed, TakesOne, TakesAll, FirstDiffers}
use Rattle.command_standby.specs.FollowInside.{arrival_of, IsToldSoFar, CameSoFar, Came, HasCome}

-- ---- reading

-- a line more tells an arrival more
told-more : (plant : PlantData) (before : List (List ℕ)) (arrivals : List Arrival) (line : List ℕ) (arrival : Arrival) → LinesTell plant before arrivals → TellsArrival plant line arrival → LinesTell plant (before ++ line ∷ []) (arrivals ++ arrival ∷ [])
told-more plant [] [] line arrival told tells = (tells, tt)
told-more plant (first ∷ before) (one ∷ arrivals) line arrival told tells = (told.0, told-more plant before arrivals line arrival told.1 tells)
told-more plant [] (one ∷ arrivals) line arrival told tells = absurd told
told-more plant (first ∷ before) [] line arrival told tells = absurd told

-- no line was read yet
pub read_none : (plant : PlantData) (text : List ℕ) → IsToldSoFar plant text text 0
read_none plant text = record { before = []; told = record { arrivals = []; tell = tt }; place = refl; counted = refl; fewer = omega arith }

-- one line more was read
pub read_more : (plant : PlantData) (text rest line after : List ℕ) (arrival : Arrival) (count : ℕ) → IsToldSoFar plant text rest count → lines rest ≡ line ∷ lines after → length after < length rest → TellsArrival plant line arrival
    → IsToldSoFar plant text after (count + 1)
read_more plant text rest line after arrival count so_far splits shorter tells = record {
  before = so_far.before ++ line ∷ [];
  told = record { arrivals = so_far.told.arrivals ++ arrival ∷ []; tell = told-more plant so_far.before so_far.told.arrivals line arrival so_far.told.tell tells };
  place = so_far.place ∙ ap (λ (more : List (List ℕ)). so_far.before ++ more) splits ∙ sym (append_assoc so_far.before (line ∷ []) (lines after));
  counted = omega (arith, so_far.counted, length-append so_far.before (line ∷ []));
  fewer = omega (arith, so_far.fewer, shorter);
}

no_lines : (rest : List ℕ) → length rest ≡ 0 → lines rest ≡ []
no_lines [] e = refl
no_lines (byte ∷ rest) e = absurd (omega (arith, e))

-- a line is the first that tells nothing that may come
pub read_bad : (plant : PlantData) (text rest line after : List ℕ) (count number : ℕ) → IsToldSoFar plant text rest count → lines rest ≡ line ∷ lines after → ((arrival : Arrival) → TellsArrival plant line arrival → ⊥) → number ≡ count + 1
    → IsFirstRefused plant (lines text) number
read_bad plant text rest line after count number so_far splits refused next = record {
  before = so_far.before;
  arrivals = so_far.told.arrivals;
  told = so_far.told.tell;
  line = line;
  behind = lines after;
  place = so_far.place ∙ ap (λ (more : List (List ℕ)). so_far.before ++ more) splits;
  refused = refused;
  counted = omega (arith, next, so_far.counted);
}

-- ---- coming

pub same_position : (position other : ℕ) (request asked : Request) → ◌≡◌ {A = Option (ℕ × Request)} (Some (position, request)) (Some (other, asked)) → position ≡ other
same_position position other request asked e = ap (λ (found : Option (ℕ × Request)). option_map_or (λ (pair : ℕ × Request). pair.0) found 0) e

-- one more comes
pub takes_more : (old : Data) (passed : Passed) (before : List Arrival) (now : Data) (counted : Passed) (arrival : Arrival) (new : Data) (all : Passed) → TakesAll old passed before now counted → TakesOne now counted arrival new all
    → TakesAll old passed (before ++ arrival ∷ []) new all
takes_more old passed [] now counted arrival new all taken one =
    (new, all, subst₂ (λ (d : Data) (c : Passed). TakesOne d c arrival new all) taken.0 taken.1 one, (refl, refl))
takes_more old passed (first ∷ before) now counted arrival new all taken one =
    (taken.0, taken.1, taken.2, takes_more taken.0 taken.1 before now counted arrival new all taken.3 one)

-- the one that comes differs from what is kept
pub differs_now : (first : Data) (before : List Arrival) (now : Data) (counted : Passed) (position : ℕ) (request : Request) (after : Data) → TakesAll first none_passed before now counted → Takes now position request Differs after
    → FirstDiffers first (before ++ arrival_of position request ∷ []) position
differs_now first before now counted position request after taken differs = record {
  before = before;
  arrival = arrival_of position request;
  behind = [];
  parts = refl;
  between = now;
  passed = counted;
  taken = taken;
  after = after;
  differs = differs;
  position_is = refl;
}

-- the first that differs stays the first
pub differs_still : (first : Data) (arrivals : List Arrival) (position : ℕ) (arrival : Arrival) → FirstDiffers first arrivals position → FirstDiffers first (arrivals ++ arrival ∷ []) position
differs_still first arrivals position arrival is = record {
  before = is.before;
  arrival = is.arrival;
  behind = is.behind ++ arrival ∷ [];
  parts = ap (λ (all : List Arrival). all ++ arrival ∷ []) is.parts ∙ append_assoc is.before (is.arrival ∷ is.behind) (arrival ∷ []);
  between = is.between;
  passed = is.passed;
  taken = is.taken;
  after = is.after;
  differs = is.differs;
  position_is = is.position_is;
}

-- where one differed, nothing comes any more
pub came_still : (first : Data) (arrivals : List Arrival) (differing : Option ℕ) (now new : Data) (counted all : Passed) (arrival : Arrival) → is_some differing ≡ true → CameSoFar first arrivals differing now counted → CameSoFar first (arrivals ++ arrival ∷ []) differing new all
came_still first arrivals None now new counted all arrival some came = absurd (true≢false (sym some))
came_still first arrivals (Some position) now new counted all arrival some came = differs_still first arrivals position arrival came

-- where none did, this one is taken,
pub came_more : (first : Data) (arrivals : List Arrival) (differing : Option ℕ) (now new : Data) (counted all : Passed) (arrival : Arrival) → is_some differing ≡ false → TakesOne now counted arrival new all → CameSoFar first arrivals differing now counted → TakesAll first none_passed (arrivals ++ arrival ∷ []) new all
came_more first arrivals None now new counted all arrival none one came = takes_more first none_passed arrivals now counted arrival new all came one
came_more first arrivals (Some position) now new counted all arrival none one came = absurd (true≢false none)

-- or it is the first that differs
pub came_differing : (first : Data) (arrivals : List Arrival) (differing : Option ℕ) (now new : Data) (counted all : Passed) (position : ℕ) (request : Request) → is_some differing ≡ false → Takes now position request Differs new → CameSoFar first arrivals differing now counted → FirstDiffers first (arrivals ++ arrival_of position request ∷ []) position
came_differing first arrivals None now new counted all position request none differs came = differs_now first arrivals now counted position request new came differs
came_differing first arrivals (Some at) now new counted all position request none differs came = absurd (true≢false none)

-- nothing came yet
pub come_none : (plant : PlantData) (text : List ℕ) (first : Data) (passed : Passed) → passed ≡ none_passed → HasCome plant text text 0 first None first passed
unfolding read_none
come_none plant text first passed none = record { so_far = read_none plant text; came = (refl, none) }

-- a line more was read, and came
pub come_more : (plant : PlantData) (text rest line after : List ℕ) (count : ℕ) (first : Data) (differing next : Option ℕ) (now new : Data) (counted all : Passed) (arrival : Arrival) → HasCome plant text rest count first differing now counted
    → lines rest ≡ line ∷ lines after → length after < length rest → TellsArrival plant line arrival
    → ((first : Data) (arrivals : List Arrival) → CameSoFar first arrivals differing now counted → CameSoFar first (arrivals ++ arrival ∷ []) next new all)
    → HasCome plant text after (count + 1) first next new all
unfolding read_more
come_more plant text rest line after count first differing next now new counted all arrival has splits shorter tells comes = record {
  so_far = read_more plant text rest line after arrival count has.so_far splits shorter tells;
  came = comes first has.so_far.told.arrivals has.came;
}

-- all lines were read, and came
pub come_all : (plant : PlantData) (text rest : List ℕ) (count : ℕ) (first : Data) (differing : Option ℕ) (now : Data) (counted : Passed) → HasCome plant text rest count first differing now counted → length rest ≡ 0 → Came plant (lines text) first differing now counted
come_all plant text rest count first differing now counted has none = record {
  arrivals = has.so_far.told.arrivals;
  tell = subst (λ (its : List (List ℕ)). LinesTell plant its has.so_far.told.arrivals) (sym (has.so_far.place ∙ ap (λ (more : List (List ℕ)). has.so_far.before ++ more) (no_lines rest none) ∙ append-nil has.so_far.before)) has.so_far.told.tell;
  came = has.came;
}
