-- Lines lead a standby to one status.
use Rattle.std.proofs.Common.{◌≡◌, inl, inr, ℕ, List, [], ◌∷◌, ◌++◌, refl, sym, ap, ◌∙◌, subst, subst₂}
use Rattle.plant_config.specs.Plant.{PlantData}
use Rattle.plant_config.specs.IsPlant.{IsPlant}
use Rattle.plant_core.specs.State.{FitsPlant}
use Rattle.plant_core.specs.declared.request.Request.{Request}
use Rattle.plant_core.specs.declared.request.Request.TheVariants.{Told, Poll, Leave, DisplayPoll}
use Rattle.trace_lines.specs.Trace.{HasTraceNumbers}
use Rattle.trace_lines.specs.TraceLine.{MayTrace}
use Rattle.trace_lines.proofs.ScreenLemmas.{screen_small, panel_small}
use Rattle.trace_lines.proofs.TraceEntry.{one_entry}
use Rattle.standby.specs.declared.took.Took.{Took}
use Rattle.standby.specs.declared.took.Took.TheVariants.{Differs}
use Rattle.standby.specs.Standby.{Data}
use Rattle.standby.specs.Table.{Takes}
use Rattle.standby.specs.Arrivals.{Arrival}
use Rattle.standby.proofs.TableLemmas.{answers_are_exact}
use Rattle.command_standby.specs.declared.follow.Passed.{Passed}
use Rattle.command_standby.specs.Taking.{TellsArrival, LinesTell, IsFirstRefused, none_passed, passing, TakesOne, TakesAll, FirstDiffers}
use Rattle.command_standby.specs.Standby.{new_standby}
use Rattle.command_standby.specs.Laws.{LinesLead}

may-trace : (plant : PlantData) (request : Request) → IsPlant plant → FitsPlant plant request → HasTraceNumbers request → MayTrace request
may-trace plant (Told panel item message) is fits numbers = (panel_small plant panel is fits.0, numbers, fits.1.1)
may-trace plant (Poll panel item turn) is fits numbers = (panel_small plant panel is fits, numbers.0, numbers.1)
may-trace plant (Leave panel) is fits numbers = panel_small plant panel is fits
may-trace plant (DisplayPoll screen refresh) is fits numbers = screen_small plant screen is fits

-- a line tells one arrival, and lines tell one list of them
one_told : (plant : PlantData) (line : List ℕ) (one other : Arrival) → IsPlant plant → TellsArrival plant line one → TellsArrival plant line other → one ≡ other
one_told plant line one other is a b =
    let left = a.told.told in
    let right = b.told.told in
    let same = one_entry one.position other.position one.request other.request a.told.kept b.told.kept left.position right.position
    (may-trace plant one.request is left.fits left.numbers) (may-trace plant other.request is right.fits right.numbers) (sym left.text ∙ right.text) in
    λ i. record { position = same.0 i; request = same.1 i }

all_told : (plant : PlantData) (its : List (List ℕ)) (one other : List Arrival) → IsPlant plant → LinesTell plant its one → LinesTell plant its other → one ≡ other
all_told plant [] [] [] is a b = refl
all_told plant [] [] (y ∷ other) is a b = absurd b
all_told plant [] (x ∷ one) other is a b = absurd a
all_told plant (line ∷ its) [] other is a b = absurd a
all_told plant (line ∷ its) (x ∷ one) [] is a b = absurd b
all_told plant (line ∷ its) (x ∷ one) (y ∷ other) is a b =
    λ i. one_told plant line x y is a.0 b.0 i ∷ all_told plant its one other is a.1 b.1 i

-- of lines that tell what may come each does
told_at : (plant : PlantData) (before : List (List ℕ)) (line : List ℕ) (behind : List (List ℕ)) (arrivals : List Arrival) → LinesTell plant (before ++ line ∷ behind) arrivals → (arrival : Arrival) × TellsArrival plant line arrival
told_at plant [] line behind [] told = absurd told
told_at plant [] line behind (arrival ∷ arrivals) told = (arrival, told.0)
told_at plant (first ∷ before) line behind [] told = absurd told
told_at plant (first ∷ before) line behind (arrival ∷ arrivals) told = told_at plant before line behind arrivals told.1

not_refused : {A : Type 0} (plant : PlantData) (its : List (List ℕ)) (number : ℕ) (arrivals : List Arrival) → IsFirstRefused plant its number → LinesTell plant its arrivals → A
not_refused plant its number arrivals first told =
    let one = told_at plant first.before first.line first.behind arrivals (subst (λ (all : List (List ℕ)). LinesTell plant all arrivals) first.place told) in
    absurd (first.refused one.0 one.1)

-- what comes leads to one standby and one count
one_way : (old : Data) (passed : Passed) (arrival : Arrival) (new left : Data) (all right : Passed) → TakesOne old passed arrival new all → TakesOne old passed arrival left right → (new ≡ left) × (all ≡ right)
one_way old passed arrival new left all right a b =
    let same = answers_are_exact old arrival.position arrival.request a.took b.took new left a.takes b.takes in
    (same.1, a.counted_is ∙ ap (λ (took : Took). passing took passed) same.0 ∙ sym b.counted_is)

-- where all is taken none differs
none_differs : {A : Type 0} (old : Data) (passed : Passed) (before : List Arrival) (arrival : Arrival) (behind : List Arrival) (new : Data) (all : Passed) (between : Data) (counted : Passed) (after : Data)
    → TakesAll old passed (before ++ arrival ∷ behind) new all → TakesAll old passed before between counted → Takes between arrival.position arrival.request Differs after → A
none_differs old passed [] arrival behind new all between counted after taken front differs =
    let one = taken.2 in
    let there = subst (λ (s : Data). Takes s arrival.position arrival.request Differs after) front.0 differs in
    absurd (one.same (answers_are_exact old arrival.position arrival.request one.took Differs taken.0 after one.takes there).0)
none_differs old passed (first ∷ before) arrival behind new all between counted after taken front differs =
    let same = one_way old passed first front.0 taken.0 front.1 taken.1 front.2 taken.2 in
    none_differs taken.0 taken.1 before arrival behind new all between counted after taken.3 (subst₂ (λ (s : Data) (c : Passed). TakesAll s c before between counted) same.0 same.1 front.3) differs

not_differing : {A : Type 0} (first : Data) (arrivals : List Arrival) (position : ℕ) (standby : Data) (passed : Passed) → FirstDiffers first arrivals position → TakesAll first none_passed arrivals standby passed → A
not_differing first arrivals position standby passed is taken =
    none_differs first none_passed is.before is.arrival is.behind standby passed is.between is.passed is.after
    (subst (λ (all : List Arrival). TakesAll first none_passed all standby passed) is.parts taken) is.taken is.differs

-- so the status is one
pub one_status : (plant : PlantData) (its : List (List ℕ)) (one other : ℕ) → IsPlant plant → LinesLead plant its one → LinesLead plant its other → one ≡ other
one_status plant its one other is (inl a) (inl b) = a.0 ∙ sym b.0
one_status plant its one other is (inl a) (inr (inl b)) = not_refused plant its b.1.0 a.1.0 b.1.1 a.1.3
one_status plant its one other is (inl a) (inr (inr b)) =
    let same = all_told plant its b.1.0 a.1.0 is b.1.2 a.1.3 in
    not_differing (new_standby plant) a.1.0 b.1.1 a.1.1 a.1.2 (subst (λ (all : List Arrival). FirstDiffers (new_standby plant) all b.1.1) same b.1.3) a.1.4
one_status plant its one other is (inr (inl a)) (inl b) = not_refused plant its a.1.0 b.1.0 a.1.1 b.1.3
one_status plant its one other is (inr (inl a)) (inr (inl b)) = a.0 ∙ sym b.0
one_status plant its one other is (inr (inl a)) (inr (inr b)) = not_refused plant its a.1.0 b.1.0 a.1.1 b.1.2
one_status plant its one other is (inr (inr a)) (inl b) =
    let same = all_told plant its a.1.0 b.1.0 is a.1.2 b.1.3 in
    not_differing (new_standby plant) b.1.0 a.1.1 b.1.1 b.1.2 (subst (λ (all : List Arrival). FirstDiffers (new_standby plant) all a.1.1) same a.1.3) b.1.4
one_status plant its one other is (inr (inr a)) (inr (inl b)) = not_refused plant its b.1.0 a.1.0 b.1.1 a.1.2
one_status plant its one other is (inr (inr a)) (inr (inr b)) = a.0 ∙ sym b.0
