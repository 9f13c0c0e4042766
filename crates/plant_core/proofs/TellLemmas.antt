-- What polls tell, and how long notices stand.
use Rattle.std.proofs.Common.{◌≡◌, ◌⊎◌, ℕ, ◌<◌, true, false, List, [], length, set, Option, Some, None, IsSome, IfSome, inl, inr, refl, sym, ap, subst, ◌∙◌, is_some}
use Rattle.std.proofs.lemmas.Bool.{cases_lt, both_ways}
use Rattle.std.proofs.lemmas.List.{set-get_or}
use Rattle.std.specs.Option.{option_map, option_and_then, unwrap_or}
use Rattle.std.specs.Ordering.{nat_cmp}
use Rattle.std.specs.FinMap as finite
use Rattle.std.specs.FinSet.{contains, contains-empty}
use Rattle.swp08_messages.specs.declared.point.Point.{Point}
use Rattle.plant_config.specs.declared.records.Point as places
use Rattle.plant_config.specs.Plant.{PlantData, dest_numbers, destinations_of}
use Rattle.plant_config.specs.IsPlant.{IsPlant}
use Rattle.plant_config.specs.Sites.{Site, site_of, dest_at}
use Rattle.plant_config.proofs.SiteLemmas.{dests_are, site_of-number_at, IsSome-site_of}
use Rattle.change_boards.specs.declared.sort.Sort.{Sort}
use Rattle.change_boards.specs.declared.sort.Sort.TheVariants.{Source, Protect}
use Rattle.change_boards.specs.Board.{Board, IsEmpty, blank, has_notice, next, without}
use Rattle.change_boards.specs.Notices.{board_of, has, with_removal}
use Rattle.change_boards.proofs.OneNotice.{next-IsNext, with_removal-Removes}
use Rattle.change_boards.proofs.NextLemmas.{next-None}
use Rattle.plant_core.specs.declared.request.Request.TheVariants.{Poll}
use Rattle.plant_core.specs.State.{State, IsValid}
use Rattle.plant_core.specs.Salvos.{message_place, no_place, dest_place}
use Rattle.plant_core.specs.Step.{step, dest_of, told_owner, told_for, notice_of}
use Rattle.plant_core.specs.NoticeLaws.{Tells, PollTells}
use Rattle.plant_core.proofs.Noticed.{past_none}

-- a panel that has a notice is in the plant
within_has : (boards : List Board) (panel dest : ℕ) (sort : Sort) → has boards panel dest sort ≡ true → panel < length boards
within_has boards panel dest sort h = elim (cases_lt panel (length boards)) [
  | inl within ↦ within
  | inr past ↦ absurd (both_ways (has boards panel dest sort) (past_none boards panel dest sort past) h)
]

pub empty_has : (board : Board) (dest : ℕ) (sort : Sort) → IsEmpty board → has_notice board dest sort ≡ false
empty_has board dest Source is = ap (λ dests. contains dests dest) is.source ∙ contains-empty nat_cmp dest
empty_has board dest Protect is = ap (λ dests. contains dests dest) is.protect ∙ contains-empty nat_cmp dest

-- a destination's place has it
pub dest_place-is : (plant : PlantData) (dest : ℕ) → IsPlant plant → dest < destinations_of plant → dest_at plant (dest_place plant dest).matrix (dest_place plant dest).level (dest_place plant dest).dest ≡ Some dest
dest_place-is plant dest is below = go (site_of dest_numbers plant dest) refl (IsSome-site_of dest_numbers plant (dests_are plant is) dest below)
  where
    point : Site → places.Point
    point site = record { matrix = site.matrix; level = site.level; dest = site.number }

    place : Option Site → Point
    place site = unwrap_or (option_map message_place (option_map point site)) no_place

    go : (site : Option Site) → site_of dest_numbers plant dest ≡ site → IsSome site → dest_at plant (dest_place plant dest).matrix (dest_place plant dest).level (dest_place plant dest).dest ≡ Some dest
    go None h some = cc
    go (Some site) h some =
        subst (λ (p : Point). dest_at plant p.matrix p.level p.dest ≡ Some dest) (sym (ap place h)) (site_of-number_at dest_numbers plant (dests_are plant is) dest site h)

-- the next notice of a valid state is none, or of one of the plant's destinations
pub record IsNextOf (state : State) (panel dest : ℕ) (sort : Sort) : Type 0 where
  pub within : panel < length state.boards
  pub next_is : next (board_of state.boards panel) ≡ Some (dest, sort)
  pub below : dest < destinations_of state.plant

next_of : (state : State) (panel : ℕ) → IsValid state → (next (board_of state.boards panel) ≡ None) ⊎ ((dest : ℕ) × (sort : Sort) × IsNextOf state panel dest sort)
next_of state panel valid = go (next (board_of state.boards panel)) refl
  where
    go : (notice : Option (ℕ × Sort)) → next (board_of state.boards panel) ≡ notice → (next (board_of state.boards panel) ≡ None) ⊎ ((dest : ℕ) × (sort : Sort) × IsNextOf state panel dest sort)
    go None h = inl h
    go (Some (dest, sort)) h =
        let stood = (next-IsNext (board_of state.boards panel) dest sort h).stood in
        inr (dest, sort, record { within = within_has state.boards panel dest sort stood; next_is = h; below = valid.boards.below panel dest sort stood })

-- a poll takes notice of one of the plant's destinations
pub next-below : (state : State) (panel : ℕ) (notice : Option (ℕ × Sort)) → IsValid state → notice ≡ next (board_of state.boards panel) → IfSome notice (λ n. n.0 < destinations_of state.plant)
next-below state panel None valid is = tt
next-below state panel (Some (dest, sort)) valid is = valid.boards.below panel dest sort (next-IsNext (board_of state.boards panel) dest sort (sym is)).stood

-- what a notice tells is what stands at the destination's place, or its owner
notice-tells : (state : State) (dest : ℕ) (sort : Sort) → dest_of state (dest_place state.plant dest) ≡ Some dest → Tells state (dest_place state.plant dest) sort (told_for state dest sort)
notice-tells state dest Source place = refl
notice-tells state dest Protect place =
    ap (told_owner (dest_place state.plant dest)) (sym (ap (option_and_then (finite.get state.owners)) place))

pub told_next : (state : State) (panel dest : ℕ) (sort : Sort) (item turn : ℕ) → IsValid state → IsNextOf state panel dest sort → PollTells state panel item turn dest sort
told_next state panel dest sort item turn valid is =
    let place = dest_place-is state.plant dest valid.is_plant is.below in
    record {
      at = dest_place state.plant dest;
      place = place;
      told = told_for state dest sort;
      answer = ap (notice_of state) is.next_is;
      tells = notice-tells state dest sort place;
      taken = with_removal-Removes state.boards panel dest sort is.within is.next_is;
      rest = refl;
    }

-- a poll tells of one destination, or there is no notice
pub poll-IsTold : (state : State) (panel dest item turn : ℕ) (sort : Sort) → IsValid state → has state.boards panel dest sort ≡ true → (first : ℕ) × (kind : Sort) × PollTells state panel item turn first kind
poll-IsTold state panel dest item turn sort valid h = elim (next_of state panel valid) [
  | inl none ↦
      absurd (both_ways (has state.boards panel dest sort) (empty_has (board_of state.boards panel) dest sort ((next-None (board_of state.boards panel) (next (board_of state.boards panel)) refl).0 (ap is_some none))) h)
  | inr first ↦ (first.0, first.1, told_next state panel first.0 first.1 item turn valid first.2)
]

nothing_next : (state : State) (panel item turn : ℕ) → next (board_of state.boards panel) ≡ None → step state (Poll panel item turn) ≡ record { state = state; answers = [] }
nothing_next state panel item turn none =
    let same : with_removal state.boards panel ≡ state.boards = ap (λ n. set state.boards panel (without (board_of state.boards panel) n)) none ∙ set-get_or state.boards panel blank in
    λ i. record { state = record state { boards = same i }; answers = notice_of state (none i) }

pub poll-nothing : (state : State) (panel item turn : ℕ) → IsValid state → ((dest : ℕ) (sort : Sort) → has state.boards panel dest sort ≡ false) → step state (Poll panel item turn) ≡ record { state = state; answers = [] }
poll-nothing state panel item turn valid none_has = elim (next_of state panel valid) [
  | inl none ↦ nothing_next state panel item turn none
  | inr first ↦
      absurd (both_ways (has state.boards panel first.0 first.1) (none_has first.0 first.1) (next-IsNext (board_of state.boards panel) first.0 first.1 first.2.next_is).stood)
]
