-- Sends, and what they leave.
use Rattle.std.proofs.Common.{◌≡◌, ℕ, zero, suc, ◌-◌, List, [], ◌∷◌, ◌++◌, length, map, filter, take, slice_get, Option, Some, IfSome, inl, inr, refl, sym, ap, ◌∙◌, subst, arith}
use Rattle.std.specs.Prelude.{◌⊎◌}
use Rattle.std.proofs.lemmas.List.{append_assoc, append-nil, length-append, map-append, take_at}
use Rattle.std.proofs.lemmas.List.Elements.{filter-append}
use Rattle.ctl_net.specs.declared.port.Sent.TheVariants.{Done, Failed}
use Rattle.plant_config.specs.Plant.{PlantData}
use Rattle.panel_session.specs.Entry.{PlantEntry}
use Rattle.panel_server.specs.declared.poll.Polled.{Polled}
use Rattle.panel_server.specs.declared.poll.Polled.TheVariants.{Quiet, Lit, Last}
use Rattle.ctl_net.specs.Port.{SendsOn}
use Rattle.panel_server.specs.Driven.{AreInRounds, LampSend, faults_after, lamp_packet, packets_given, poll_at, was_lost, was_done}
use Rattle.panel_server.specs.DrivenInside.{lost_by, send_of, sent_by}

module _ {P : Type 0} (WasSent : P → List (List ℕ) → Type 0) where
  -- packets that were sent and then others, and no packets
  pub sends_both : (a b c : P) (one other : List (List ℕ)) → SendsOn WasSent a b one → SendsOn WasSent b c other → SendsOn WasSent a c (one ++ other)
  sends_both a b c one other first more = λ former was. subst (WasSent c) (append_assoc former one other) (more (former ++ one) (first former was))

  pub sends_none : (a b : P) → ((packets : List (List ℕ)) → WasSent a packets → WasSent b packets) → SendsOn WasSent a b []
  sends_none a b stays = λ former was. subst (WasSent b) (sym (append-nil former)) (stays former was)

-- what sends and others behind them leave
pub given_both : (plant : PlantData) (sends more : List LampSend) → packets_given plant (sends ++ more) ≡ packets_given plant sends ++ packets_given plant more
given_both plant sends more =
    let packet = λ (send : LampSend). lamp_packet plant send.entry in
    ap (λ (done : List LampSend). map packet done) (filter-append was_done sends more) ∙ map-append packet (filter was_done sends) (filter was_done more)

pub faults_both : (sends more : List LampSend) (count : ℕ) → faults_after (sends ++ more) count ≡ faults_after more (faults_after sends count)
faults_both [] more count = refl
faults_both (send ∷ sends) more count = faults_both sends more _

-- the one send of a poll is counted
pub one_sent : (entry : PlantEntry) (polled : Polled) → length (filter was_done (send_of entry polled)) ≡ sent_by polled
one_sent entry Quiet = refl
one_sent entry (Lit Done) = refl
one_sent entry (Lit Failed) = refl
one_sent entry Last = refl

pub one_lost : (entry : PlantEntry) (polled : Polled) → length (filter was_lost (send_of entry polled)) ≡ lost_by polled
one_lost entry Quiet = refl
one_lost entry (Lit Done) = refl
one_lost entry (Lit Failed) = refl
one_lost entry Last = refl

-- what stands in a list with one more element
at_pushed : {X : Type 0} → (xs : List X) (x y : X) (k : ℕ) → slice_get (xs ++ x ∷ []) k ≡ Some y → (slice_get xs k ≡ Some y) ⊎ ((k ≡ length xs) × (x ≡ y))
at_pushed {X = X} [] x y zero is =
    let Is : Option X → Type 0 = λ first. IfSome first (λ z. x ≡ z) in
    inr (refl, subst Is is refl)
at_pushed [] x y (suc k) is = absurd cc
at_pushed (z ∷ xs) x y zero is = inl is
at_pushed (z ∷ xs) x y (suc k) is = elim (at_pushed xs x y k is) [
  | (inl before) ↦ inl before
  | (inr last) ↦ inr (omega (arith, last.0), last.1)
]

-- entries that are the polls, and the next one
pub polls_none : (plant : PlantData) → AreInRounds plant []
polls_none plant = λ k entry at. absurd cc

pub polls_more : (plant : PlantData) (entries : List PlantEntry) (entry : PlantEntry) → AreInRounds plant entries → entry.request ≡ poll_at plant (length entries) → AreInRounds plant (entries ++ entry ∷ [])
polls_more plant entries entry polls is = λ k other at. elim (at_pushed entries entry other k at) [
  | (inl before) ↦ polls k other before
  | (inr last) ↦ ap (λ (entry : PlantEntry). entry.request) (sym last.1) ∙ is ∙ ap (poll_at plant) (sym last.0)
]

-- a list without its last element
pub all_but_last : {X : Type 0} → (xs : List X) (x : X) → take (length (xs ++ x ∷ []) - 1) (xs ++ x ∷ []) ≡ xs
all_but_last xs x = take_at xs (x ∷ []) (length (xs ++ x ∷ []) - 1) (omega (arith, length-append xs (x ∷ [])))
