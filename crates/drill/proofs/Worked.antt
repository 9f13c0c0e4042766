-- Messages and bytes of the drill of number 7, worked out apart from the definitions.
use Rattle.std.proofs.Common.{◌≡◌, ℕ, ◌*◌, ◌/◌, true, false, [], ◌∷◌, Some, refl, ap}
use Rattle.swp08_messages.specs.declared.message.Message.TheVariants.{Interrogate, Connect}
use Rattle.swp08_messages.specs.declared.message.Message.TheVariants.{ProtectConnect, ProtectDisconnect, Store, Go}
use Rattle.drill.specs.Messages.{message_at}
use Rattle.drill.specs.Stream.{bad_among, good_among, sent_at, stream}
use Rattle.drill.proofs.CountLemmas.{bad_counted, good_counted}

gos : (message_at 7 0 0 ≡ Go false 5) × (message_at 7 1 0 ≡ Go true 1)
gos = (refl, refl)

connects : (message_at 7 0 1 ≡ Connect (record { matrix = 0; level = 0; dest = 233 }) (Some 3)) × (message_at 7 1 2 ≡ Connect (record { matrix = 1; level = 0; dest = 160 }) (Some 66))
connects = (refl, refl)

protects : (message_at 7 0 6 ≡ ProtectDisconnect (record { matrix = 0; level = 0; dest = 159 }) 1) × (message_at 7 0 11 ≡ ProtectConnect (record { matrix = 1; level = 0; dest = 29 }) 1)
protects = (refl, refl)

store_and_ask : (message_at 7 1 1 ≡ Store (record { matrix = 0; level = 0; dest = 102 }) (Some 87) 4) × (message_at 7 0 18 ≡ Interrogate (record { matrix = 0; level = 0; dest = 203 }))
store_and_ask = (refl, refl)

-- The second frame has a DLE among its DATA, which is doubled.
two_frames : stream 7 0 2 ≡ 16 ∷ 2 ∷ 121 ∷ 0 ∷ 5 ∷ 3 ∷ 127 ∷ 16 ∷ 3 ∷ 16 ∷ 2 ∷ 2 ∷ 0 ∷ 16 ∷ 16 ∷ 105 ∷ 3 ∷ 5 ∷ 125 ∷ 16 ∷ 3 ∷ []
two_frames = refl

hundredth : sent_at 7 0 99 ≡ 16 ∷ 2 ∷ 2 ∷ 16 ∷ 16 ∷ 17 ∷ 82 ∷ 64 ∷ 5 ∷ 71 ∷ 16 ∷ 3 ∷ []
hundredth = refl

-- Of 100,000 messages of eight panels 99,000 are good frames and 1,000 are bad.
eight_panels : (8 * good_among (100000 / 8) ≡ 99000) × (8 * bad_among (100000 / 8) ≡ 1000)
eight_panels = (ap (λ (n : ℕ). 8 * n) (good_counted 12500), ap (λ (n : ℕ). 8 * n) (bad_counted 12500))
