-- The definitions at worked frames and streams.
use Rattle.std.proofs.Common.{◌≡◌, [], ◌∷◌, ◌++◌, ℕ, List, refl}
use Rattle.dle_framing.specs.declared.item.Item.TheVariants.{Good, Bad, Ack, Nak}
use Rattle.dle_framing.specs.Frame.{frame}
use Rattle.dle_framing.specs.Items.{items, rest, reading}

interrogates_5 : frame (1 ∷ 0 ∷ 0 ∷ 5 ∷ []) ≡ 0x10 ∷ 2 ∷ 1 ∷ 0 ∷ 0 ∷ 5 ∷ 4 ∷ 0xF6 ∷ 0x10 ∷ 3 ∷ []
interrogates_5 = refl

connects_5_to_3 : frame (2 ∷ 0 ∷ 0 ∷ 5 ∷ 3 ∷ []) ≡ 0x10 ∷ 2 ∷ 2 ∷ 0 ∷ 0 ∷ 5 ∷ 3 ∷ 5 ∷ 0xF1 ∷ 0x10 ∷ 3 ∷ []
connects_5_to_3 = refl

-- the destination is a DLE
connects_16_to_3 : frame (2 ∷ 0 ∷ 0 ∷ 0x10 ∷ 3 ∷ []) ≡ 0x10 ∷ 2 ∷ 2 ∷ 0 ∷ 0 ∷ 0x10 ∷ 0x10 ∷ 3 ∷ 5 ∷ 0xE6 ∷ 0x10 ∷ 3 ∷ []
connects_16_to_3 = refl

-- the check byte is a DLE
a_check_byte_of_dle : frame (1 ∷ 0xE0 ∷ 0 ∷ 0x0B ∷ []) ≡ 0x10 ∷ 2 ∷ 1 ∷ 0xE0 ∷ 0 ∷ 0x0B ∷ 4 ∷ 0x10 ∷ 0x10 ∷ 0x10 ∷ 3 ∷ []
a_check_byte_of_dle = refl

-- the length is a DLE
a_length_of_dle : frame (0 ∷ 0 ∷ 0 ∷ 0 ∷ 0 ∷ 0 ∷ 0 ∷ 0 ∷ 0 ∷ 0 ∷ 0 ∷ 0 ∷ 0 ∷ 0 ∷ 0 ∷ 0 ∷ [])
    ≡ 0x10 ∷ 2 ∷ 0 ∷ 0 ∷ 0 ∷ 0 ∷ 0 ∷ 0 ∷ 0 ∷ 0 ∷ 0 ∷ 0 ∷ 0 ∷ 0 ∷ 0 ∷ 0 ∷ 0 ∷ 0 ∷ 0x10 ∷ 0x10 ∷ 0xF0 ∷ 0x10 ∷ 3 ∷ []
a_length_of_dle = refl

-- the least frame, by which a stream goes on below
abbrev least : List ℕ
least = 0x10 ∷ 2 ∷ 1 ∷ 1 ∷ 0xFE ∷ 0x10 ∷ 3 ∷ []

the_least_frame : frame (1 ∷ []) ≡ least
the_least_frame = refl

behind_a_frame_that_starts_anew : items (0x10 ∷ 2 ∷ 1 ∷ 0 ∷ least) ≡ Good (1 ∷ []) ∷ []
unfolding reading
behind_a_frame_that_starts_anew = refl

-- an ACK's bytes abandon a frame, and are no ACK
behind_an_abandoned_frame : items (0x10 ∷ 2 ∷ 1 ∷ 0x10 ∷ 6 ∷ least) ≡ Good (1 ∷ []) ∷ []
unfolding reading
behind_an_abandoned_frame = refl

behind_noise : items (7 ∷ 0x10 ∷ least) ≡ Good (1 ∷ []) ∷ []
unfolding reading
behind_noise = refl

-- bodies of no byte and of two, a wrong check byte, and a length that counts a doubled byte twice
bad_frames : items ((0x10 ∷ 2 ∷ 0x10 ∷ 3 ∷ []) ++ (0x10 ∷ 2 ∷ 0 ∷ 0 ∷ 0x10 ∷ 3 ∷ []) ++ (0x10 ∷ 2 ∷ 1 ∷ 1 ∷ 0xFF ∷ 0x10 ∷ 3 ∷ []) ++ (0x10 ∷ 2 ∷ 0x10 ∷ 0x10 ∷ 2 ∷ 0xEE ∷ 0x10 ∷ 3 ∷ [])) ≡ Bad ∷ Bad ∷ Bad ∷ Bad ∷ []
unfolding reading
bad_frames = refl

answers : items (0x10 ∷ 0x15 ∷ 0x10 ∷ 6 ∷ []) ≡ Nak ∷ Ack ∷ []
unfolding reading
answers = refl

half_a_frame : rest (7 ∷ 0x10 ∷ 2 ∷ 1 ∷ 0x10 ∷ []) ≡ 0x10 ∷ 2 ∷ 1 ∷ 0x10 ∷ []
unfolding reading
half_a_frame = refl
