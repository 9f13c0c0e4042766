-- The pieces in which a link gives the bytes of a panel.
use Rattle.std.specs.Prelude.{ℕ, ◌*◌, List, length, map, take, drop}
use Rattle.std.specs.Int.{div_ceil}
use Rattle.std.specs.List.{range_with_len}
use Rattle.ctl_net.specs.declared.link_event.LinkEvent.{LinkEvent}
use Rattle.ctl_net.specs.declared.link_event.LinkEvent.TheVariants.{Piece}

-- how many bytes a piece has; the last one may have fewer
abbrev pub piece_len : ℕ
piece_len = 512

-- how many pieces bytes have
abbrev pub piece_count : List ℕ → ℕ
piece_count bytes = div_ceil (length bytes) piece_len

-- the piece of this number, from 0 on
abbrev pub piece_at : List ℕ → ℕ → List ℕ
piece_at bytes at = take piece_len (drop (at * piece_len) bytes)

-- bytes in their pieces
abbrev pub in_pieces : List ℕ → List LinkEvent
in_pieces bytes = map (λ at. Piece (piece_at bytes at)) (range_with_len 0 (piece_count bytes))
