-- What a session counts.
use Rattle.std.specs.Prelude.{◌≡◌, ℕ, Bool, true, false, List, length, count_by}
use Rattle.dle_framing.specs.declared.item.Item.{Item}
use Rattle.dle_framing.specs.declared.item.Item.TheVariants.{Good, Bad, Ack, Nak}
use Rattle.dle_framing.specs.Items.{items}
use Rattle.panel_session.specs.declared.session.counts.Counts.{Counts}
use Rattle.panel_session.specs.SoFar.{Progress, read_so_far}

-- whether an item is a good frame, and whether it is a bad one
abbrev pub is_good_item : Item (List ℕ) → Bool
is_good_item (Good carried) = true
is_good_item Bad = false
is_good_item Ack = false
is_good_item Nak = false

abbrev pub is_bad_item : Item (List ℕ) → Bool
is_bad_item (Good carried) = false
is_bad_item Bad = true
is_bad_item Ack = false
is_bad_item Nak = false

-- the good and the bad frames among items
abbrev pub goods_of : List (Item (List ℕ)) → ℕ
goods_of items = count_by is_good_item items

abbrev pub bads_of : List (Item (List ℕ)) → ℕ
bads_of items = count_by is_bad_item items

-- These are the counts of a past.
pub record AreCounts (past : Progress) (counts : Counts) : Type 0 where
  pub goods : counts.goods ≡ goods_of (items (read_so_far past))
  pub bads : counts.bads ≡ bads_of (items (read_so_far past))
  pub turns : counts.turns ≡ length past.turns
