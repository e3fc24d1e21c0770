-- Costs worked out by hand. Of 1,000 rows of 16 bytes two nodes have 8,000 bytes each, of 4 such rows four nodes have
-- 16 each, and of one row of 8 bytes each of four has 2.
use Rattle.std.proofs.Common.{◌≡◌, ℕ, refl}
use Rattle.pdw_base.specs.declared.schema.ColId.{ColId}
use Rattle.pdw_move.specs.Cost.{cost_of_move}
use Rattle.pdw_move.specs.declared.kinds.Move.{Move}
use Rattle.pdw_move.specs.declared.kinds.Move.TheVariants.{Shuffle, ToSingle, ToControl, Broadcast, Trim, FromControl, FromSingle}
use Rattle.pdw_move.specs.declared.cost.Constants.{Constants}

abbrev usual : Constants
usual = record { reader = 1; hash_reader = 2; network = 4; writer = 1; bulk = 3; control = 2 }

abbrev first : ColId
first = record { 0 = 0 }

abbrev at_two_nodes : Move → ℕ
at_two_nodes mv = cost_of_move 2 usual mv (record { rows = 1000; width = 16 })

two_shuffle : at_two_nodes (Shuffle first) ≡ 32000
two_shuffle = refl

two_to_single : at_two_nodes ToSingle ≡ 48000
two_to_single = refl

two_to_control : at_two_nodes ToControl ≡ 96000
two_to_control = refl

two_broadcast : at_two_nodes Broadcast ≡ 64000
two_broadcast = refl

two_trim : at_two_nodes (Trim first) ≡ 32000
two_trim = refl

two_from_single : at_two_nodes FromSingle ≡ 128000
two_from_single = refl

two_from_control : at_two_nodes FromControl ≡ 256000
two_from_control = refl

abbrev at_four_nodes : ℕ → ℕ → Move → ℕ
at_four_nodes rows width mv = cost_of_move 4 usual mv (record { rows = rows; width = width })

partials_to_single : at_four_nodes 4 16 ToSingle ≡ 192
partials_to_single = refl

partials_broadcast : at_four_nodes 4 16 Broadcast ≡ 256
partials_broadcast = refl

partials_to_control : at_four_nodes 4 16 ToControl ≡ 384
partials_to_control = refl

partials_shuffle : at_four_nodes 4 16 (Shuffle first) ≡ 64
partials_shuffle = refl

counts_trim : at_four_nodes 1 8 (Trim first) ≡ 16
counts_trim = refl

counts_to_control : at_four_nodes 1 8 ToControl ≡ 48
counts_to_control = refl
