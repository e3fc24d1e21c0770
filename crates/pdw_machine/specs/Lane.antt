-- The packet that a lane fills, where there is one, and packets in their blocks.
use Rattle.std.specs.Prelude.{◌≡◌, ⊤, List, [], ◌∷◌, map, Option, Some, None}
use Rattle.std.specs.Global.{Box}
use Rattle.pdw_base.specs.declared.node.Node.{Node}
use Rattle.pdw_packet.specs.Packet.{Parcel}
use Rattle.pdw_move.specs.Placed.{Row}

abbrev pub filling_rows : Option (Box Parcel) → List Row
filling_rows None = []
filling_rows (Some packet) = packet.value.rows

-- the packet goes where its lane goes
abbrev pub IsAddressed : Node → Node → Option (Box Parcel) → Type 0
IsAddressed from to None = ⊤
IsAddressed from to (Some packet) = (packet.value.from ≡ from) × (packet.value.to ≡ to)

abbrev pub parcels : List (Box Parcel) → List Parcel
parcels = map (λ packet. packet.value)

abbrev pub parcel_list : Option (Box Parcel) → List Parcel
parcel_list None = []
parcel_list (Some packet) = packet.value ∷ []
