-- What a packet shows: where it comes from, where it goes, and its rows in order.
use Rattle.std.specs.Prelude.{List, []}
use Rattle.pdw_base.specs.declared.node.Node.{Node}
use Rattle.pdw_base.specs.declared.value.Value.{Value}

pub record Parcel : Type 0 where
  pub from : Node
  pub to : Node
  pub rows : List (List Value)

-- without rows
abbrev pub empty_parcel : Node → Node → Parcel
empty_parcel from to = record { from = from; to = to; rows = [] }

-- with these rows in place of its own
abbrev pub with_rows : List (List Value) → Parcel → Parcel
with_rows rows parcel = record { from = parcel.from; to = parcel.to; rows = rows }
