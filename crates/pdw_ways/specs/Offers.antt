-- The cheapest way by bounds.
use Rattle.std.specs.Prelude.{◌≡◌, ℕ, Bool, true, false, Option, Some, IfSome}
use Rattle.std.specs.Option.{option_map}
use Rattle.pdw_groups.specs.declared.group.Group.{Group}
use Rattle.pdw_move.specs.declared.kinds.Prop.{Prop}
use Rattle.pdw_ways.specs.Bounds.{AtMost}
use Rattle.pdw_ways.specs.Ways.{is_way}
use Rattle.pdw_ways.specs.declared.offer.Offer.{Offer}
use Rattle.pdw_ways.specs.declared.way.Way.{Way}
use Rattle.pdw_ways.specs.declared.way.Way.TheVariants as way

abbrev pub cost_of_offer : Option Offer → Option ℕ
cost_of_offer offer = option_map (λ (o : Offer). o.cost) offer

-- of some ways with their sums, none has a sum below the offer's, and the offer is one of them; no offer where each sum is unreachable
pub record Best (Is : Way → Type 0) (sum : Way → Option ℕ) (offer : Option Offer) : Type 0 where
  pub under : (way : Way) → Is way → AtMost (cost_of_offer offer) (sum way)
  pub attained : IfSome offer (λ (o : Offer). Is o.way × (sum o.way ≡ Some o.cost))

-- scans and operators, whose children are other groups
abbrev pub is_local : Way → Bool
is_local way.Scan = true
is_local (way.One child) = true
is_local (way.Two left right) = true
is_local (way.Moved move) = false
is_local (way.Free before) = false

abbrev pub IsWay : Group → Prop → Way → Type 0
IsWay group made way = is_way group made way ≡ true

abbrev pub IsLocalWay : Group → Prop → Way → Type 0
IsLocalWay group made way = (is_local way ≡ true) × IsWay group made way

-- moves and free changes within a group
abbrev pub IsInnerWay : Group → Prop → Way → Type 0
IsInnerWay group made way = (is_local way ≡ false) × IsWay group made way
