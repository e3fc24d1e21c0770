-- The ways to make the rows of a group under a property: a scan, an operator of the group, a move, or a free change.
use Rattle.std.specs.Prelude.{◌==◌, ◌&&◌, ℕ, Bool, true, false, List, [], ◌∷◌, map, Option, Some, None}
use Rattle.std.specs.List.{list_any, slice_get}
use Rattle.pdw_groups.specs.declared.group.Expr.{Expr}
use Rattle.pdw_groups.specs.declared.group.Group.{Group}
use Rattle.pdw_groups.specs.declared.key.GroupId.{GroupId}
use Rattle.pdw_move.specs.Move.{property_after, property_before}
use Rattle.pdw_move.specs.declared.kinds.Move.{Move}
use Rattle.pdw_move.specs.declared.kinds.Prop.{Prop}
use Rattle.pdw_ways.specs.declared.made.Made.{Made}
use Rattle.pdw_ways.specs.declared.way.Way.{Way}
use Rattle.pdw_ways.specs.declared.way.Way.TheVariants as way
use Rattle.pdw_rules.specs.Rules.{is_free, is_same, leaf_rule, local_rule, may_have}

-- ---- expressions over children that make these

-- the children of an expression are the groups of these, one for each
abbrev pub are_groups_of : List Made → List GroupId → Bool
are_groups_of [] [] = true
are_groups_of [] (child ∷ children) = false
are_groups_of (made ∷ below) [] = false
are_groups_of (made ∷ below) (child ∷ children) = (made.group.0 == child.0) && are_groups_of below children

-- an expression over these, whose operator keeps a local rule; a scan, which is over nothing, is a way of its own
abbrev pub operates : List Made → Prop → Expr → Bool
operates [] result expr = false
operates (made ∷ below) result expr = are_groups_of (made ∷ below) expr.children && local_rule expr.op (map (λ (child : Made). child.prop) (made ∷ below)) result

-- ---- what may be made at a group: rows by the hash of an interesting column alone

abbrev pub is_scanned : Group → Prop → Bool
is_scanned group result = may_have group.interesting result && list_any (λ (expr : Expr). leaf_rule expr.op result) group.exprs

abbrev pub is_operated : Group → List Made → Prop → Bool
is_operated group below result = may_have group.interesting result && list_any (operates below result) group.exprs

-- a move takes rows that stand as it reads them
abbrev pub is_moved : Group → Move → Prop → Bool
is_moved group move before = is_same (property_before move) before && may_have group.interesting (property_after move)

abbrev pub is_freed : Group → Prop → Prop → Bool
is_freed group before result = is_free before result && may_have group.interesting result

-- ---- ways

-- a way to make the rows of this group under this property
abbrev pub is_way : Group → Prop → Way → Bool
is_way group result way.Scan = is_scanned group result
is_way group result (way.One child) = is_operated group (child ∷ []) result
is_way group result (way.Two left right) = is_operated group (left ∷ right ∷ []) result
is_way group result (way.Moved move) = is_same (property_after move) result && is_moved group move (property_before move)
is_way group result (way.Free before) = is_freed group before result

-- what its children make
abbrev pub below : GroupId → Way → List Made
below group way.Scan = []
below group (way.One child) = child ∷ []
below group (way.Two left right) = left ∷ right ∷ []
below group (way.Moved move) = record { group = group; prop = property_before move } ∷ []
below group (way.Free before) = record { group = group; prop = before } ∷ []

-- what the moves of a group cost
abbrev pub Costs : Type 0
Costs = GroupId → Move → ℕ

-- what a way adds to the cost of its children: moves alone cost
abbrev pub adds : Costs → GroupId → Way → ℕ
adds costs group way.Scan = 0
adds costs group (way.One child) = 0
adds costs group (way.Two left right) = 0
adds costs group (way.Moved move) = costs group move
adds costs group (way.Free before) = 0

-- ---- by the group's number

abbrev pub is_at_some : Option Group → (Group → Bool) → Bool
is_at_some None test = false
is_at_some (Some group) test = test group

-- there is a group of this number, of which this holds
abbrev pub is_at : List Group → GroupId → (Group → Bool) → Bool
is_at groups number test = is_at_some (slice_get groups number.0) test
