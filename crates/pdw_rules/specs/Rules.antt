-- The local rules: under which property the rows of an operator stand that is applied at each node, by those of its children.
use Rattle.std.specs.Prelude.{◌==◌, ◌&&◌, ◌||◌, Bool, true, false, not, List, [], ◌∷◌, ◌++◌, map, Option, Some, None, is_none, if◌then◌else◌}
use Rattle.std.specs.List.{list_any}
use Rattle.pdw_base.specs.declared.schema.ColId.{ColId}
use Rattle.pdw_expr.specs.declared.agg.JoinKind.{JoinKind}
use Rattle.pdw_expr.specs.declared.agg.JoinKind.TheVariants as kind
use Rattle.pdw_expr.specs.declared.cond.Cond.{Cond}
use Rattle.pdw_expr.specs.declared.scalar.Scalar.{Scalar}
use Rattle.pdw_groups.specs.Columns.{equality_columns}
use Rattle.pdw_groups.specs.declared.op.Op.{Op}
use Rattle.pdw_groups.specs.declared.op.Op.TheVariants as op
use Rattle.pdw_move.specs.declared.kinds.Prop.{Prop}
use Rattle.pdw_move.specs.declared.kinds.Prop.TheVariants as prop

abbrev pub is_same : Prop → Prop → Bool
is_same prop.Spread prop.Spread = true
is_same (prop.Hash c) (prop.Hash d) = c.0 == d.0
is_same prop.Replicated prop.Replicated = true
is_same prop.Single prop.Single = true
is_same prop.Control prop.Control = true
is_same _ _ = false

-- ---- the properties of a group

-- spread, by the hash of each of its interesting columns, replicated, at one node, at the control node
abbrev pub properties_of : List ColId → List Prop
properties_of interesting = prop.Spread ∷ map prop.Hash interesting ++ prop.Replicated ∷ prop.Single ∷ prop.Control ∷ []

-- rows of a group may stand by the hash of an interesting column alone
abbrev pub may_have : List ColId → Prop → Bool
may_have interesting prop.Spread = true
may_have interesting (prop.Hash c) = list_any (λ i. i.0 == c.0) interesting
may_have interesting prop.Replicated = true
may_have interesting prop.Single = true
may_have interesting prop.Control = true

-- ---- free changes

-- rows by a hash are spread, and of replicated rows one node's are enough
abbrev pub is_free : Prop → Prop → Bool
is_free (prop.Hash c) prop.Spread = true
is_free prop.Replicated prop.Single = true
is_free _ _ = false

-- ---- scans

abbrev pub by_hash : Option ColId → Prop
by_hash None = prop.Spread
by_hash (Some c) = prop.Hash c

-- by the hash of the used column by which the table is placed, spread where it is not used, or replicated
abbrev pub scan_property : Option ColId → Bool → Prop
scan_property hash replicated = if replicated then prop.Replicated else by_hash hash

abbrev pub scan_rule : Option ColId → Bool → Prop → Bool
scan_rule hash replicated result = is_same (scan_property hash replicated) result

-- ---- filters and projections

abbrev pub filter_rule : Prop → Prop → Bool
filter_rule p result = is_same p result

-- a column is passed through: the item of its number is the column itself and has no expression
abbrev pub passes : List (ColId × Option Scalar) → ColId → Bool
passes [] c = false
passes (item ∷ items) c = if item.0.0 == c.0 then is_none item.1 else passes items c

-- rows by the hash of a column that is not passed through are spread
abbrev pub projected_property : List (ColId × Option Scalar) → Prop → Prop
projected_property items prop.Spread = prop.Spread
projected_property items (prop.Hash c) = if passes items c then prop.Hash c else prop.Spread
projected_property items prop.Replicated = prop.Replicated
projected_property items prop.Single = prop.Single
projected_property items prop.Control = prop.Control

abbrev pub project_rule : List (ColId × Option Scalar) → Prop → Prop → Bool
project_rule items p result = is_same (projected_property items p) result

-- ---- joins

-- two columns are these two, in either order
abbrev pub is_pair : ColId → ColId → List ColId → Bool
is_pair a b [] = false
is_pair a b (c ∷ []) = false
is_pair a b (c ∷ d ∷ rest) = ((c.0 == a.0) && (d.0 == b.0)) || ((c.0 == b.0) && (d.0 == a.0))

-- a conjunct that compares the two columns by `=`, in either writing
abbrev pub equates : ColId → ColId → Cond → Bool
equates a b conjunct = is_pair a b (equality_columns conjunct)

abbrev pub matches_on : List Cond → ColId → ColId → Bool
matches_on conds a b = list_any (equates a b) conds

-- what rows stand under that are joined where their columns meet: an unmatched right row has NULL in the left one's column
abbrev pub matched_rule : JoinKind → ColId → ColId → Prop → Bool
matched_rule kind.Inner a b result = is_same (prop.Hash a) result || is_same (prop.Hash b) result
matched_rule kind.Left a b result = is_same (prop.Hash a) result
matched_rule kind.Full a b result = is_same prop.Spread result
matched_rule kind.Semi a b result = is_same (prop.Hash a) result
matched_rule kind.Anti a b result = is_same (prop.Hash a) result

-- both sides by the hash of the columns that a conjunct compares
abbrev pub hashes_rule : JoinKind → List Cond → Prop → Prop → Prop → Bool
hashes_rule kind conds (prop.Hash a) (prop.Hash b) result = matches_on conds a b && matched_rule kind a b result
hashes_rule kind conds _ _ result = false

-- each row stands at one compute node
abbrev pub is_divided : Prop → Bool
is_divided prop.Spread = true
is_divided (prop.Hash c) = true
is_divided prop.Replicated = false
is_divided prop.Single = true
is_divided prop.Control = false

abbrev pub is_full : JoinKind → Bool
is_full kind.Full = true
is_full _ = false

abbrev pub is_inner : JoinKind → Bool
is_inner kind.Inner = true
is_inner _ = false

-- all right rows are where a left row is: the rows stand as the left ones, but for unmatched right rows of a full join
abbrev pub replicated_right_rule : JoinKind → Prop → Prop → Prop → Bool
replicated_right_rule kind p q result = not (is_full kind) && (is_divided p && (is_same q prop.Replicated && is_same p result))

-- all left rows are where a right row is: an inner join alone has no unmatched left rows
abbrev pub replicated_left_rule : JoinKind → Prop → Prop → Prop → Bool
replicated_left_rule kind p q result = is_inner kind && (is_same p prop.Replicated && (is_divided q && is_same q result))

-- one node has all rows, or each has
abbrev pub is_whole : Prop → Bool
is_whole prop.Spread = false
is_whole (prop.Hash c) = false
is_whole prop.Replicated = true
is_whole prop.Single = true
is_whole prop.Control = true

-- both sides whole at the same nodes
abbrev pub one_site_rule : Prop → Prop → Prop → Bool
one_site_rule p q result = is_whole p && (is_same p q && is_same p result)

abbrev pub join_rule : JoinKind → List Cond → Prop → Prop → Prop → Bool
join_rule kind conds p q result =
    hashes_rule kind conds p q result
    || (replicated_right_rule kind p q result || (replicated_left_rule kind p q result || one_site_rule p q result))

-- ---- groups

abbrev pub is_key : List ColId → ColId → Bool
is_key keys c = list_any (λ key. key.0 == c.0) keys

-- rows of one group stand at one node where they stand by the hash of a key
abbrev pub is_grouped : List ColId → Prop → Bool
is_grouped keys prop.Spread = false
is_grouped keys (prop.Hash c) = is_key keys c
is_grouped keys prop.Replicated = true
is_grouped keys prop.Single = true
is_grouped keys prop.Control = true

abbrev pub group_rule : List ColId → Prop → Prop → Bool
group_rule keys p result = is_grouped keys p && is_same p result

-- partial rows have no column but keys and aggregates
abbrev pub partial_property : List ColId → Prop → Prop
partial_property keys prop.Spread = prop.Spread
partial_property keys (prop.Hash c) = if is_key keys c then prop.Hash c else prop.Spread
partial_property keys prop.Replicated = prop.Replicated
partial_property keys prop.Single = prop.Single
partial_property keys prop.Control = prop.Control

abbrev pub partial_rule : List ColId → Prop → Prop → Bool
partial_rule keys p result = is_same (partial_property keys p) result

-- ---- operators over their children

-- an operator without child
abbrev pub leaf_rule : Op → Prop → Bool
leaf_rule (op.Scan table alias cols hash replicated) result = scan_rule hash replicated result
leaf_rule (op.Filter conds) result = false
leaf_rule (op.Project items) result = false
leaf_rule (op.Join kind conds) result = false
leaf_rule (op.GroupBy keys aggs) result = false
leaf_rule (op.Partial keys aggs) result = false
leaf_rule (op.Final keys aggs) result = false

-- of one child
abbrev pub unary_rule : Op → Prop → Prop → Bool
unary_rule (op.Scan table alias cols hash replicated) p result = false
unary_rule (op.Filter conds) p result = filter_rule p result
unary_rule (op.Project items) p result = project_rule items p result
unary_rule (op.Join kind conds) p result = false
unary_rule (op.GroupBy keys aggs) p result = group_rule keys p result
unary_rule (op.Partial keys aggs) p result = partial_rule keys p result
unary_rule (op.Final keys aggs) p result = group_rule keys p result

-- of two
abbrev pub binary_rule : Op → Prop → Prop → Prop → Bool
binary_rule (op.Scan table alias cols hash replicated) p q result = false
binary_rule (op.Filter conds) p q result = false
binary_rule (op.Project items) p q result = false
binary_rule (op.Join kind conds) p q result = join_rule kind conds p q result
binary_rule (op.GroupBy keys aggs) p q result = false
binary_rule (op.Partial keys aggs) p q result = false
binary_rule (op.Final keys aggs) p q result = false

-- an operator over children under these properties gives rows under this one
abbrev pub local_rule : Op → List Prop → Prop → Bool
local_rule operator [] result = leaf_rule operator result
local_rule operator (p ∷ []) result = unary_rule operator p result
local_rule operator (p ∷ q ∷ []) result = binary_rule operator p q result
local_rule operator (p ∷ q ∷ r ∷ rest) result = false
