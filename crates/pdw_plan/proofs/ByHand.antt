-- The plans of a left join of two tables, each by the hash of its column, on the equality of the two: worked out by hand.
use Rattle.std.proofs.Common.{◌≡◌, ℕ, ◌&&◌, ◌||◌, Bool, true, false, List, [], ◌∷◌, Option, Some, None, ap, ap₂, ◌∙◌}
use Rattle.pdw_base.specs.declared.schema.ColId.{ColId}
use Rattle.pdw_base.specs.declared.value.Kind.TheVariants as kinds
use Rattle.pdw_expr.specs.declared.agg.JoinKind.TheVariants as joins
use Rattle.pdw_expr.specs.declared.cond.Cmp.TheVariants as compares
use Rattle.pdw_expr.specs.declared.cond.Cond as conditions
use Rattle.pdw_expr.specs.declared.cond.Cond.{Cond}
use Rattle.pdw_expr.specs.declared.cond.Cond.TheFolds.{fold-roll-Cond}
use Rattle.pdw_expr.specs.declared.cond.Cond.TheOpen.{Cond-F}
use Rattle.pdw_expr.specs.declared.cond.Cond.TheVariants.{Compare}
use Rattle.pdw_expr.specs.declared.scalar.Scalar.TheFolds.{fold-roll-Scalar}
use Rattle.pdw_expr.specs.declared.scalar.Scalar.TheOpen.{Scalar-F}
use Rattle.pdw_expr.specs.declared.scalar.Scalar.TheVariants.{Col}
use Rattle.pdw_expr.specs.declared.scalar.Scalar as scalars
use Rattle.pdw_groups.specs.Columns.{column_alone, column_step, equal_pair, equality_columns, equality_step}
use Rattle.pdw_groups.specs.declared.group.Group.{Group}
use Rattle.pdw_groups.specs.declared.key.GroupId.{GroupId}
use Rattle.pdw_groups.specs.declared.key.GroupKey.TheVariants as key
use Rattle.pdw_groups.specs.declared.op.Op.TheVariants as op
use Rattle.pdw_move.specs.declared.kinds.Prop.{Prop}
use Rattle.pdw_move.specs.declared.kinds.Prop.TheVariants.{Hash}
use Rattle.pdw_plan.specs.Walk.{no_costs}
use Rattle.pdw_rules.specs.Rules.{is_pair, matches_on}
use Rattle.pdw_ways.specs.Shape.{Shape, fault_at, made_in, query_fault, shape_step}
use Rattle.pdw_ways.specs.Ways.{is_at, is_operated}
use Rattle.pdw_ways.specs.declared.plan.Plan.TheOpen.{Plan-F}

abbrev a : ColId
a = record { 0 = 0 }

abbrev b : ColId
b = record { 0 = 1 }

abbrev equal : Cond
equal = Compare compares.Eq (Col a) (Col b)

abbrev g : ℕ → GroupId
g number = record { 0 = number }

abbrev l_scan : Group
l_scan = record {
  key = key.Whole 0;
  schema = (a, kinds.Int) ∷ [];
  interesting = a ∷ [];
  exprs = record { op = op.Scan [] [] ((a, 0) ∷ []) (Some a) false; children = [] } ∷ [];
}

abbrev r_scan : Group
r_scan = record {
  key = key.Whole 1;
  schema = (b, kinds.Int) ∷ [];
  interesting = b ∷ [];
  exprs = record { op = op.Scan [] [] ((b, 0) ∷ []) (Some b) false; children = [] } ∷ [];
}

abbrev join : Group
join = record {
  key = key.Whole 2;
  schema = (a, kinds.Int) ∷ (b, kinds.Int) ∷ [];
  interesting = a ∷ b ∷ [];
  exprs = record { op = op.Join joins.Left (equal ∷ []); children = g 0 ∷ g 1 ∷ [] } ∷ [];
}

abbrev root : Group
root = record {
  key = key.Whole 3;
  schema = (a, kinds.Int) ∷ (b, kinds.Int) ∷ [];
  interesting = a ∷ b ∷ [];
  exprs = record { op = op.Project ((a, None) ∷ (b, None) ∷ []); children = g 2 ∷ [] } ∷ [];
}

abbrev groups : List Group
groups = l_scan ∷ r_scan ∷ join ∷ root ∷ []

abbrev node : Plan-F Shape → Shape
node = shape_step groups no_costs

-- the conjunct compares the two columns
alone : (c : ColId) → column_alone (Col c) ≡ Some c
unfolding scalars.roll-Scalar denote.Hole.Carrier.roll
alone c = fold-roll-Scalar (Option ColId) column_step (Scalar-F.Col c)

compared : equality_columns equal ≡ a ∷ b ∷ []
unfolding conditions.roll-Cond denote.Hole.Carrier.roll
compared = fold-roll-Cond (List ColId) equality_step (Cond-F.Compare compares.Eq (Col a) (Col b)) ∙ ap₂ (equal_pair compares.Eq) (alone a) (alone b)

matches : matches_on (equal ∷ []) a b ≡ true
matches = ap (λ (columns : List ColId). is_pair a b columns || false) compared

-- the scans, the join under a property, and the root under another
abbrev sides : List Shape
sides = node (Plan-F.Scan (g 0) (Hash a)) ∷ node (Plan-F.Scan (g 1) (Hash b)) ∷ []

abbrev joined : Prop → Shape
joined p = node (Plan-F.Op (g 2) p sides)

abbrev whole : Prop → Prop → Shape
whole p q = node (Plan-F.Op (g 3) q (joined p ∷ []))

abbrev fault : Shape → Option ℕ
fault shape = query_fault groups shape

-- the join where it is a way, or not
abbrev joined_where : Bool → Prop → Shape
joined_where is_way p = record { made = record { group = g 2; prop = p }; nodes = 3; fault = fault_at sides is_way; cost = 0 }

abbrev whole_where : Bool → Prop → Prop → Shape
whole_where is_way p q = node (Plan-F.Op (g 3) q (joined_where is_way p ∷ []))

by_left_hash : is_at groups (g 2) (λ of. is_operated of (made_in sides) (Hash a)) ≡ true
by_left_hash = ap (λ is. ((is && true) || (false || (false || false))) || false) matches

by_right_hash : is_at groups (g 2) (λ of. is_operated of (made_in sides) (Hash b)) ≡ false
by_right_hash = ap (λ is. ((is && false) || (false || (false || false))) || false) matches

-- by the left column's hash the join and the root are ways
well : fault (whole (Hash a) (Hash a)) ≡ None
well = ap (λ is. fault (whole_where is (Hash a) (Hash a))) by_left_hash

-- by the right one's the join is none
join_fault : fault (whole (Hash b) (Hash b)) ≡ Some 2
join_fault = ap (λ is. fault (whole_where is (Hash b) (Hash b))) by_right_hash

-- the root has the property that the join has
root_fault : fault (whole (Hash a) (Hash b)) ≡ Some 3
root_fault = ap (λ is. fault (whole_where is (Hash a) (Hash b))) by_left_hash

-- without the root the last node's group is not the root
no_root : fault (joined (Hash a)) ≡ Some 2
no_root = ap (λ is. fault (joined_where is (Hash a))) by_left_hash
