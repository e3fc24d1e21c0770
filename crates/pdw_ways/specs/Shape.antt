-- What a plan is: a tree in which each node is a way to make the rows of its group under its property.
use Rattle.std.specs.Prelude.{◌≡◌, ◌==◌, ◌-◌, ◌+◌, ℕ, suc, Bool, List, [], ◌∷◌, length, map, Option, Some, None, if◌then◌else◌}
use Rattle.std.specs.List.{sum_by}
use Rattle.std.specs.Option.{option_map, option_or}
use Rattle.pdw_groups.specs.declared.group.Group.{Group}
use Rattle.pdw_groups.specs.declared.key.GroupId.{GroupId}
use Rattle.pdw_move.specs.Move.{property_after}
use Rattle.pdw_ways.specs.Ways.{Costs, is_at, is_freed, is_moved, is_operated, is_scanned}
use Rattle.pdw_ways.specs.declared.made.Made.{Made}
use Rattle.pdw_ways.specs.declared.plan.Plan.{Plan}
use Rattle.pdw_ways.specs.declared.plan.Plan.TheFolds.{fold-Plan}
use Rattle.pdw_ways.specs.declared.plan.Plan.TheOpen.{Plan-F}

-- of a plan: what its last node makes, how many nodes it has, the first of them, children first, that is no way, and the cost
pub record Shape : Type 0 where
  pub made : Made
  pub nodes : ℕ
  pub fault : Option ℕ
  pub cost : ℕ

-- ---- the children of a node

abbrev pub nodes_in : List Shape → ℕ
nodes_in shapes = sum_by (λ (shape : Shape). shape.nodes) shapes

abbrev pub cost_in : List Shape → ℕ
cost_in shapes = sum_by (λ (shape : Shape). shape.cost) shapes

abbrev pub made_in : List Shape → List Made
made_in shapes = map (λ (shape : Shape). shape.made) shapes

-- the first fault of plans whose nodes come after so many
abbrev pub fault_after : ℕ → List Shape → Option ℕ
fault_after before [] = None
fault_after before (shape ∷ shapes) = option_or (option_map (λ node. before + node) shape.fault) (fault_after (before + shape.nodes) shapes)

-- the first fault up to a node: one of its children's, or its own number, which comes after all of theirs
abbrev pub fault_at : List Shape → Bool → Option ℕ
fault_at below is_allowed = option_or (fault_after 0 below) (if is_allowed then None else Some (nodes_in below))

-- ---- plans

module _ (groups : List Group) (costs : Costs) where
  abbrev pub shape_step : Plan-F Shape → Shape
  shape_step (Plan-F.Scan group prop) = record {
    made = record { group = group; prop = prop };
    nodes = 1;
    fault = fault_at [] (is_at groups group (λ of. is_scanned of prop));
    cost = 0;
  }
  shape_step (Plan-F.Op group prop children) = record {
    made = record { group = group; prop = prop };
    nodes = suc (nodes_in children);
    fault = fault_at children (is_at groups group (λ of. is_operated of (made_in children) prop));
    cost = cost_in children;
  }
  shape_step (Plan-F.Moved mv child) = record {
    made = record { group = child.made.group; prop = property_after mv };
    nodes = suc child.nodes;
    fault = fault_at (child ∷ []) (is_at groups child.made.group (λ of. is_moved of mv child.made.prop));
    cost = child.cost + costs child.made.group mv;
  }
  shape_step (Plan-F.Free to child) = record {
    made = record { group = child.made.group; prop = to };
    nodes = suc child.nodes;
    fault = fault_at (child ∷ []) (is_at groups child.made.group (λ of. is_freed of child.made.prop to));
    cost = child.cost;
  }

  abbrev pub shape_of : Plan → Shape
  shape_of = fold-Plan Shape shape_step

  -- a plan that makes rows of a group under a property: each node is a way
  pub record IsPlan (plan : Plan) (made : Made) : Type 0 where
    pub allowed : (shape_of plan).fault ≡ None
    pub makes : (shape_of plan).made ≡ made

  -- there is a plan of this cost that makes these rows
  pub record HasPlan (made : Made) (cost : ℕ) : Type 0 where
    pub tree : Plan
    pub is : IsPlan tree made
    pub total : (shape_of tree).cost ≡ cost

-- ---- plans for the query

-- the last group is the root
abbrev pub is_root : List Group → GroupId → Bool
is_root groups number = suc number.0 == length groups

-- the first node that is no way, or the last one, where its group is not the root
abbrev pub query_fault : List Group → Shape → Option ℕ
query_fault groups shape = option_or shape.fault (if is_root groups shape.made.group then None else Some (shape.nodes - 1))
