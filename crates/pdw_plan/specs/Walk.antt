-- A walk over the nodes of a plan, children first, which stops at the first node that is no way.
use Rattle.std.specs.Prelude.{ℕ, ◌+◌, Bool, false, List, [], ◌∷◌, Option, Some, None, Result, Ok, Err}
use Rattle.std.specs.Option.{option_map}
use Rattle.pdw_groups.specs.declared.group.Group.{Group}
use Rattle.pdw_move.specs.declared.kinds.Prop.{Prop}
use Rattle.pdw_plan.specs.declared.node.Children.{Children}
use Rattle.pdw_plan.specs.declared.node.Children.TheVariants as children
use Rattle.pdw_plan.specs.declared.walk.Below.{Below}
use Rattle.pdw_plan.specs.declared.walk.Walked.{Walked}
use Rattle.pdw_ways.specs.Shape.{Shape}
use Rattle.pdw_ways.specs.Ways.{Costs, is_operated}
use Rattle.pdw_ways.specs.declared.made.Made.{Made}
use Rattle.pdw_ways.specs.declared.plan.PlanFault.{PlanFault}

-- ---- what children make

abbrev pub children_of : List Made → Children
children_of [] = children.Nothing
children_of (made ∷ []) = children.One made
children_of (made ∷ second ∷ []) = children.Two made second
children_of (made ∷ second ∷ third ∷ rest) = children.More

abbrev pub with_child : Children → Made → Children
with_child children.Nothing made = children.One made
with_child (children.One first) made = children.Two first made
with_child (children.Two first second) made = children.More
with_child children.More made = children.More

-- an operator of a group over these: none is over nothing or over more than two
abbrev pub operated : Children → Prop → Group → Bool
operated children.Nothing result group = false
operated (children.One child) result group = is_operated group (child ∷ []) result
operated (children.Two left right) result group = is_operated group (left ∷ right ∷ []) result
operated children.More result group = false

-- ---- the walk, after some nodes

-- which nodes are ways is no matter of costs
abbrev pub no_costs : Costs
no_costs group move = 0

-- an answer, unless a node is no way
abbrev pub unless : {X : Type 0} → Option ℕ → Result X PlanFault → Result X PlanFault
unless None answer = answer
unless (Some node) answer = Err (record { node = node })

abbrev pub walked : ℕ → Shape → Result Walked PlanFault
walked before shape = unless (option_map (λ node. before + node) shape.fault) (Ok (record { made = shape.made; next = before + shape.nodes }))

abbrev pub all_walked : Below → List Shape → Result Below PlanFault
all_walked below [] = Ok below
all_walked below (shape ∷ shapes) =
    unless (option_map (λ node. below.next + node) shape.fault) (all_walked (record { children = with_child below.children shape.made; next = below.next + shape.nodes }) shapes)
