-- What a search for least plans needs of the groups of a memo.
use Rattle.std.specs.Prelude.{◌≡◌, ◌≤◌, ◌<◌, ◌^◌, ◌*◌, ◌+◌, ⊤, ℕ, suc, List, length, Option, Some, None}
use Rattle.std.specs.List.{AllByRecursion, slice_get, sum_by}
use Rattle.pdw_groups.specs.declared.group.Expr.{Expr}
use Rattle.pdw_groups.specs.declared.group.Group.{Group}
use Rattle.pdw_groups.specs.declared.key.GroupId.{GroupId}
use Rattle.pdw_move.specs.Cost.{AreInRange}
use Rattle.pdw_ways.specs.Bounds.{Bound}
use Rattle.pdw_ways.specs.Costing.{AreReckoned, costs_by, most_of_a_move}
use Rattle.pdw_ways.specs.Ways.{Costs}
use Rattle.pdw_ways.specs.declared.costing.Costing.{Costing}
use Rattle.pdw_ways.specs.declared.made.Made.{Made}

-- the children of each expression have smaller numbers than its group
abbrev pub AreOrdered : List Group → Type 0
AreOrdered groups = (number : ℕ) (group : Group) → slice_get groups number ≡ Some group → AllByRecursion (λ (expr : Expr). AllByRecursion (λ (child : GroupId). child.0 < number) expr.children) group.exprs

-- groups have weights of at most 2^20, by which each expression's children together are lighter than its group
pub record AreLight (groups : List Group) : Type 0 where
  pub weight : ℕ → ℕ
  pub most : (number : ℕ) → weight number ≤ 2 ^ 20
  pub over : (number : ℕ) (group : Group) → slice_get groups number ≡ Some group → AllByRecursion (λ (expr : Expr). suc (sum_by (λ (child : GroupId). weight child.0) expr.children) ≤ weight number) group.exprs

abbrev pub IsWithin : ℕ → Option ℕ → Type 0
IsWithin limit None = ⊤
IsWithin limit (Some bound) = bound ≤ limit

-- what the operators of a group of this weight make costs at most
abbrev pub limit_of_operators : ℕ → ℕ
limit_of_operators weight = 10 * most_of_a_move * weight

-- and what moves and free changes make of it, of which there are few in a row
abbrev pub limit_of : ℕ → ℕ
limit_of weight = limit_of_operators weight + 5 * most_of_a_move

abbrev pub AreWithin : List Group → Bound → Type 0
AreWithin groups bound = (light : AreLight groups) (made : Made) → IsWithin (limit_of (light.weight made.group.0)) (bound made)

-- what moves cost in a memo
abbrev pub costs_of : Costing → Costs
costs_of costing = costs_by costing.n costing.constants.now costing.flows.now

-- what is needed of the groups of a memo and of what their moves are reckoned with
pub record ArePremises (groups : List Group) (costing : Costing) : Type 0 where
  pub few : length groups ≤ 2 ^ 32
  pub ordered : AreOrdered groups
  pub light : AreLight groups
  pub rows : AreReckoned costing.flows.now
  pub constants : AreInRange costing.constants.now
