-- Under which condition on a memo the rows of each group can be brought to one node.
use Rattle.std.specs.Prelude.{◌≡◌, ⊤, ℕ, true, List, [], ◌∷◌, Some}
use Rattle.std.specs.List.{slice_get}
use Rattle.std.specs.Option.{IsSome}
use Rattle.pdw_base.specs.declared.schema.ColId.{ColId}
use Rattle.pdw_groups.specs.declared.group.Expr.{Expr}
use Rattle.pdw_groups.specs.declared.group.Group.{Group}
use Rattle.pdw_groups.specs.declared.key.GroupId.{GroupId}
use Rattle.pdw_groups.specs.declared.op.Op.{Op}
use Rattle.pdw_groups.specs.declared.op.Op.TheVariants as op
use Rattle.pdw_move.specs.declared.kinds.Prop.TheVariants as prop
use Rattle.pdw_rules.specs.Rules.{may_have, scan_property}
use Rattle.pdw_ways.specs.Bounds.{Bound}

-- an operator has as many children as it takes, and a scan stands as the group may have it
abbrev pub IsComplete : List ColId → Op → List GroupId → Type 0
IsComplete interesting (op.Scan table alias cols hash replicated) children = may_have interesting (scan_property hash replicated) ≡ true
IsComplete interesting (op.Filter conds) (child ∷ []) = ⊤
IsComplete interesting (op.Project items) (child ∷ []) = ⊤
IsComplete interesting (op.GroupBy keys aggs) (child ∷ []) = ⊤
IsComplete interesting (op.Partial keys aggs) (child ∷ []) = ⊤
IsComplete interesting (op.Final keys aggs) (child ∷ []) = ⊤
IsComplete interesting (op.Join kind conds) (left ∷ right ∷ []) = ⊤
IsComplete interesting _ _ = ⊥

-- there is a first expression, and it is complete
abbrev pub IsMade : List ColId → List Expr → Type 0
IsMade interesting [] = ⊥
IsMade interesting (expr ∷ exprs) = IsComplete interesting expr.op expr.children

abbrev pub AreMade : List Group → Type 0
AreMade groups = (number : ℕ) (group : Group) → slice_get groups number ≡ Some group → IsMade group.interesting group.exprs

-- the rows of a group can be brought to one node, and from there to each
pub record IsReached (bound : Bound) (number : GroupId) : Type 0 where
  pub single : IsSome (bound (record { group = number; prop = prop.Single }))
  pub replicated : IsSome (bound (record { group = number; prop = prop.Replicated }))
