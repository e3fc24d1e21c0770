-- The local tree of an operator of a group, over the local trees of its children.
use Rattle.std.specs.Prelude.{ℕ, List, [], ◌∷◌, Option, Some, None}
use Rattle.pdw_algebra.specs.declared.local.LocalTree.TheVariants as tree
use Rattle.pdw_algebra.specs.declared.local.LocalTree.{LocalTree}
use Rattle.pdw_groups.specs.declared.group.Expr.{Expr}
use Rattle.pdw_groups.specs.declared.op.Op.TheVariants as op
use Rattle.pdw_groups.specs.declared.op.Op.{Op}

-- a tree without rows: temporary tables are numbered from 1
abbrev pub nothing : LocalTree
nothing = tree.Temp 0

-- of one child's tree, and of two
abbrev pub over_one : (LocalTree → LocalTree) → List LocalTree → LocalTree
over_one make [] = nothing
over_one make (child ∷ rest) = make child

abbrev pub over_two : (LocalTree → LocalTree → LocalTree) → List LocalTree → LocalTree
over_two make [] = nothing
over_two make (left ∷ []) = nothing
over_two make (left ∷ right ∷ rest) = make left right

abbrev pub local_of : Op → List LocalTree → LocalTree
local_of (op.Scan table alias cols hash replicated) children = tree.Base table cols
local_of (op.Filter conds) children = over_one (λ child. tree.Filter conds child) children
local_of (op.Project items) children = over_one (λ child. tree.Project items child) children
local_of (op.Join kind conds) children = over_two (λ left right. tree.Join kind conds left right) children
local_of (op.GroupBy keys aggs) children = over_one (λ child. tree.GroupBy keys aggs child) children
local_of (op.Partial keys aggs) children = over_one (λ child. tree.Partial keys aggs child) children
local_of (op.Final keys aggs) children = over_one (λ child. tree.Final keys aggs child) children

-- the tree of an expression, where there is one
abbrev pub tree_of : Option Expr → List LocalTree → LocalTree
tree_of None children = nothing
tree_of (Some expr) children = local_of expr.op children

-- how many children an operator has
abbrev pub arity : Op → ℕ
arity (op.Scan table alias cols hash replicated) = 0
arity (op.Filter conds) = 1
arity (op.Project items) = 1
arity (op.Join kind conds) = 2
arity (op.GroupBy keys aggs) = 1
arity (op.Partial keys aggs) = 1
arity (op.Final keys aggs) = 1
