-- Groups with their meanings. A child of an expression has the number and the meaning of its group.
use Rattle.std.specs.Prelude.{◌≡◌, ⊤, ℕ, List, [], ◌∷◌, ◌++◌, map, Some}
use Rattle.std.specs.List.{AllByRecursion, slice_get}
use Rattle.std.specs.Option.{option_map}
use Rattle.pdw_base.specs.Schema.{Columns}
use Rattle.pdw_base.specs.declared.schema.ColId.{ColId}
use Rattle.pdw_groups.specs.Columns.{interesting_in}
use Rattle.pdw_catalog.specs.Database.{Database}
use Rattle.pdw_groups.specs.Meaning.{Meaning, Stands}
use Rattle.pdw_groups.specs.declared.group.Expr.{Expr}
use Rattle.pdw_groups.specs.declared.group.Group.{Group}
use Rattle.pdw_groups.specs.declared.key.GroupId.{GroupId}
use Rattle.pdw_groups.specs.declared.key.GroupKey.{GroupKey}
use Rattle.pdw_groups.specs.declared.op.Op.{Op}

pub record Child : Type 0 where
  pub number : ℕ
  pub means : Meaning

pub record ExprOf : Type 0 where
  pub operator : Op
  pub children : List Child

pub record GroupOf : Type 0 where
  pub key : GroupKey
  pub means : Meaning
  pub schema : Columns
  pub exprs : List ExprOf

abbrev pub meanings : List Child → List Meaning
meanings children = map (λ child. child.means) children

-- each expression of a group stands for it
abbrev pub EachStands : Database → GroupOf → Type 0
EachStands database group = AllByRecursion (λ expr. Stands database group.means expr.operator (meanings expr.children)) group.exprs

-- a child is one of the groups before: at its number stands a group of its meaning
abbrev pub IsAmong : List GroupOf → Child → Type 0
IsAmong before child = option_map (λ group. group.means) (slice_get before child.number) ≡ Some child.means

-- the children of each group are among those before it, of which these are the first
abbrev pub InOrder : List GroupOf → List GroupOf → Type 0
InOrder before [] = ⊤
InOrder before (group ∷ groups) = AllByRecursion (λ expr. AllByRecursion (IsAmong before) expr.children) group.exprs × InOrder (before ++ group ∷ []) groups

-- ---- as the memo has them

abbrev pub id_of : Child → GroupId
id_of child = record { 0 = child.number }

abbrev pub kept_expr : ExprOf → Expr
kept_expr expr = record { op = expr.operator; children = map id_of expr.children }

-- with the columns that are useful in the whole statement
abbrev pub kept_group : List ColId → GroupOf → Group
kept_group useful group = record {
  key = group.key;
  schema = group.schema;
  interesting = interesting_in useful group.schema;
  exprs = map kept_expr group.exprs;
}
