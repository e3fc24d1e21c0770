-- What holds of every memo.
use Rattle.std.specs.Prelude.{◌≡◌, ◌≢◌, ⊤, ℕ, suc, ◌^◌, ◌<◌, ◌≤◌, Bool, true, is_some, AllPairs, List, [], ◌∷◌, length, map, sum_by, Option, Some}
use Rattle.std.specs.List.{AllByRecursion, slice_get}
use Rattle.pdw_algebra.specs.Shape.{are_apart, has_number}
use Rattle.pdw_base.specs.declared.schema.ColId.{ColId}
use Rattle.pdw_catalog.specs.Catalog.{Tables, table_named}
use Rattle.pdw_catalog.specs.declared.table.Table.{Table}
use Rattle.pdw_groups.specs.Columns.{hash_in, replicated_in}
use Rattle.pdw_groups.specs.Meaning.{Meaning}
use Rattle.pdw_groups.specs.Memo.{Contents, meanings_of}
use Rattle.pdw_groups.specs.declared.group.Expr.{Expr}
use Rattle.pdw_groups.specs.declared.group.Group.{Group}
use Rattle.pdw_groups.specs.declared.key.GroupId.{GroupId}
use Rattle.pdw_groups.specs.declared.op.Op.{Op}
use Rattle.pdw_groups.specs.declared.op.Op.TheVariants as op
use Rattle.pdw_memo.specs.Memo.{IsMemo}
use Rattle.pdw_partial.specs.Partial.{KeysApart}

-- what the groups of a memo mean, by number
abbrev pub meanings_in : (contents : Contents) → IsMemo contents → List Meaning
meanings_in contents memo = meanings_of memo.tables memo.levels memo.tree

-- the interesting columns of a group are columns of its schema
abbrev pub HasItsColumns : Group → Type 0
HasItsColumns group = AllByRecursion (λ c. has_number c group.schema ≡ true) group.interesting

-- no aggregate of an operator makes one of its keys
abbrev pub MakesNoKey : Op → Type 0
MakesNoKey (op.GroupBy keys aggs) = KeysApart keys aggs
MakesNoKey (op.Partial keys aggs) = KeysApart keys aggs
MakesNoKey (op.Final keys aggs) = KeysApart keys aggs
MakesNoKey _ = ⊤

-- what holds of each expression of each group, by the group's number
abbrev pub OfEachExpr : List Group → (Expr → Type 0) → Type 0
OfEachExpr groups P = (number : ℕ) (group : Group) → slice_get groups number ≡ Some group → AllByRecursion P group.exprs

-- no two expressions of a group have the same children
abbrev pub HasDifferentChildren : Group → Type 0
HasDifferentChildren group = AllPairs (λ a b. a.children ≢ b.children) group.exprs

-- a group has at least one expression
abbrev pub HasExpression : Group → Type 0
HasExpression group = 1 ≤ length group.exprs

-- ---- joins

-- the groups of two numbers have no column in common
abbrev pub AreApartAt : List Group → GroupId → GroupId → Type 0
AreApartAt groups left right = (l r : Group) → slice_get groups left.0 ≡ Some l → slice_get groups right.0 ≡ Some r → are_apart l.schema r.schema ≡ true

abbrev pub AreTwoApart : List Group → List GroupId → Type 0
AreTwoApart groups (left ∷ right ∷ []) = AreApartAt groups left right
AreTwoApart groups _ = ⊥

-- a join has two sides, which are groups that have no column in common
abbrev pub HasApartSides : List Group → Op → List GroupId → Type 0
HasApartSides groups (op.Join kind conds) children = AreTwoApart groups children
HasApartSides groups _ children = ⊤

-- ---- scans

-- a scan of a table that is known has no child, its rows are placed as the table's are, and the columns that it reads have
-- different numbers
pub record IsScanOf (table : Option Table) (cols : List (ColId × ℕ)) (by_hash : Option ColId) (whole : Bool) (children : List GroupId) : Type 0 where
  pub known : is_some table ≡ true
  pub alone : children ≡ []
  pub hash : by_hash ≡ hash_in table cols
  pub replicated : whole ≡ replicated_in table
  pub different : AllPairs (λ a b. a.0 ≢ b.0) (map (λ col. col.0) cols)

abbrev pub ReadsItsTable : Tables → Op → List GroupId → Type 0
ReadsItsTable tables (op.Scan table alias cols hash replicated) children = IsScanOf (table_named table tables) cols hash replicated children
ReadsItsTable tables _ children = ⊤

-- ---- weights

-- each group has a weight, at most 2 ^ 20, and each of its expressions weighs one more than its children together and at most the
-- group: so a plan of the group, by one of its expressions over a plan of each child, has at most as many operators as the group weighs
pub record IsLight (groups : List Group) : Type 0 where
  pub weight : ℕ → ℕ
  pub each : (number : ℕ) (group : Group) → slice_get groups number ≡ Some group
      → AllByRecursion (λ (expr : Expr). suc (sum_by (λ (child : GroupId). weight child.0) expr.children) ≤ weight number) group.exprs
  pub few : (number : ℕ) → number < length groups → weight number ≤ 2 ^ 20
