-- What a group means, and the bags that it admits.
use Rattle.std.specs.Prelude.{⊤, List, [], ◌∷◌, map}
use Rattle.pdw_algebra.specs.Meaning.{rows_of}
use Rattle.pdw_algebra.specs.declared.tree.Tree.{Tree}
use Rattle.pdw_base.specs.SameBag.{SameBag}
use Rattle.pdw_base.specs.Schema.{Env}
use Rattle.pdw_base.specs.declared.schema.ColId.{ColId}
use Rattle.pdw_catalog.specs.Database.{Database}
use Rattle.pdw_expr.specs.Rows.{filtered, grouped, joined, projected, scanned}
use Rattle.pdw_expr.specs.declared.agg.Agg.{Agg}
use Rattle.pdw_groups.specs.declared.op.Op.{Op}
use Rattle.pdw_groups.specs.declared.op.Op.TheVariants as op
use Rattle.pdw_partial.specs.Partial.{IsPartial, final_rows, partial_rows}

-- a group means what a tree means, or the partial rows of a grouping of what a tree means
pub data Meaning : Type 0 where
  exactly : Tree → Meaning
  partial_of : List ColId → List Agg → Tree → Meaning

-- ---- what operators give

-- of one child, and of two
abbrev pub of_one : (List Env → List Env) → List (List Env) → List Env
of_one give [] = []
of_one give (bag ∷ rest) = give bag

abbrev pub of_two : (List Env → List Env → List Env) → List (List Env) → List Env
of_two give [] = []
of_two give (left ∷ []) = []
of_two give (left ∷ right ∷ rest) = give left right

module _ (database : Database) where
  -- the bag that an operator makes of bags of its children
  abbrev pub given : Op → List (List Env) → List Env
  given (op.Scan table alias cols hash replicated) bags = map (scanned cols) (database.rows table)
  given (op.Filter conds) bags = of_one (filtered conds) bags
  given (op.Project items) bags = of_one (map (projected items)) bags
  given (op.Join kind conds) bags = of_two (joined kind conds) bags
  given (op.GroupBy keys aggs) bags = of_one (grouped keys aggs) bags
  given (op.Partial keys aggs) bags = of_one (partial_rows keys aggs) bags
  given (op.Final keys aggs) bags = of_one (final_rows keys aggs) bags

  -- ---- what groups admit

  -- the bags that a meaning admits: exactly one, up to order; or the partial rows of one or more bags that add up to it
  abbrev pub Admits : Meaning → List Env → Type 0
  Admits (exactly tree) bag = SameBag bag (rows_of database tree)
  Admits (partial_of keys aggs tree) bag = IsPartial keys aggs (rows_of database tree) bag

  -- bags that meanings admit, one for each
  abbrev pub AdmitEach : List Meaning → List (List Env) → Type 0
  AdmitEach [] [] = ⊤
  AdmitEach [] (bag ∷ bags) = ⊥
  AdmitEach (means ∷ more) [] = ⊥
  AdmitEach (means ∷ more) (bag ∷ bags) = Admits means bag × AdmitEach more bags

  -- an operator over children that mean these stands for a meaning: of all bags that its children admit, it makes a bag that
  -- the meaning admits
  pub record Stands (means : Meaning) (operator : Op) (children : List Meaning) : Type 0 where
    pub admitted : (bags : List (List Env)) → AdmitEach children bags → Admits means (given operator bags)
